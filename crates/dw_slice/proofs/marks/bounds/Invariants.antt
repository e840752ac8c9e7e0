-- The ids so far are within the bounds.
use Rattle.std.proofs.Common.{take}
use Rattle.std.specs.Prelude.{All}
use Rattle.dw_slice.specs.Marks.{HasIdWithin}
use Rattle.dw_slice.proofs.marks.bounds.Given as goal

abbrev pub invariant-loop-mark : goal.invariant-loop-mark
invariant-loop-mark l = All (HasIdWithin l.least l.greatest) (take l.mark-index l.marks)
