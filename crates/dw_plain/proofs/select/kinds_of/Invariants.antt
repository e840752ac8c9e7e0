-- The kinds of the names so far.
use Rattle.std.proofs.Common.{◌≡◌, map, take}
use Rattle.dw_model.specs.Selection.{kind_of}
use Rattle.dw_plain.proofs.select.kinds_of.Given as goal

abbrev pub invariant-loop-name : goal.invariant-loop-name
invariant-loop-name l = l.kinds.items ≡ map (kind_of l.columns) (take l.name-index l.names)
