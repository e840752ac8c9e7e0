-- No chunks are those of a slice.
use Rattle.dw_slice.specs.Columns.{columns_of}
use Rattle.dw_slice.proofs.Changing.{empty_slice}
use Rattle.dw_slice.proofs.slices.Slice.empty.Goals as goal

pub invariant_of-result : goal.invariant_of-result
invariant_of-result c = empty_slice (columns_of c.args.def.now) c.in_ok-columns.columns.items c.new.result.items c.in_ok-columns.ensures c.new.ensures.items c.requires
