-- The chunks are those of a slice.
use Rattle.std.proofs.Common.{◌∙◌, refl}
use Rattle.dw_slice.specs.Columns.{columns_of}
use Rattle.dw_slice.specs.Chunks.{all_entries}
use Rattle.dw_slice.proofs.Changing.{same_view, cut_slice}
use Rattle.dw_slice.proofs.slices.Slice.of_entries.Goals as goal

pub invariant_of-result : goal.invariant_of-result
invariant_of-result c =
    cut_slice (columns_of c.args.def.now) c.in_ok-columns.columns.items _ c.args.entries.now c.in_ok-chunks.chunks.items c.in_ok-columns.ensures c.as_slice.ensures.value c.in_ok-chunks.ensures.cut c.requires.columns
    (c.in_ok-chunks.ensures.entries ∙ c.as_slice-2.ensures.items) c.requires.entries

pub returns : goal.returns
returns c =
    same_view c.in_ok-columns.columns.items (columns_of c.args.def.now) c.args.number c.args.number (all_entries c.in_ok-chunks.chunks.items) c.args.entries.now c.in_ok-columns.ensures refl
    (c.in_ok-chunks.ensures.entries ∙ c.as_slice-2.ensures.items)
