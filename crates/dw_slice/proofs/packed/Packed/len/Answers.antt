-- There are as many rows as the count.
use Rattle.std.proofs.Common.{length, sym, ap, ◌∙◌}
use Rattle.std.proofs.lemmas.List.FromFn.{length-map-range_with_len}
use Rattle.dw_slice.specs.Grid.{row_at}
use Rattle.dw_slice.specs.Packed.{PackedView, values_in}
use Rattle.dw_slice.proofs.packed.Packed.len.Goals as goal

pub returns-clause-count : goal.returns-clause-count
returns-clause-count c =
    sym (length-map-range_with_len (row_at (values_in c.self.inside.blocks.items)) 0 c.self.inside.count) ∙ ap (λ (p : PackedView). length p.rows) c.self.view_is
