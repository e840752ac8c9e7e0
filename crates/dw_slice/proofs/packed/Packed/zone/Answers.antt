-- The zone of a block is that of its column.
use Rattle.std.proofs.Common.{◌<◌, length, sym, ap, ◌∙◌, arith}
use Rattle.std.proofs.lemmas.List.{length-map}
use Rattle.dw_block.specs.Blocks.{BlockView}
use Rattle.dw_block.specs.Zones.{zone_of}
use Rattle.dw_slice.specs.Grid.{column_of}
use Rattle.dw_slice.specs.Packed.{PackedView, storage_in}
use Rattle.dw_slice.proofs.Packing.{column_back}
use Rattle.dw_slice.proofs.packed.Packed.zone.Goals as goal

pub returns : goal.returns
returns c =
    let blocks = c.self.inside.blocks.items in
    let within : c.args.column < length blocks = omega (arith, length-map blocks storage_in, ap (λ (p : PackedView). length p.columns) c.self.view_is) in
    c.zone.ensures
    ∙ ap zone_of (ap (λ (b : BlockView). b.values) c.index.ensures ∙ sym (column_back c.self.inside.count blocks c.args.column c.index.result.now c.self.invariant within) ∙ ap (λ (p : PackedView). column_of p.rows c.args.column) c.self.view_is)
