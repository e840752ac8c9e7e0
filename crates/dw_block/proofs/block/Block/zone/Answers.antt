use Rattle.std.proofs.Common.{◌∙◌, ap}
use Rattle.dw_block.specs.Zones.{zone_of}
use Rattle.dw_block.proofs.Reading.{zone_is}
use Rattle.dw_block.proofs.block.Block.zone.Goals as goal

pub returns : goal.returns
returns c =
    let b = c.self.inside in
    zone_is b.encoding b.kind b.count b.bytes.items b.zone b.content ∙ ap (λ s. zone_of s.values) c.self.view_is
