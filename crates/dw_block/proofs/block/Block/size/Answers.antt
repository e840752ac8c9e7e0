use Rattle.std.proofs.Common.{◌∙◌, ap, length}
use Rattle.dw_block.specs.Blocks.{block_bytes}
use Rattle.dw_block.proofs.Reading.{size_is}
use Rattle.dw_block.proofs.block.Block.size.Goals as goal

pub returns : goal.returns
returns c =
    let b = c.self.inside in
    ap length c.as_slice.ensures.value ∙ size_is b.encoding b.kind b.count b.bytes.items b.zone b.content ∙ ap (λ s. length (block_bytes s.encoding s.kind s.values)) c.self.view_is
