-- One more chunk.
use Rattle.std.proofs.Common.{◌+◌, sym, ap, subst, ◌∙◌, List, take, ◌||◌, Bool}
use Rattle.std.specs.List.{list_any, AllZip}
use Rattle.std.proofs.lemmas.List.Elements.{all_zip_more}
use Rattle.dw_slice.specs.declared.chunks.Chunk.{Chunk}
use Rattle.dw_slice.specs.Building.{IsMarkedChunk, chunk_goes}
use Rattle.dw_slice.proofs.Marking.{any_more}
use Rattle.dw_slice.proofs.chunks.marked_chunks.Goals as goal

pub loop-chunk-preserved : goal.loop-chunk-preserved
loop-chunk-preserved c =
    let xs = c.args.chunks.now in
    record {
      chunks = subst (λ (cs : List Chunk). AllZip (IsMarkedChunk c.args.stamp c.args.gone.now) (take (c.loop-chunk.chunk-index + 1) xs) cs) (sym c.in_ok-push.ensures.items)
          (all_zip_more (IsMarkedChunk c.args.stamp c.args.gone.now) xs c.loop-chunk.found.items c.loop-chunk.chunk-index c.chunk-item.result c.in_ok-next.next c.loop-chunk-test.true c.chunk-item.is c.loop-chunk.invariant.chunks c.in_ok-next.ensures.chunk);
      goes = c.either-any.ensures ∙ ap (λ (t : Bool). t || c.in_ok-next.goes) c.loop-chunk.invariant.goes ∙ ap (λ (t : Bool). list_any (chunk_goes c.args.gone.now) (take c.loop-chunk.chunk-index xs) || t) c.in_ok-next.ensures.goes
          ∙ sym (any_more (chunk_goes c.args.gone.now) xs c.loop-chunk.chunk-index c.chunk-item.result c.loop-chunk-test.true c.chunk-item.is);
    }
