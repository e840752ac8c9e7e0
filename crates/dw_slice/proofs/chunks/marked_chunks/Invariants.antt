-- The chunks so far, with the deletions.
use Rattle.std.proofs.Common.{◌≡◌, take}
use Rattle.std.specs.List.{list_any, AllZip}
use Rattle.dw_slice.specs.Building.{IsMarkedChunk, chunk_goes}
use Rattle.dw_slice.proofs.chunks.marked_chunks.Given as goal

abbrev pub invariant-loop-chunk : goal.invariant-loop-chunk
invariant-loop-chunk l = record {
  chunks : AllZip (IsMarkedChunk l.stamp l.gone) (take l.chunk-index l.chunks) l.found.items;
  goes : l.any ≡ list_any (chunk_goes l.gone) (take l.chunk-index l.chunks);
}
