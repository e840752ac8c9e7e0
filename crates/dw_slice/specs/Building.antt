-- Chunks with new deletions, and full chunks with entries after them.
use Rattle.std.specs.Prelude.{◌≡◌, ℕ, ◌<◌, Bool, List, ◌++◌, map, length, All}
use Rattle.std.specs.List.{list_any}
use Rattle.dw_slice.specs.declared.packed.Storage.{Storage}
use Rattle.dw_slice.specs.declared.chunks.Chunk.{Chunk}
use Rattle.dw_slice.specs.declared.chunks.ChunkBuilder.{ChunkBuilder}
use Rattle.dw_slice.specs.declared.slices.Entry.{Entry}
use Rattle.dw_slice.specs.Columns.{FitsColumns}
use Rattle.dw_slice.specs.Marks.{mark_goes, marked_mark}
use Rattle.dw_slice.specs.Chunks.{marks_in, packed_in, all_entries, zip_entries, IsChunk}

-- a mark of the chunk goes with these ids
abbrev pub chunk_goes : List ℕ → Chunk → Bool
chunk_goes gone chunk = list_any (mark_goes gone) (marks_in chunk)

-- the second chunk is the first one with the deletions
pub record IsMarkedChunk (stamp : ℕ) (gone : List ℕ) (before after : Chunk) : Type 0 where
  pub marks : marks_in after ≡ map (marked_mark stamp gone) (marks_in before)
  pub packed : packed_in after ≡ packed_in before

-- the entries of a builder
abbrev pub built : ChunkBuilder → List Entry
built builder = all_entries builder.chunks.items ++ zip_entries builder.marks.items builder.rows.items

pub record IsFullChunk (columns : List Storage) (chunk : Chunk) : Type 0 where
  pub is : IsChunk columns chunk
  pub all : length (marks_in chunk) ≡ 4096

-- a builder has full chunks, and fewer entries after them than make one
pub record IsBuilding (columns : List Storage) (builder : ChunkBuilder) : Type 0 where
  pub full : All (IsFullChunk columns) builder.chunks.items
  pub paired : length builder.marks.items ≡ length builder.rows.items
  pub few : length builder.rows.items < 4096
  pub fit : All (FitsColumns columns) builder.rows.items
