-- Chunks: up to 4,096 rows with their marks.
use Rattle.std.specs.Prelude.{◌≡◌, ℕ, suc, ◌<◌, ◌≤◌, nat_eq, List, [], ◌∷◌, length, All, slice_index_or}
use Rattle.std.specs.List.{flat_map, IsDistinct}
use Rattle.std.specs.Arc.{arc_value}
use Rattle.dw_value.specs.declared.values.Row.{Row}
use Rattle.dw_slice.specs.declared.packed.Storage.{Storage}
use Rattle.dw_slice.specs.declared.marks.Mark.{Mark}
use Rattle.dw_slice.specs.declared.chunks.Chunk.{Chunk}
use Rattle.dw_slice.specs.declared.slices.Entry.{Entry}
use Rattle.dw_slice.specs.Columns.{IsStorage, FitsColumns}
use Rattle.dw_slice.specs.Packed.{PackedView}
use Rattle.dw_slice.specs.Slices.{SliceView, ids_of, rows_of}

abbrev pub entry_of : Mark → Row → Entry
entry_of mark row =
    record { id = mark.id; inserted = mark.inserted; deleted = mark.deleted; sorted = mark.sorted; row = row }

-- each mark with the row at its place
abbrev pub zip_entries : List Mark → List Row → List Entry
zip_entries [] rows = []
zip_entries (mark ∷ marks) [] = []
zip_entries (mark ∷ marks) (row ∷ rows) = entry_of mark row ∷ zip_entries marks rows

abbrev pub marks_in : Chunk → List Mark
marks_in chunk = arc_value chunk.marks

abbrev pub packed_in : Chunk → PackedView
packed_in chunk = arc_value chunk.packed

abbrev pub chunk_entries : Chunk → List Entry
chunk_entries chunk = zip_entries (marks_in chunk) (packed_in chunk).rows

-- the entries of chunks, one chunk after another
abbrev pub all_entries : List Chunk → List Entry
all_entries chunks = flat_map chunk_entries chunks

-- a chunk of these columns has 1 to 4,096 marks, and as many rows
pub record IsChunk (columns : List Storage) (chunk : Chunk) : Type 0 where
  pub columns_are : (packed_in chunk).columns ≡ columns
  pub paired : length (marks_in chunk) ≡ length (packed_in chunk).rows
  pub some : 0 < length (marks_in chunk)
  pub few : length (marks_in chunk) ≤ 4096

-- all chunks but the last one are full
pub record IsCut (columns : List Storage) (chunks : List Chunk) : Type 0 where
  pub each : All (IsChunk columns) chunks
  pub full : (k : ℕ) (d : Chunk) → suc k < length chunks → length (marks_in (slice_index_or chunks k d)) ≡ 4096

-- what a slice of these chunks shows
abbrev pub shown : List Storage → ℕ → List Chunk → SliceView
shown columns number chunks = record { columns = columns; number = number; entries = all_entries chunks }

-- what a slice keeps of its columns and chunks
pub record IsSlice (columns : List Storage) (chunks : List Chunk) : Type 0 where
  pub storable : All IsStorage columns
  pub cut : IsCut columns chunks
  pub fit : All (FitsColumns columns) (rows_of (all_entries chunks))
  pub different : IsDistinct nat_eq (ids_of (all_entries chunks))
