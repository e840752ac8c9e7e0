-- Slices of a table: the entries that lie on one, which of them a snapshot sees, and what a commit does to them. A
-- row's versions are told by the stamps of its commits, after the Serial Safety Net paper; ids, change numbers and
-- blocks of 4,096 entries are this project's own.
use Rattle.std.specs.Prelude.{ℕ, ◌+◌, ◌*◌, ◌/◌, nat_eq, nat_le, nat_lt, ◌==◌, Bool, true, false, ◌&&◌, Option, Some, None, List, [], ◌∷◌, ◌++◌, map, length, take, drop, filter, All, if◌then◌else◌}
use Rattle.std.specs.List.{list_any, IsDistinct}
use Rattle.std.specs.Option.{is_none}
use Rattle.dw_value.specs.declared.values.Row.{Row}
use Rattle.dw_slice.specs.declared.packed.Storage.{Storage}
use Rattle.dw_slice.specs.declared.slices.Entry.{Entry}
use Rattle.dw_slice.specs.declared.slices.Fresh.{Fresh}
use Rattle.dw_slice.specs.Columns.{FitsColumns}

-- what a slice shows: how its columns are stored, how often it was changed, and its entries
pub record SliceView : Type 0 where
  pub columns : List Storage
  pub number : ℕ
  pub entries : List Entry

abbrev pub ids_of : List Entry → List ℕ
ids_of entries = map (λ (entry : Entry). entry.id) entries

abbrev pub rows_of : List Entry → List Row
rows_of entries = map (λ (entry : Entry). entry.row) entries

abbrev pub fresh_ids : List Fresh → List ℕ
fresh_ids fresh = map (λ (one : Fresh). one.id) fresh

abbrev pub fresh_rows : List Fresh → List Row
fresh_rows fresh = map (λ (one : Fresh). one.row) fresh

-- entries that a slice of these columns may have
pub record AreEntries (columns : List Storage) (entries : List Entry) : Type 0 where
  pub fit : All (FitsColumns columns) (rows_of entries)
  pub different : IsDistinct nat_eq (ids_of entries)

-- a snapshot comes before a deletion, and before none
abbrev pub is_before : ℕ → Option ℕ → Bool
is_before snapshot None = true
is_before snapshot (Some deleted) = nat_lt snapshot deleted

-- a snapshot sees what was inserted at or before it and not deleted by then
abbrev pub visible : ℕ → Entry → Bool
visible snapshot entry = nat_le entry.inserted snapshot && is_before snapshot entry.deleted

-- of an entry a reader sees the id and the row
abbrev pub seen_of : Entry → ℕ × Row
seen_of entry = (entry.id, entry.row)

-- what a snapshot sees of entries, in their order
abbrev pub seen : ℕ → List Entry → List (ℕ × Row)
seen snapshot entries = map seen_of (filter (visible snapshot) entries)

abbrev pub fresh_seen : Fresh → ℕ × Row
fresh_seen fresh = (fresh.id, fresh.row)

-- the id is one of these
abbrev pub is_among : List ℕ → ℕ → Bool
is_among ids id = list_any (λ other. other == id) ids

-- the entry goes with these ids: it has one of them, and no deletion yet
abbrev pub goes : List ℕ → Entry → Bool
goes gone entry = is_none entry.deleted && is_among gone entry.id

-- such an entry is deleted at the stamp, and another one stays as it is
abbrev pub marked_entry : ℕ → List ℕ → Entry → Entry
marked_entry stamp gone entry = if goes gone entry then record entry { deleted = Some stamp } else entry

abbrev pub marked : ℕ → List ℕ → List Entry → List Entry
marked stamp gone entries = map (marked_entry stamp gone) entries

-- a fresh row is inserted at the stamp, unsorted
abbrev pub new_entry : ℕ → Fresh → Entry
new_entry stamp fresh = record { id = fresh.id; inserted = stamp; deleted = None; sorted = false; row = fresh.row }

-- and stands after all entries that are there
abbrev pub appended : ℕ → List Fresh → List Entry → List Entry
appended stamp fresh entries = entries ++ map (new_entry stamp) fresh

-- something is marked or appended
abbrev pub changes : List ℕ → List Fresh → List Entry → Bool
changes gone [] entries = list_any (goes gone) entries
changes gone (one ∷ more) entries = true

-- the slice after a commit
abbrev pub changed_slice : ℕ → List ℕ → List Fresh → SliceView → SliceView
changed_slice stamp gone fresh slice =
    let number = if changes gone fresh slice.entries then slice.number + 1 else slice.number in
    let entries = appended stamp fresh (marked stamp gone slice.entries) in
    record { columns = slice.columns; number = number; entries = entries }

-- how many blocks each column has
abbrev pub block_count : List Entry → ℕ
block_count entries = (length entries + 4095) / 4096

-- the entries of one block
abbrev pub block_of : List Entry → ℕ → List Entry
block_of entries block = take 4096 (drop (4096 * block) entries)
