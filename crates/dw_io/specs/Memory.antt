-- Words of the files and the sink that are held in memory. They are this project's own.
use Rattle.std.specs.Prelude.{ℕ, Bool, ◌==◌, if◌then◌else◌, List, [], ◌∷◌, drop, bytes_eq, slice_get, Option, None, Some}
use Rattle.std.specs.List.{list_any}
use Rattle.std.specs.Option.{option_map_or}

-- what files in memory are: the name and the bytes of each, what is left of the current one, the numbers of the calls
-- that are to fail, how many calls there were, and how many faults
pub record MemoryOfFiles : Type 0 where
  pub entries : List (List ℕ × List ℕ)
  pub left : List ℕ
  pub fails : List ℕ
  pub calls : ℕ
  pub faults : ℕ

-- what a sink in memory is: the bytes so far, the numbers of the writes that are to fail, how many writes there were,
-- and how many faults
pub record MemoryOfSink : Type 0 where
  pub bytes : List ℕ
  pub fails : List ℕ
  pub calls : ℕ
  pub faults : ℕ

-- the bytes of the first file of a name
abbrev pub bytes_under : List (List ℕ × List ℕ) → List ℕ → Option (List ℕ)
bytes_under [] name = None
bytes_under (entry ∷ entries) name = if bytes_eq entry.0 name then Some entry.1 else bytes_under entries name

-- whether the call of that number, counted from 1, is to fail
abbrev pub fails_at : List ℕ → ℕ → Bool
fails_at fails number = list_any (λ fail. fail == number) fails

-- the bytes of the file at a place
abbrev pub bytes_at : List (List ℕ × List ℕ) → ℕ → List ℕ
bytes_at entries place = option_map_or (λ entry. entry.1) (slice_get entries place) []

-- what is left of the current file, whose place may be none, once `read` of its bytes were read
abbrev pub left_of : List (List ℕ × List ℕ) → Option ℕ → ℕ → List ℕ
left_of entries None read = []
left_of entries (Some place) read = drop read (bytes_at entries place)
