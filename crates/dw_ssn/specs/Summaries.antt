-- The summaries that a certifier keeps of the commits, and when they stand for a list of them.
use Rattle.std.specs.Prelude.{◌≡◌, ℕ, ◌≤◌, ◌∷◌, nat_lt, if◌then◌else◌, List, [], length, map}
use Rattle.dw_model.specs.declared.objects.Object.{Object}
use Rattle.dw_model.specs.Objects.{IsAscendingObjects, same_object}
use Rattle.dw_journal.specs.declared.Certified.{Certified}
use Rattle.dw_ssn.specs.declared.summaries.Newest.{Newest}
use Rattle.dw_ssn.specs.declared.summaries.Recent.{Recent}
use Rattle.dw_ssn.specs.CommitList.{CommitList, newest_writer, newest_reader, entry_count}

-- The oldest number, the number of commits and that of entries; the objects that were read or written, with the newest
-- stamps of each; and the commits past the oldest number, the newest first.
pub record Summaries : Type 0 where
  pub oldest : ℕ
  pub count : ℕ
  pub kept : ℕ
  pub objects : List Object
  pub stamps : List Newest
  pub recent : List Recent

-- the newest stamps that are kept of an object; zeros where none are
abbrev pub newest_at : Object → List Object → List Newest → Newest
newest_at object [] stamps = record { writer = 0; reader = 0 }
newest_at object (first ∷ rest) [] = record { writer = 0; reader = 0 }
newest_at object (first ∷ rest) (stamp ∷ stamps) =
    if same_object object first then stamp else newest_at object rest stamps

-- the newest stamps of an object over all commits
abbrev pub newest_of : Object → List Certified → Newest
newest_of object commits =
    record { writer = newest_writer object commits; reader = newest_reader object commits }

-- what is kept of a commit after these older ones: beside each object that it wrote, the writer before it
abbrev pub recent_as : Certified → List Certified → Recent
recent_as commit older = record {
  low = commit.low;
  writes = commit.taken.writes;
  before = map (λ object. newest_writer object older) commit.taken.writes;
}

-- of each commit past the oldest number
abbrev pub recent_of : ℕ → List Certified → List Recent
recent_of oldest [] = []
recent_of oldest (commit ∷ older) =
    if nat_lt oldest (length (commit ∷ older)) then recent_as commit older ∷ recent_of oldest older else []

-- what each commit wrote is a set
abbrev pub WriteSets : List Certified → Type 0
WriteSets [] = Unit {0}
WriteSets (commit ∷ older) = IsAscendingObjects commit.taken.writes × WriteSets older

-- The summaries stand for a list of commits. Of each object they have the newest reader and the newest writer; a writer
-- past the oldest number leads to the one before it, down to the newest one at or before the oldest number.
pub record StandsFor (summaries : Summaries) (list : CommitList) : Type 0 where
  pub oldest_is : summaries.oldest ≡ list.oldest
  pub count_is : summaries.count ≡ length list.commits
  pub within : list.oldest ≤ length list.commits
  pub newest_are : (object : Object)
      → newest_at object summaries.objects summaries.stamps ≡ newest_of object list.commits
  pub recent_are : summaries.recent ≡ recent_of list.oldest list.commits
  pub kept_is : summaries.kept ≡ entry_count list.oldest list.commits
  pub sets : WriteSets list.commits
