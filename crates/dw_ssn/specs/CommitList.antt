-- The list of commits that a certifier stands for, and what of it is kept.
use Rattle.std.specs.Prelude.{ℕ, ◌+◌, ◌==◌, ◌||◌, nat_lt, if◌then◌else◌, List, [], ◌∷◌, length}
use Rattle.std.specs.List.{filter}
use Rattle.dw_model.specs.declared.objects.Object.{Object}
use Rattle.dw_model.specs.Objects.{is_among}
use Rattle.dw_journal.specs.declared.Certified.{Certified}

-- the oldest snapshot that a transaction may still have, and all commits, the newest first
pub record CommitList : Type 0 where
  pub oldest : ℕ
  pub commits : List Certified

-- the greatest stamp of a commit that wrote the object, or 0
abbrev pub newest_writer : Object → List Certified → ℕ
newest_writer object [] = 0
newest_writer object (commit ∷ older) =
    if is_among object commit.taken.writes then length (commit ∷ older) else newest_writer object older

-- the greatest stamp of a commit that read the object, or 0
abbrev pub newest_reader : Object → List Certified → ℕ
newest_reader object [] = 0
newest_reader object (commit ∷ older) =
    if is_among object commit.taken.reads then length (commit ∷ older) else newest_reader object older

-- The number of entries that are kept: of each object one for each of its writers past the oldest number, and one for
-- all its writers at or before it, which counts at the first of them.
abbrev pub entry_count : ℕ → List Certified → ℕ
entry_count oldest [] = 0
entry_count oldest (commit ∷ older) =
    length (filter (λ object. nat_lt oldest (length (commit ∷ older)) || (newest_writer object older == 0))
    commit.taken.writes)
    + entry_count oldest older
