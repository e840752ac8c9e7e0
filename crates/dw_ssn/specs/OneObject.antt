-- What one object adds to the watermarks of a transaction that read or wrote it.
use Rattle.std.specs.Prelude.{ℕ, min, ◌&&◌, nat_lt, nat_le, if◌then◌else◌, List, [], ◌∷◌, length}
use Rattle.dw_model.specs.declared.objects.Object.{Object}
use Rattle.dw_model.specs.Objects.{is_among}
use Rattle.dw_journal.specs.declared.Certified.{Certified}

-- the least low watermark of a commit after the snapshot that wrote the object, or the stamp
abbrev pub low_at : ℕ → ℕ → Object → List Certified → ℕ
low_at stamp snapshot object [] = stamp
low_at stamp snapshot object (commit ∷ older) =
    if nat_lt snapshot (length (commit ∷ older)) && is_among object commit.taken.writes
    then min commit.low (low_at stamp snapshot object older) else low_at stamp snapshot object older

-- the greatest stamp of a commit at or before the snapshot that wrote the object, or 0
abbrev pub seen_at : ℕ → Object → List Certified → ℕ
seen_at snapshot object [] = 0
seen_at snapshot object (commit ∷ older) =
    if nat_le (length (commit ∷ older)) snapshot && is_among object commit.taken.writes
    then length (commit ∷ older) else seen_at snapshot object older

-- the part of the commits up to a stamp
abbrev pub up_to : ℕ → List Certified → List Certified
up_to stamp [] = []
up_to stamp (commit ∷ older) = if nat_le (length (commit ∷ older)) stamp then commit ∷ older else up_to stamp older
