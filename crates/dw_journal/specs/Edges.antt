-- Edges between committed transactions, after the Serial Safety Net paper of Wang, Johnson, Fekete and Pandis: which
-- one has to come before which in a serial order. They are read off the list of commits, newest first; the stamp of a
-- commit is the length of the list from it on.
use Rattle.std.specs.Prelude.{◌≡◌, ◌≤◌, ◌<◌, List, [], ◌∷◌, length}
use Rattle.dw_journal.specs.declared.Certified.{Certified}
use Rattle.dw_journal.specs.Watermarks.{low_watermark, high_watermark}

-- Each of these commits was certified over those before it: it saw no commit but theirs, its low watermark is the one
-- over them, and its high watermark is below it.
abbrev pub IsCertified : List Certified → Type 0
IsCertified [] = Unit {0}
IsCertified (commit ∷ older) =
    (commit.taken.snapshot ≤ length older) × (commit.low ≡ low_watermark commit.taken older)
    × (high_watermark commit.taken older < commit.low) × IsCertified older
