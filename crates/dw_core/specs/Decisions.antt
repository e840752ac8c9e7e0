-- How a commit is decided, over the commits so far.
use Rattle.std.specs.Prelude.{◌≡◌, ◌+◌, ◌<◌, ◌≤◌, ◌∷◌, length, Some}
use Rattle.dw_journal.specs.declared.Taken.{Taken}
use Rattle.dw_journal.specs.Watermarks.{low_watermark, high_watermark, violated_object}
use Rattle.dw_ssn.specs.CommitList.{CommitList}
use Rattle.dw_core.specs.declared.decisions.Committed.{Committed}
use Rattle.dw_core.specs.declared.decisions.Committed.TheVariants.{Stamped, Violation, Memory}

-- A transaction is committed where its low watermark is above its high one, or there is no memory for it. Else it is a
-- violation. The oldest number stays.
abbrev pub IsDecided : Taken → CommitList → CommitList → Committed → Type 0
IsDecided taken before after (Stamped stamp low high) =
    (stamp ≡ length before.commits + 1)
    × (low ≡ low_watermark taken before.commits) × (high ≡ high_watermark taken before.commits) × (high < low)
    × (after ≡ record { oldest = before.oldest; commits = record { low = low; taken = taken } ∷ before.commits })
IsDecided taken before after (Violation low high object) =
    (low ≡ low_watermark taken before.commits) × (high ≡ high_watermark taken before.commits) × (low ≤ high)
    × (violated_object taken before.commits ≡ Some object) × (after ≡ before)
IsDecided taken before after Memory =
    (high_watermark taken before.commits < low_watermark taken before.commits) × (after ≡ before)
