-- Where the certifier is pruned: at the horizon, just after each commit.
use Rattle.std.specs.Prelude.{ℕ, min, max, List, [], ◌∷◌, Option, option_map}
use Rattle.dw_journal.specs.Transactions.{horizon}
use Rattle.dw_ssn.specs.CommitList.{CommitList}
use Rattle.dw_core.specs.declared.decisions.Committed.{Committed}
use Rattle.dw_core.specs.declared.decisions.Committed.TheVariants.{Stamped}
use Rattle.dw_core.specs.declared.sessions.Session.{Session}
use Rattle.dw_core.specs.CoreInvariant.{taken_in}

-- the snapshot that is kept of a session's open transaction
abbrev pub kept_snapshot : Session → Option ℕ
kept_snapshot session = option_map (λ taken. taken.snapshot) (taken_in session.transaction)

-- the least of a number and of these
abbrev pub least_among : ℕ → List ℕ → ℕ
least_among number [] = number
least_among number (other ∷ others) = min other (least_among number others)

-- a transaction that is committed raises the oldest number as far as the horizon
abbrev pub settled : Committed → ℕ → CommitList → CommitList
settled (Stamped stamp low high) horizon list = record { oldest = max list.oldest horizon; commits = list.commits }
settled decided horizon list = list
