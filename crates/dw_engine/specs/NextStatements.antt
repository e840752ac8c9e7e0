-- What the next statement of a session calls for.
use Rattle.std.specs.Prelude.{◌≡◌, ℕ, Option, Some, None}
use Rattle.dw_model.specs.declared.refusals.Refusal.{Refusal}
use Rattle.dw_model.specs.declared.statements.Statement.{Statement}
use Rattle.dw_model.specs.Bound.{bound_refusal}
use Rattle.dw_model.specs.Databases.{Tables, def_of}
use Rattle.dw_journal.specs.Contents.{view}
use Rattle.dw_journal.specs.History.{History}
use Rattle.dw_journal.specs.Turns.{Call, IsForeign, Begins, Commits, RollsBack, Works, Taking, turn_of, number_due, statement_due}
use Rattle.dw_engine.specs.declared.demands.Demand.{Demand}
use Rattle.dw_engine.specs.declared.demands.Demand.TheVariants as demands

-- the next statement is to be taken, and calls for this
abbrev pub IsTaking : History → ℕ → Call → Type 0
IsTaking history session call = turn_of history session ≡ Taking (number_due history session) call

-- it is a statement that is run on what the session sees
abbrev pub IsTakingWork : History → ℕ → Type 0
IsTakingWork history session =
    (statement : Statement) × (statement_due history session ≡ Some statement)
    × IsTaking history session (Works statement)

-- what the next statement calls for
abbrev pub MeansDemand : History → ℕ → Demand → Type 0
MeansDemand history session demands.Begin = IsTaking history session Begins
MeansDemand history session demands.Commit = IsTaking history session Commits
MeansDemand history session demands.Rollback = IsTaking history session RollsBack
MeansDemand history session demands.Work = IsTakingWork history session
MeansDemand history session (demands.Foreign refusal) = IsTaking history session (IsForeign refusal)

-- the refusal of a statement, if it is there, whose names or kinds don't fit the database
abbrev pub refusal_on : Tables → Option Statement → Option Refusal
refusal_on tables None = None
refusal_on tables (Some statement) = bound_refusal statement (def_of tables)

-- the refusal of the next statement of a session whose names or kinds don't fit what the session sees
abbrev pub bound_refusal_of : History → ℕ → Option Refusal
bound_refusal_of history session = refusal_on (view history session) (statement_due history session)
