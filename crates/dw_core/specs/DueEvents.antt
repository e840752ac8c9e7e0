-- The events that are due of a session where nothing is left to choose: the opening of its next statement, the commit
-- of its transaction, and the one by which a commit is decided.
use Rattle.std.specs.Prelude.{ℕ, ◌+◌, Option, Some, None}
use Rattle.dw_model.specs.declared.refusals.Refusal.TheVariants.{Memory}
use Rattle.dw_model.specs.declared.statements.Statement.{Statement}
use Rattle.dw_journal.specs.declared.Event.{Event}
use Rattle.dw_journal.specs.declared.Event.TheVariants.{Opened, Commit, Violation, Refuse}
use Rattle.dw_journal.specs.declared.Route.{Route}
use Rattle.dw_journal.specs.declared.Route.TheVariants.{Main}
use Rattle.dw_journal.specs.History.{History}
use Rattle.dw_journal.specs.Transactions.{commits}
use Rattle.dw_journal.specs.Routes.{route_of}
use Rattle.dw_journal.specs.Turns.{number_due, statement_due}
use Rattle.dw_journal.specs.Legal.{low_of, high_of, snapshot_due}
use Rattle.dw_core.specs.declared.decisions.Committed.{Committed}
use Rattle.dw_core.specs.declared.decisions.Committed.TheVariants as committed

-- where a statement is worked on, if the grammar read it
abbrev pub route_for : History → ℕ → ℕ → Option Statement → Route
route_for history session snapshot None = Main
route_for history session snapshot (Some statement) = route_of history session snapshot statement

-- where the statement that is due of a session is worked on
abbrev pub route_due : History → ℕ → Route
route_due history session = route_for history session (snapshot_due history session) (statement_due history session)

-- the opening of the statement that is due of a session
abbrev pub opening_due : History → ℕ → Event
opening_due history session =
    Opened session (number_due history session) (snapshot_due history session) (route_due history session)

-- the commit that is due of a session
abbrev pub commit_due : History → ℕ → Event
commit_due history session =
    Commit session (number_due history session) (commits history.events + 1)
    (low_of history session) (high_of history session)

-- the event by which the commit of this statement is decided
abbrev pub decision_of : ℕ → ℕ → Committed → Event
decision_of session statement (committed.Stamped stamp low high) = Commit session statement stamp low high
decision_of session statement (committed.Violation low high object) = Violation session statement low high object
decision_of session statement committed.Memory = Refuse session statement Memory
