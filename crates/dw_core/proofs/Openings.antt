-- What is known of a statement that is opened next.
use Rattle.std.proofs.Common.{◌≡◌, ℕ, ◌+◌, ◌≤◌, [], refl, sym, ap, subst, ◌∙◌}
use Rattle.std.specs.Prelude.{Option, Some}
use Rattle.dw_model.specs.declared.statements.Statement.{Statement}
use Rattle.dw_model.specs.declared.statements.Statement.TheVariants as forms
use Rattle.dw_journal.specs.declared.Event.TheVariants.{Opened}
use Rattle.dw_journal.specs.declared.Given.{Given}
use Rattle.dw_journal.specs.declared.Given.TheVariants.{Read}
use Rattle.dw_journal.specs.declared.Route.{Route}
use Rattle.dw_journal.specs.Worlds.{given_at, read_in, statement_at}
use Rattle.dw_journal.specs.History.{History, newest_event, statements_taken}
use Rattle.dw_journal.specs.Blocks.{block_of}
use Rattle.dw_journal.specs.Transactions.{opened_statements, transaction_of}
use Rattle.dw_journal.specs.Turns.{Works, call_of, call_of_statement, turn_after}
use Rattle.dw_journal.specs.Follows.{EachFollows}
use Rattle.dw_journal.specs.Legal.{IsLegalOpened, IsNextEvent, blockers_of, snapshot_due}
use Rattle.dw_journal.proofs.OneEvent.{turn_given, works_statement}
use Rattle.dw_journal.proofs.OpenedStatements.{AreAnswered, settled_at}
use Rattle.dw_core.proofs.DueEvents.{told}
use Rattle.dw_core.proofs.KeptSessions.{next_is}

-- the statement that is called for is of that form
work_called : (given : Given) (statement : Statement) → call_of given ≡ Works statement → call_of_statement statement ≡ Works statement
work_called (Read (forms.Create spec)) statement is =
    let same : forms.Create spec ≡ statement = cc in
    subst (λ (s : Statement). call_of_statement s ≡ Works s) same refl
work_called (Read (forms.Drop table)) statement is =
    let same : forms.Drop table ≡ statement = cc in
    subst (λ (s : Statement). call_of_statement s ≡ Works s) same refl
work_called (Read (forms.Lock tables)) statement is =
    let same : forms.Lock tables ≡ statement = cc in
    subst (λ (s : Statement). call_of_statement s ≡ Works s) same refl
work_called (Read (forms.Insert table columns rows)) statement is =
    let same : forms.Insert table columns rows ≡ statement = cc in
    subst (λ (s : Statement). call_of_statement s ≡ Works s) same refl
work_called (Read (forms.Select query)) statement is =
    let same : forms.Select query ≡ statement = cc in
    subst (λ (s : Statement). call_of_statement s ≡ Works s) same refl
work_called given statement is = cc

pub record IsOpenedNext (history : History) (session k snapshot : ℕ) : Type 0 where
  pub statement : Statement
  pub there : statement_at history.world session k ≡ Some statement
  pub works : call_of_statement statement ≡ Works statement
  pub free : blockers_of history session k ≡ []
  pub sees : snapshot ≡ snapshot_due history session
  pub settled : AreAnswered (opened_statements session history.events) (transaction_of session history.events)

pub opened_next : (history : History) (session k snapshot : ℕ) (route : Route) → 1 ≤ session → EachFollows history.shape history.world history.events
    → IsNextEvent history (Opened session k snapshot route) → IsOpenedNext history session k snapshot
opened_next history session k snapshot route first each next =
    let event = Opened session k snapshot route in
    let block = block_of history session in
    let newest = newest_event session history.events in
    let number = statements_taken session history.events + 1 in
    let turn = told history session event refl next.0 in
    let given = turn_given history.shape block newest number k (given_at history.world session number) (Works turn.0)
    (sym (ap (turn_after history.shape block newest) (next_is history session first)) ∙ turn.1) in
    let there : statement_at history.world session k ≡ Some turn.0 =
    ap (λ (n : ℕ). statement_at history.world session n) (sym given.1) ∙ ap read_in given.2 ∙ works_statement given.0 turn.0 given.3 in
    let works = work_called given.0 turn.0 given.3 in
    let legal : IsLegalOpened history session k snapshot route (Some turn.0) =
    subst (λ (s : Option Statement). IsLegalOpened history session k snapshot route s) there next.1 in
    record {
      statement = turn.0;
      there = there;
      works = works;
      free = legal.0;
      sees = legal.2;
      settled = settled_at history.shape history.world history.events each session event refl next.0 refl;
    }
