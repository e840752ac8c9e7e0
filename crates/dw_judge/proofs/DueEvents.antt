-- An event is due exactly where the test says so.
use Rattle.std.proofs.Common.{◌≡◌, ℕ, true, false, List, refl, sym, subst}
use Rattle.std.specs.Prelude.{Option, Some, None, is_some, nat_eq, ◌&&◌}
use Rattle.std.proofs.lemmas.Bool.{eqb-true, eq-eqb, and_parts, and_from, false≢true}
use Rattle.dw_model.specs.declared.answers.Word.{Word}
use Rattle.dw_model.specs.declared.answers.Word.TheVariants as words
use Rattle.dw_model.specs.Binding.{same_name}
use Rattle.dw_journal.specs.declared.BlockState.{BlockState}
use Rattle.dw_journal.specs.declared.BlockState.TheVariants.{Outside, Within, Aborted}
use Rattle.dw_journal.specs.declared.Event.{Event}
use Rattle.dw_journal.specs.declared.Event.TheVariants.{Begin, Pass, Wait, Opened, Answer, Commit, Violation, Refuse, Rollback, VacuumBegin, VacuumSlice, VacuumEnd, End}
use Rattle.dw_journal.specs.History.{session_of}
use Rattle.dw_journal.specs.Transactions.{Transaction}
use Rattle.dw_journal.specs.Turns.{Call, IsForeign, Begins, Commits, RollsBack, Sweeps, Works, Turn, Nothing, AnswerOf, CommitOf, SliceOf, SweepEndOf, Taking, AtEnd, Idle}
use Rattle.dw_journal.specs.Follows.{IsAnswer, is_answer, is_answer_refused, IsDecision, is_commit, is_violation, is_commit_refused, IsOpening, is_wait, is_opening_refused, is_opened, IsSweepOpening, is_sweep_wait, is_sweep_refused, is_sweep_begin, IsTaken, foreign, begin_outside, begin_within, begin_aborted, commit_outside, commit_of_nothing, commit_within, commit_aborted, rollback_outside, rollback_within, rollback_aborted, vacuum_outside, vacuum_within, vacuum_aborted, work_outside, work_within, work_aborted, IsDue, answers, decides, rebuilds, has_rebuilt, takes, ends, sweeps}
use Rattle.dw_judge.specs.Dues.{is_answer_of, is_begin_of, is_decision_of, is_due_at, is_end_of_script, is_idle_sweep, is_opening_of, is_pass_of, is_refusal_of, is_rollback_of, is_slice_of, is_sweep_end_of, is_sweep_opening_of, is_taken_of, same_word, word_number}
use Rattle.dw_judge.proofs.Same.{same_name-true, same_name-self, word_one}

-- ---- what is due passes the test
self : (k : ℕ) → nat_eq k k ≡ true
self k = eq-eqb k k refl

answer_passes : (session k : ℕ) {event : Event} → IsAnswer session k event → is_answer_of k event ≡ true
answer_passes session k (is_answer answer) = self k
answer_passes session k (is_answer_refused refusal) = self k

decision_passes : (session k : ℕ) {event : Event} → IsDecision session k event → is_decision_of k event ≡ true
decision_passes session k (is_commit stamp low high) = self k
decision_passes session k (is_violation low high object) = self k
decision_passes session k (is_commit_refused refusal) = self k

opening_passes : (session k : ℕ) {event : Event} → IsOpening session k event → is_opening_of k event ≡ true
opening_passes session k (is_wait holders) = self k
opening_passes session k (is_opening_refused refusal) = self k
opening_passes session k (is_opened snapshot route) = self k

sweep_opening_passes : (session k : ℕ) (table : List ℕ) {event : Event} → IsSweepOpening session k table event → is_sweep_opening_of k table event ≡ true
sweep_opening_passes session k table (is_sweep_wait holders) = self k
sweep_opening_passes session k table (is_sweep_refused refusal) = self k
sweep_opening_passes session k table is_sweep_begin = and_from (nat_eq k k) (same_name table table) (self k) (same_name-self table)

pass_passes : (k : ℕ) (word : Word) → (nat_eq k k && same_word word word) ≡ true
pass_passes k word = and_from (nat_eq k k) (same_word word word) (self k) (self (word_number word))

taken_passes : (session k : ℕ) {call : Call} {block : BlockState} {transaction : Option Transaction} {event : Event}
    → IsTaken session k call block transaction event → is_taken_of k call block (is_some transaction) event ≡ true
taken_passes session k foreign = self k
taken_passes session k begin_outside = self k
taken_passes session k begin_within = pass_passes k words.Begin
taken_passes session k begin_aborted = self k
taken_passes session k commit_outside = pass_passes k words.Commit
taken_passes session k commit_of_nothing = pass_passes k words.Commit
taken_passes session k (commit_within decision) = decision_passes session k decision
taken_passes session k commit_aborted = self k
taken_passes session k rollback_outside = pass_passes k words.Rollback
taken_passes session k rollback_within = self k
taken_passes session k rollback_aborted = self k
taken_passes session k (vacuum_outside {table = table} opening) = sweep_opening_passes session k table opening
taken_passes session k vacuum_within = self k
taken_passes session k vacuum_aborted = self k
taken_passes session k (work_outside opening) = opening_passes session k opening
taken_passes session k (work_within opening) = opening_passes session k opening
taken_passes session k work_aborted = self k

pub due_passes : (session : ℕ) {block : BlockState} {transaction : Option Transaction} {turn : Turn} {event : Event}
    → IsDue session block transaction turn event → is_due_at block (is_some transaction) turn event ≡ true
due_passes session (answers {k = k} answer) = answer_passes session k answer
due_passes session (decides {k = k} decision) = decision_passes session k decision
due_passes session (rebuilds {k = k} {slice = slice}) = and_from (nat_eq k k) (nat_eq slice slice) (self k) (self slice)
due_passes session (has_rebuilt {k = k}) = self k
due_passes session (takes {k = k} taken) = taken_passes session k taken
due_passes session ends = refl
due_passes session sweeps = refl

-- ---- what passes the test is due
no : {A : Type 0} → false ≡ true → A
no is = absurd (false≢true is)

same : (a b : ℕ) → Some a ≡ Some b → a ≡ b
same a b is = cc

module _ (session k : ℕ) where
  -- an event of this session and statement, at those of its own
  at : (is_such : ℕ → ℕ → Type 0) (s q : ℕ) → Some s ≡ Some session → nat_eq q k ≡ true → is_such session k → is_such s q
  at is_such s q own here is =
      subst (λ (n : ℕ). is_such n q) (sym (same s session own)) (subst (λ (n : ℕ). is_such session n) (sym (eqb-true q k here)) is)

  answered : (event : Event) → session_of event ≡ Some session → is_answer_of k event ≡ true → IsAnswer session k event
  answered (Answer s q answer) own is = at (λ n m. IsAnswer session k (Answer n m answer)) s q own is (is_answer answer)
  answered (Refuse s q refusal) own is = at (λ n m. IsAnswer session k (Refuse n m refusal)) s q own is (is_answer_refused refusal)
  answered event own is = no is

  decided : (event : Event) → session_of event ≡ Some session → is_decision_of k event ≡ true → IsDecision session k event
  decided (Commit s q stamp low high) own is = at (λ n m. IsDecision session k (Commit n m stamp low high)) s q own is (is_commit stamp low high)
  decided (Violation s q low high object) own is = at (λ n m. IsDecision session k (Violation n m low high object)) s q own is (is_violation low high object)
  decided (Refuse s q refusal) own is = at (λ n m. IsDecision session k (Refuse n m refusal)) s q own is (is_commit_refused refusal)
  decided event own is = no is

  opening : (event : Event) → session_of event ≡ Some session → is_opening_of k event ≡ true → IsOpening session k event
  opening (Wait s q holders) own is = at (λ n m. IsOpening session k (Wait n m holders)) s q own is (is_wait holders)
  opening (Refuse s q refusal) own is = at (λ n m. IsOpening session k (Refuse n m refusal)) s q own is (is_opening_refused refusal)
  opening (Opened s q snapshot route) own is = at (λ n m. IsOpening session k (Opened n m snapshot route)) s q own is (is_opened snapshot route)
  opening event own is = no is

  sweep_opening : (table : List ℕ) (event : Event) → session_of event ≡ Some session → is_sweep_opening_of k table event ≡ true
      → IsSweepOpening session k table event
  sweep_opening table (Wait s q holders) own is = at (λ n m. IsSweepOpening session k table (Wait n m holders)) s q own is (is_sweep_wait holders)
  sweep_opening table (Refuse s q refusal) own is = at (λ n m. IsSweepOpening session k table (Refuse n m refusal)) s q own is (is_sweep_refused refusal)
  sweep_opening table (VacuumBegin s q swept) own is =
      let parts = and_parts (nat_eq q k) (same_name swept table) is in
      at (λ n m. IsSweepOpening session k table (VacuumBegin n m swept)) s q own parts.0
      (subst (λ (t : List ℕ). IsSweepOpening session k table (VacuumBegin session k t)) (sym (same_name-true swept table parts.1)) is_sweep_begin)
  sweep_opening table event own is = no is

  module _ (call : Call) (block : BlockState) (transaction : Option Transaction) where
    abbrev taken_so : Event → Type 0
    taken_so event = IsTaken session k call block transaction event

    begun : (event : Event) → session_of event ≡ Some session → is_begin_of k event ≡ true → taken_so (Begin session k) → taken_so event
    begun (Begin s q) own is one = at (λ n m. taken_so (Begin n m)) s q own is one
    begun event own is one = no is

    passed : (word : Word) (event : Event) → session_of event ≡ Some session → is_pass_of k word event ≡ true
        → taken_so (Pass session k word) → taken_so event
    passed word (Pass s q other) own is one =
        let parts = and_parts (nat_eq q k) (same_word other word) is in
        at (λ n m. taken_so (Pass n m other)) s q own parts.0
        (subst (λ (w : Word). taken_so (Pass session k w)) (sym (word_one other word parts.1)) one)
    passed word event own is one = no is

    rolled : (event : Event) → session_of event ≡ Some session → is_rollback_of k event ≡ true → taken_so (Rollback session k) → taken_so event
    rolled (Rollback s q) own is one = at (λ n m. taken_so (Rollback n m)) s q own is one
    rolled event own is one = no is

    refused : (event : Event) → session_of event ≡ Some session → is_refusal_of k event ≡ true
        → ((refusal : _) → taken_so (Refuse session k refusal)) → taken_so event
    refused (Refuse s q refusal) own is one = at (λ n m. taken_so (Refuse n m refusal)) s q own is (one refusal)
    refused event own is one = no is

  taken : (call : Call) (block : BlockState) (transaction : Option Transaction) (event : Event) → session_of event ≡ Some session
      → is_taken_of k call block (is_some transaction) event ≡ true → IsTaken session k call block transaction event
  taken (IsForeign given) block transaction event own is = refused (IsForeign given) block transaction event own is (λ refusal. foreign)
  taken Begins Outside transaction event own is = begun Begins Outside transaction event own is begin_outside
  taken Begins Within transaction event own is = passed Begins Within transaction words.Begin event own is begin_within
  taken Begins Aborted transaction event own is = refused Begins Aborted transaction event own is (λ refusal. begin_aborted)
  taken Commits Outside transaction event own is = passed Commits Outside transaction words.Commit event own is commit_outside
  taken Commits Within None event own is = passed Commits Within None words.Commit event own is commit_of_nothing
  taken Commits Within (Some transaction) event own is = commit_within (decided event own is)
  taken Commits Aborted transaction event own is = rolled Commits Aborted transaction event own is commit_aborted
  taken RollsBack Outside transaction event own is = passed RollsBack Outside transaction words.Rollback event own is rollback_outside
  taken RollsBack Within transaction event own is = rolled RollsBack Within transaction event own is rollback_within
  taken RollsBack Aborted transaction event own is = rolled RollsBack Aborted transaction event own is rollback_aborted
  taken (Sweeps table) Outside transaction event own is = vacuum_outside (sweep_opening table event own is)
  taken (Sweeps table) Within transaction event own is = refused (Sweeps table) Within transaction event own is (λ refusal. vacuum_within)
  taken (Sweeps table) Aborted transaction event own is = refused (Sweeps table) Aborted transaction event own is (λ refusal. vacuum_aborted)
  taken (Works statement) Outside transaction event own is = work_outside (opening event own is)
  taken (Works statement) Within transaction event own is = work_within (opening event own is)
  taken (Works statement) Aborted transaction event own is = refused (Works statement) Aborted transaction event own is (λ refusal. work_aborted)

module _ (session : ℕ) (block : BlockState) (transaction : Option Transaction) where
  rebuilt : (k slice : ℕ) (event : Event) → session_of event ≡ Some session → is_slice_of k slice event ≡ true
      → IsDue session block transaction (SliceOf k slice) event
  rebuilt k slice (VacuumSlice s q other horizon) own is =
      let parts = and_parts (nat_eq q k) (nat_eq other slice) is in
      at session k (λ n m. IsDue session block transaction (SliceOf k slice) (VacuumSlice n m other horizon)) s q own parts.0
      (subst (λ (n : ℕ). IsDue session block transaction (SliceOf k slice) (VacuumSlice session k n horizon)) (sym (eqb-true other slice parts.1)) rebuilds)
  rebuilt k slice event own is = no is

  swept : (k : ℕ) (event : Event) → session_of event ≡ Some session → is_sweep_end_of k event ≡ true
      → IsDue session block transaction (SweepEndOf k) event
  swept k (VacuumEnd s q) own is = at session k (λ n m. IsDue session block transaction (SweepEndOf k) (VacuumEnd n m)) s q own is has_rebuilt
  swept k event own is = no is

  ended : (event : Event) → session_of event ≡ Some session → is_end_of_script event ≡ true → IsDue session block transaction AtEnd event
  ended (End s) own is = subst (λ (n : ℕ). IsDue session block transaction AtEnd (End n)) (sym (same s session own)) ends
  ended event own is = no is

  idle : (event : Event) → session_of event ≡ Some session → is_idle_sweep event ≡ true → IsDue session block transaction Idle event
  idle (VacuumBegin s q table) own is = at session 0 (λ n m. IsDue session block transaction Idle (VacuumBegin n m table)) s q own is sweeps
  idle event own is = no is

  pub passes_due : (turn : Turn) (event : Event) → session_of event ≡ Some session
      → is_due_at block (is_some transaction) turn event ≡ true → IsDue session block transaction turn event
  passes_due Nothing event own is = no is
  passes_due (AnswerOf k) event own is = answers (answered session k event own is)
  passes_due (CommitOf k) event own is = decides (decided session k event own is)
  passes_due (SliceOf k slice) event own is = rebuilt k slice event own is
  passes_due (SweepEndOf k) event own is = swept k event own is
  passes_due (Taking k call) event own is = takes (taken session k call block transaction event own is)
  passes_due AtEnd event own is = ended event own is
  passes_due Idle event own is = idle event own is
