-- What is kept of the sessions once an event came that is of one of them.
use Rattle.std.proofs.Common.{◌≡◌, ℕ, ◌+◌, ◌≤◌, Bool, true, false, List, ◌∷◌, refl, sym, ap, subst, ◌∙◌, arith}
use Rattle.std.specs.Prelude.{Option, Some, None, if◌then◌else◌, is_some, option_map}
use Rattle.std.proofs.lemmas.Bool.{eqb-true, eq-eqb}
use Rattle.dw_model.specs.declared.answers.Answer.{Answer as Reply}
use Rattle.dw_model.specs.declared.statements.Statement.{Statement}
use Rattle.dw_model.specs.Objects.{IsAscendingObjects, with_objects, reads_of, writes_of}
use Rattle.dw_journal.specs.declared.BlockState.{BlockState}
use Rattle.dw_journal.specs.declared.BlockState.TheVariants.{Outside, Within, Aborted}
use Rattle.dw_journal.specs.declared.Event.{Event}
use Rattle.dw_journal.specs.declared.Event.TheVariants.{Wait, Opened, Answer, Commit, Violation, Refuse, Rollback, VacuumBegin, VacuumSlice, VacuumEnd, Refresh, End}
use Rattle.dw_journal.specs.declared.Route.{Route}
use Rattle.dw_journal.specs.declared.Taken.{Taken}
use Rattle.dw_journal.specs.Worlds.{given_at, statement_at}
use Rattle.dw_journal.specs.History.{History, with_event, session_of, is_of, newest_event, statements_taken, statements_after}
use Rattle.dw_journal.specs.Blocks.{block_of, block_after}
use Rattle.dw_journal.specs.Transactions.{Transaction, transaction_of, transaction_after, opened_statements, opened_after, opened_in, answered_in, snapshot_in, snapshot_of, taken_over, objects_by, commits}
use Rattle.dw_journal.specs.Vacuums.{swept_by, swept_after}
use Rattle.dw_journal.specs.Routes.{refreshed}
use Rattle.dw_journal.specs.Turns.{Turn, Works, call_of_statement, answered_turn, taking, turn_after}
use Rattle.dw_journal.specs.Legal.{snapshot_due, snapshot_in_or}
use Rattle.dw_journal.proofs.OpenedStatements.{AreAnswered}
use Rattle.dw_journal.proofs.TakenObjects.{objects_over-ascending}
use Rattle.dw_core.specs.declared.sessions.Session.{Session}
use Rattle.dw_core.specs.declared.sessions.Stage.TheVariants as stage
use Rattle.dw_core.specs.declared.transactions.Transaction.{Transaction as KeptTransaction}
use Rattle.dw_core.specs.Changes.{AreSets, answered_stage, session_after, stage_after, footprint_of, opened_transaction, waits_after}
use Rattle.dw_core.specs.CoreInvariant.{IsAtStage, IsKeptBy, IsKept, IsWithin, HasNames, holders_in, taken_in, turn_meant}

module _ (history : History) (event : Event) (session : ℕ) where
  -- what is kept once an event came that is of the session, or of another
  abbrev pub IsKeptOnce : Bool → Session → Type 0
  IsKeptOnce own kept =
      IsKeptBy history.shape history.world session
      (if own then statements_after event (statements_taken session history.events) else statements_taken session history.events)
      (if own then block_after history.world event (block_of history session) else block_of history session)
      (if own then Some event else newest_event session history.events)
      (if own then opened_after event (opened_statements session history.events) else opened_statements session history.events)
      (if own then transaction_after event (transaction_of session history.events) else transaction_of session history.events) kept

  pub kept_by_others : (kept : Session) → is_of session event ≡ false → IsKept history session kept → IsKept (with_event history event) session kept
  kept_by_others kept other is = subst (λ (own : Bool). IsKeptOnce own kept) (sym other) is

  own_one : session_of event ≡ Some session → is_of session event ≡ true
  own_one is = rw is (eq-eqb session session refl)

  pub kept_once : (kept : Session) → session_of event ≡ Some session → IsKeptOnce true kept → IsKept (with_event history event) session kept
  kept_once kept is once = subst (λ (own : Bool). IsKeptOnce own kept) (sym (own_one is)) once

-- an event of a session that opens no statement and no vacuum, and is no wait
abbrev pub OpensNothing : Event → Type 0
OpensNothing (Wait session statement holders) = ⊥
OpensNothing (Opened session statement snapshot route) = ⊥
OpensNothing (VacuumBegin session statement table) = ⊥
OpensNothing (VacuumSlice session statement slice horizon) = ⊥
OpensNothing event = Unit {0}

-- an answer is of an open transaction
abbrev pub IsOfTransaction : Event → Option Transaction → Type 0
IsOfTransaction (Answer session statement answer) transaction = is_some transaction ≡ true
IsOfTransaction event transaction = Unit {0}

module _ (history : History) (session : ℕ) (kept : Session) (is_kept : IsKept history session kept) where
  abbrev block : BlockState
  block = block_of history session

  abbrev transaction : Option Transaction
  transaction = transaction_of session history.events

  abbrev next_from : ℕ → Turn
  next_from count = taking (count + 1) (given_at history.world session (count + 1))

  turn_answered : (k : ℕ) (before at : BlockState) → before ≡ at → answered_turn before k (next_from k) ≡ turn_meant history.world session (answered_stage at) k
  turn_answered k before Outside is = rw is refl
  turn_answered k before Within is = rw is refl
  turn_answered k before Aborted is = rw is refl

  turn_own : (event : Event) → OpensNothing event
      → turn_after history.shape (block_after history.world event block) (Some event) (next_from (statements_after event (statements_taken session history.events)))
      ≡ turn_meant history.world session (stage_after event (block_after history.world event kept.block)) (statements_after event kept.taken)
  turn_own (Opened other k snapshot route) none = absurd none
  turn_own (VacuumBegin other k table) none = absurd none
  turn_own (VacuumSlice other k slice horizon) none = absurd none
  turn_own (Answer other k answer) none = turn_answered k block kept.block is_kept.block_is
  turn_own (End other) none = refl
  turn_own event none = ap (λ (count : ℕ). next_from (statements_after event count)) is_kept.count_is

  answered_some : (k : ℕ) (answer : Reply) (t : Option Transaction) → is_some t ≡ true → is_some (answered_in k answer t) ≡ true
  answered_some k answer None is = is
  answered_some k answer (Some one) is = refl

  at_answered : (k : ℕ) (answer : Reply) (before at : BlockState) → before ≡ at → is_some transaction ≡ true
      → IsAtStage history.world session (answered_stage at) k before (answered_in k answer transaction)
  at_answered k answer before Outside is some = (is, answered_some k answer transaction some)
  at_answered k answer before Within is some = tt
  at_answered k answer before Aborted is some = tt

  stage_own : (event : Event) → OpensNothing event → IsOfTransaction event transaction
      → IsAtStage history.world session (stage_after event (block_after history.world event kept.block)) (statements_after event kept.taken)
      (block_after history.world event block) (transaction_after event transaction)
  stage_own (Opened other k snapshot route) none some = absurd none
  stage_own (Answer other k answer) none some = at_answered k answer block kept.block is_kept.block_is some
  stage_own event none some = tt

  snapshot_answered : (k : ℕ) (answer : Reply) (t : Option Transaction) → snapshot_in (answered_in k answer t) ≡ snapshot_in t
  snapshot_answered k answer None = refl
  snapshot_answered k answer (Some one) = refl

  taken_own : (event : Event) → OpensNothing event
      → option_map (taken_over history.world session (opened_after event (opened_statements session history.events))) (snapshot_in (transaction_after event transaction))
      ≡ taken_in ((session_after history.world event kept).transaction)
  taken_own (Opened other k snapshot route) none = absurd none
  taken_own (Answer other k answer) none =
      ap (option_map (taken_over history.world session (opened_statements session history.events))) (snapshot_answered k answer transaction) ∙ is_kept.taken_is
  taken_own (Commit other k stamp low high) none = refl
  taken_own (Violation other k low high object) none = refl
  taken_own (Refuse other k refusal) none = refl
  taken_own (Rollback other k) none = refl
  taken_own (End other) none = refl
  taken_own event none = is_kept.taken_is

  names_own : (event : Event) → HasNames ((session_after history.world event kept).transaction)
  names_own (Commit other k stamp low high) = tt
  names_own (Violation other k low high object) = tt
  names_own (Refuse other k refusal) = tt
  names_own (Rollback other k) = tt
  names_own (End other) = tt
  names_own event = is_kept.names

  waits_own : (event : Event) → OpensNothing event → holders_in (Some event) ≡ waits_after event kept.waits
  waits_own (Wait other k holders) none = absurd none
  waits_own event none = refl

  -- the session's event opens nothing
  pub kept_after_own : (event : Event) → session_of event ≡ Some session → OpensNothing event → IsOfTransaction event transaction
      → IsKept (with_event history event) session (session_after history.world event kept)
  kept_after_own event is none some =
      kept_once history event session (session_after history.world event kept) is
      (record {
        count_is = ap (statements_after event) is_kept.count_is;
        block_is = ap (block_after history.world event) is_kept.block_is;
        turn_is = turn_own event none;
        at_stage = stage_own event none some;
        taken_is = taken_own event none;
        names = names_own event;
        waits_is = waits_own event none;
      })

  -- the session waits
  pub kept_waiting : (k : ℕ) (holders : List ℕ) (waits : Option (List ℕ)) → Some holders ≡ waits
      → IsKept (with_event history (Wait session k holders)) session
      (record { taken = kept.taken; stage = stage.Between; block = kept.block; transaction = kept.transaction; waits = waits })
  kept_waiting k holders waits is =
      kept_once history (Wait session k holders) session _ refl
      (record {
        count_is = is_kept.count_is;
        block_is = is_kept.block_is;
        turn_is = ap next_from is_kept.count_is;
        at_stage = tt;
        taken_is = is_kept.taken_is;
        names = is_kept.names;
        waits_is = is;
      })

  opened_some : (snapshot : ℕ) (t : Option Transaction) → is_some (opened_in snapshot t) ≡ true
  opened_some snapshot None = refl
  opened_some snapshot (Some one) = refl

  with_statement : ℕ → Taken → Taken
  with_statement k taken = record {
    snapshot = taken.snapshot;
    reads = with_objects (objects_by reads_of (statement_at history.world session k)) taken.reads;
    writes = with_objects (objects_by writes_of (statement_at history.world session k)) taken.writes;
  }

  same_taken : (a b : Taken) → Some a ≡ Some b → a ≡ b
  same_taken a b e = cc

  taken_opened : (k snapshot : ℕ) (opened : List ℕ) (t : Option Transaction) (before : Option KeptTransaction) → AreAnswered opened t
      → option_map (taken_over history.world session opened) (snapshot_in t) ≡ taken_in before
      → option_map (taken_over history.world session (k ∷ opened)) (snapshot_in (opened_in snapshot t))
      ≡ Some ((opened_transaction (footprint_of (statement_at history.world session k)) snapshot before).taken)
  unfolding with_statement
  taken_opened k snapshot opened None None are is =
      ap (λ (all : List ℕ). Some (taken_over history.world session (k ∷ all) snapshot)) are
  taken_opened k snapshot opened None (Some one) are is = cc
  taken_opened k snapshot opened (Some t) None are is = cc
  taken_opened k snapshot opened (Some t) (Some one) are is =
      ap (λ (taken : Taken). Some (with_statement k taken)) (same_taken _ _ is)

  names_opened : (k snapshot : ℕ) (before : Option KeptTransaction) → HasNames before
      → HasNames (Some (opened_transaction (footprint_of (statement_at history.world session k)) snapshot before))
  names_opened k snapshot None names = refl
  names_opened k snapshot (Some one) names = ap (with_objects (objects_by reads_of (statement_at history.world session k))) names

  -- a statement that is run on what the session sees is opened
  pub kept_opened : (k snapshot : ℕ) (route : Route) (statement : Statement) → statement_at history.world session k ≡ Some statement
      → call_of_statement statement ≡ Works statement → AreAnswered (opened_statements session history.events) transaction
      → IsKept (with_event history (Opened session k snapshot route)) session
      (record { taken = k; stage = stage.Opened; block = kept.block; transaction = Some (opened_transaction (footprint_of (statement_at history.world session k)) snapshot kept.transaction); waits = None })
  kept_opened k snapshot route statement there works are =
      kept_once history (Opened session k snapshot route) session _ refl
      (record {
        count_is = refl;
        block_is = is_kept.block_is;
        turn_is = refl;
        at_stage = (record { statement = statement; given = there; works = works }, opened_some snapshot transaction);
        taken_is = taken_opened k snapshot (opened_statements session history.events) transaction kept.transaction are is_kept.taken_is;
        names = names_opened k snapshot kept.transaction is_kept.names;
        waits_is = refl;
      })

-- what is kept of a transaction are sets
pub are_sets : (history : History) (session : ℕ) (kept : Session) → IsKept history session kept → (one : KeptTransaction) → kept.transaction ≡ Some one → AreSets one
are_sets history session kept is_kept one one_is = by_snapshot (snapshot_of session history.events) (is_kept.taken_is ∙ ap taken_in one_is)
  where
    opened : List ℕ
    opened = opened_statements session history.events

    same : (a b : Taken) → Some a ≡ Some b → a ≡ b
    same a b e = cc

    by_snapshot : (snapshot : Option ℕ) → option_map (taken_over history.world session opened) snapshot ≡ Some one.taken → AreSets one
    by_snapshot None is = cc
    by_snapshot (Some snapshot) is =
        let taken = same _ _ is in
        let reads = subst IsAscendingObjects (ap (λ (t : Taken). t.reads) taken) (objects_over-ascending reads_of history.world session opened) in
        record {
          reads = reads;
          writes = subst IsAscendingObjects (ap (λ (t : Taken). t.writes) taken) (objects_over-ascending writes_of history.world session opened);
          named = subst IsAscendingObjects (sym (subst HasNames one_is is_kept.names)) reads;
        }

-- An event that leaves vacuums and clusters as they are; what is opened sees what its transaction sees.
abbrev pub IsCalm : History → Event → Type 0
IsCalm history (Opened session statement snapshot route) = snapshot ≡ snapshot_due history session
IsCalm history (VacuumBegin session statement table) = ⊥
IsCalm history (Refresh cluster stamp) = ⊥
IsCalm history event = Unit {0}

module _ (history : History) where
  swept_own : (event : Event) (before : Option (List ℕ)) → IsCalm history event → before ≡ None → swept_after event before ≡ None
  swept_own (VacuumBegin other statement table) before calm none = absurd calm
  swept_own (VacuumEnd other statement) before calm none = refl
  swept_own event before calm none = none

  swept_either : (event : Event) (b : Bool) (before : Option (List ℕ)) → IsCalm history event → before ≡ None → (if b then swept_after event before else before) ≡ None
  swept_either event true before calm none = swept_own event before calm none
  swept_either event false before calm none = none

  pub still_unswept : (event : Event) (session : ℕ) → IsCalm history event → swept_by session history.events ≡ None → swept_by session (event ∷ history.events) ≡ None
  still_unswept event session calm none = swept_either event (is_of session event) (swept_by session history.events) calm none

  pub still_unattached : (event : Event) (cluster : ℕ) → IsCalm history event → refreshed cluster history.events ≡ None → refreshed cluster (event ∷ history.events) ≡ None
  still_unattached (Refresh other stamp) cluster calm none = absurd calm
  still_unattached event cluster calm none = none

  module _ (oldest : ℕ) (pruned : oldest ≤ commits history.events) where
    opened_within : (snapshot : ℕ) (t : Option Transaction) → snapshot ≡ snapshot_in_or (commits history.events) t
        → IsWithin oldest (commits history.events) (snapshot_in t) → IsWithin oldest (commits history.events) (snapshot_in (opened_in snapshot t))
    opened_within snapshot None is within = (omega arith, omega arith)
    opened_within snapshot (Some one) is within = within

    answered_within : (k : ℕ) (answer : Reply) (t : Option Transaction) → IsWithin oldest (commits history.events) (snapshot_in t)
        → IsWithin oldest (commits history.events) (snapshot_in (answered_in k answer t))
    answered_within k answer None within = within
    answered_within k answer (Some one) within = within

    within_own : (event : Event) (session : ℕ) → IsCalm history event → is_of session event ≡ true
        → IsWithin oldest (commits history.events) (snapshot_of session history.events)
        → IsWithin oldest (commits history.events) (snapshot_in (transaction_after event (transaction_of session history.events)))
    within_own (Opened other statement snapshot route) session calm own within =
        let same : other ≡ session = eqb-true other session own in
        opened_within snapshot (transaction_of session history.events) (subst (λ (n : ℕ). snapshot ≡ snapshot_due history n) same calm) within
    within_own (Answer other statement answer) session calm own within = answered_within statement answer (transaction_of session history.events) within
    within_own (Commit other statement stamp low high) session calm own within = tt
    within_own (Violation other statement low high object) session calm own within = tt
    within_own (Refuse other statement refusal) session calm own within = tt
    within_own (Rollback other statement) session calm own within = tt
    within_own (End other) session calm own within = tt
    within_own event session calm own within = within

    within_by : (event : Event) (session : ℕ) (b : Bool) → is_of session event ≡ b → IsCalm history event
        → IsWithin oldest (commits history.events) (snapshot_of session history.events)
        → IsWithin oldest (commits history.events) (snapshot_in (if b then transaction_after event (transaction_of session history.events) else transaction_of session history.events))
    within_by event session true own calm within = within_own event session calm own within
    within_by event session false own calm within = within

    within_more : (more : ℕ) (snapshot : Option ℕ) → commits history.events ≤ more → IsWithin oldest (commits history.events) snapshot → IsWithin oldest more snapshot
    within_more more None further within = tt
    within_more more (Some snapshot) further within = (within.0, omega (arith, within.1))

    pub still_within : (event : Event) (session : ℕ) → IsCalm history event → commits history.events ≤ commits (event ∷ history.events)
        → IsWithin oldest (commits history.events) (snapshot_of session history.events)
        → IsWithin oldest (commits (event ∷ history.events)) (snapshot_of session (event ∷ history.events))
    still_within event session calm further within =
        within_more (commits (event ∷ history.events)) (snapshot_of session (event ∷ history.events)) further
        (within_by event session (is_of session event) refl calm within)
