-- The parts of a core agree with its history once more, after one more event.
use Rattle.std.proofs.Common.{◌≡◌, ◌≢◌, ℕ, zero, suc, ◌+◌, ◌-◌, ◌*◌, ◌<◌, ◌≤◌, Bool, true, false, List, [], ◌∷◌, ◌++◌, length, set, get_or, reverse, refl, sym, ap, subst, ◌∙◌, arith}
use Rattle.std.specs.Prelude.{Some, ◌==◌, slice_get}
use Rattle.std.specs.List.{All}
use Rattle.std.proofs.lemmas.Bool.{eqb-true, eqb-false}
use Rattle.std.proofs.lemmas.List.{reverse-append, length-map}
use Rattle.std.proofs.lemmas.List.Sums.{sum_by-set, sum_by-le, get_or-le-sum_by}
use Rattle.std.proofs.lemmas.Option.{slice_get_within, get_or_from_slice_get}
use Rattle.dw_journal.specs.declared.BlockState.{BlockState}
use Rattle.dw_journal.specs.declared.BlockState.TheVariants.{Outside, Within, Aborted}
use Rattle.dw_journal.specs.declared.Certified.{Certified}
use Rattle.dw_journal.specs.declared.Event.{Event}
use Rattle.dw_journal.specs.declared.Event.TheVariants.{Begin, Pass, Wait, Opened, Answer, Commit, Refuse, Rollback, VacuumBegin, VacuumSlice, Refresh, End}
use Rattle.dw_journal.specs.Worlds.{IsSession}
use Rattle.dw_journal.specs.History.{History, with_event, session_of, is_of}
use Rattle.dw_journal.specs.Blocks.{block_after}
use Rattle.dw_journal.specs.Transactions.{transaction_of, snapshot_of, commits}
use Rattle.dw_journal.specs.Locks.{lock_state}
use Rattle.dw_journal.specs.Turns.{number_due}
use Rattle.dw_journal.specs.Legal.{IsNextEvent, certified}
use Rattle.dw_journal.proofs.Stand.{commits-event}
use Rattle.dw_ssn.specs.Summaries.{Summaries, StandsFor}
use Rattle.dw_locks.specs.LockTable.{LockTable, StandsForLocks}
use Rattle.dw_core.specs.Pruned.{pruned_at}
use Rattle.dw_core.specs.declared.sessions.Session.{Session}
use Rattle.dw_core.specs.declared.sessions.Stage.{Stage}
use Rattle.dw_core.specs.declared.sessions.Stage.TheVariants as stage
use Rattle.dw_core.specs.Changes.{IsPlain, HasRoomKept, answered_stage, locks_after, session_after}
use Rattle.dw_core.specs.CoreInvariant.{CoreInvariant, IsKept, IsWithin, owed_events, total_owed}
use Rattle.dw_core.proofs.DueEvents.{told}
use Rattle.dw_core.proofs.Locking.{plain_locked}
use Rattle.dw_core.proofs.KeptSessions.{is_between, is_opened, stage_at}
use Rattle.dw_core.proofs.NextEvents.{IsCalm, IsOfTransaction, OpensNothing, kept_after_own, kept_by_others, still_unattached, still_unswept, still_within}

-- a list with one element changed
slice_get_set : (xs : List Session) (i : ℕ) (x y : Session) → i < length xs → slice_get (set xs i x) i ≡ Some y → x ≡ y
slice_get_set [] i x y within is = absurd (omega arith)
slice_get_set (z ∷ xs) zero x y within is = cc
slice_get_set (z ∷ xs) (suc i) x y within is = slice_get_set xs i x y (omega arith) is

slice_get_set_other : (xs : List Session) (i j : ℕ) (x : Session) → (j ≡ i → ⊥) → slice_get (set xs i x) j ≡ slice_get xs j
slice_get_set_other [] i j x other = refl
slice_get_set_other (z ∷ xs) zero zero x other = absurd (other refl)
slice_get_set_other (z ∷ xs) zero (suc j) x other = refl
slice_get_set_other (z ∷ xs) (suc i) zero x other = refl
slice_get_set_other (z ∷ xs) (suc i) (suc j) x other = slice_get_set_other xs i j x (λ same. other (ap suc same))

pub length_set : (xs : List Session) (i : ℕ) (x : Session) → length (set xs i x) ≡ length xs
length_set [] i x = refl
length_set (z ∷ xs) zero x = refl
length_set (z ∷ xs) (suc i) x = ap suc (length_set xs i x)

slice_get_set_same : (xs : List Session) (i : ℕ) (x : Session) → i < length xs → slice_get (set xs i x) i ≡ Some x
slice_get_set_same [] i x within = absurd (omega arith)
slice_get_set_same (z ∷ xs) zero x within = refl
slice_get_set_same (z ∷ xs) (suc i) x within = slice_get_set_same xs i x (omega arith)

set_twice : (xs : List Session) (i : ℕ) (x y : Session) → set (set xs i x) i y ≡ set xs i y
set_twice [] i x y = refl
set_twice (z ∷ xs) zero x y = refl
set_twice (z ∷ xs) (suc i) x y = ap (λ (rest : List Session). z ∷ rest) (set_twice xs i x y)

-- what is changed again
pub set_after : (after : Session → Session) (sessions changed : List Session) (place session : ℕ) (one : Session) → place ≡ session - 1 → place < length sessions
    → ((kept : Session) → slice_get (set sessions place one) (session - 1) ≡ Some kept → changed ≡ set (set sessions place one) (session - 1) (after kept))
    → changed ≡ set sessions (session - 1) (after one)
set_after after sessions changed place session one is within change =
    let there = subst (λ (n : ℕ). slice_get (set sessions place one) n ≡ Some one) is (slice_get_set_same sessions place one within) in
    change one there ∙ ap (λ (n : ℕ). set (set sessions n one) (session - 1) (after one)) is ∙ set_twice sessions (session - 1) one (after one)

pub at_place : (xs : List Session) (i : ℕ) → i < length xs → (x : Session) × (slice_get xs i ≡ Some x)
at_place [] i within = absurd (omega arith)
at_place (x ∷ xs) zero within = (x, refl)
at_place (x ∷ xs) (suc i) within = at_place xs i (omega arith)

-- ---- the room that is kept
owed_by_two : (at : Stage) (block : BlockState) → owed_events at block ≤ 2
owed_by_two stage.Opened block = omega arith
owed_by_two stage.Answered block = omega arith
owed_by_two stage.Ended block = omega arith
owed_by_two stage.Between Outside = omega arith
owed_by_two stage.Between Within = omega arith
owed_by_two stage.Between Aborted = omega arith

all_two : (sessions : List Session) → All (λ session. owed_events session.stage session.block ≤ 2) sessions
all_two sessions = λ place default within. owed_by_two _ _

-- a session owes two events at most
owed_two : (sessions : List Session) → total_owed sessions ≤ 2 * length sessions
owed_two sessions = omega (arith, sum_by-le (λ (session : Session). owed_events session.stage session.block) 2 sessions (all_two sessions))

-- what is owed once one session changes
owed_set : (sessions : List Session) (i : ℕ) (old kept : Session) → slice_get sessions i ≡ Some old
    → total_owed (set sessions i kept) + owed_events old.stage old.block ≡ total_owed sessions + owed_events kept.stage kept.block
owed_set sessions i old kept is =
    let here : get_or sessions i old ≡ old = get_or_from_slice_get sessions i old old is in
    rw here at (sum_by-set (λ (session : Session). owed_events session.stage session.block) sessions i kept old (slice_get_within sessions i old is))

-- what one session owes is part of what all owe
owed_part : (sessions : List Session) (i : ℕ) (old : Session) → slice_get sessions i ≡ Some old → owed_events old.stage old.block ≤ total_owed sessions
owed_part sessions i old is =
    let here : get_or sessions i old ≡ old = get_or_from_slice_get sessions i old old is in
    rw here at (get_or-le-sum_by (λ (session : Session). owed_events session.stage session.block) sessions i old (slice_get_within sessions i old is))

between_owes : (block : BlockState) → owed_events stage.Between block ≤ 1
between_owes Outside = omega arith
between_owes Within = omega arith
between_owes Aborted = omega arith

answered_owes : (block : BlockState) → owed_events (answered_stage block) block ≤ 1
answered_owes Outside = omega arith
answered_owes Within = omega arith
answered_owes Aborted = omega arith

inside_owes : (block : BlockState) → block ≢ Outside → owed_events stage.Between block ≡ 1
inside_owes Outside inside = absurd (inside refl)
inside_owes Within inside = refl
inside_owes Aborted inside = refl

-- ---- events
-- the newest event stands first
pub newest_first : (events : List Event) (next : Event) → reverse (events ++ next ∷ []) ≡ next ∷ reverse events
newest_first events next = reverse-append events (next ∷ [])

-- there are as many commits as certified ones
pub commits_certified : (history : History) (done : List Certified) → certified history ≡ done → commits history.events ≡ length done
commits_certified history done is = simp length-map at (ap length is)

plain_session : (session : ℕ) (event : Event) → IsPlain session event → session_of event ≡ Some session
plain_session session (Begin other k) is = ap Some is
plain_session session (Pass other k word) is = ap Some is
plain_session session (Answer other k answer) is = ap Some is
plain_session session (Refuse other k refusal) is = ap Some is
plain_session session (Rollback other k) is = ap Some is
plain_session session (End other) is = ap Some is
plain_session session event is = absurd is

plain_calm : (history : History) (session : ℕ) (event : Event) → IsPlain session event → IsCalm history event
plain_calm history session (Opened other k snapshot route) is = absurd is
plain_calm history session (VacuumBegin other k table) is = absurd is
plain_calm history session (Refresh cluster stamp) is = absurd is
plain_calm history session event is = tt

plain_opens : (session : ℕ) (event : Event) → IsPlain session event → OpensNothing event
plain_opens session (Opened other k snapshot route) is = absurd is
plain_opens session (Wait other k holders) is = absurd is
plain_opens session (VacuumBegin other k table) is = absurd is
plain_opens session (VacuumSlice other k slice horizon) is = absurd is
plain_opens session event is = tt

plain_stands : (history : History) (session : ℕ) (event : Event) → IsPlain session event → (certifier : Summaries)
    → StandsFor certifier (record { oldest = pruned_at history; commits = certified history })
    → StandsFor certifier (record { oldest = pruned_at (with_event history event); commits = certified (with_event history event) })
plain_stands history session (Commit other k stamp low high) is certifier stands = absurd is
plain_stands history session event is certifier stands = stands

-- the parts agree still where only room was made
pub roomier : (history : History) (newer : List Event) (sessions : List Session) (certifier : Summaries) (table locked : LockTable) (count capacity more room : ℕ)
    → CoreInvariant history sessions certifier table count capacity → newer ≡ history.events → StandsForLocks locked (lock_state history) → more ≡ count → capacity ≤ room
    → CoreInvariant (record { shape = history.shape; world = history.world; events = newer }) sessions certifier locked more room
roomier history newer sessions certifier table locked count capacity more room core same locks more_is further =
    subst (λ (events : List Event). CoreInvariant (record { shape = history.shape; world = history.world; events = events }) sessions certifier locked more room) (sym same)
    (record {
      number = core.number;
      shaped = core.shaped;
      short = core.short;
      each = core.each;
      stands = core.stands;
      snapshots = core.snapshots;
      locks = locks;
      unswept = core.unswept;
      unattached = core.unattached;
      follows = core.follows;
      legal = core.legal;
      room = omega (arith, core.room);
    })

module _ (history : History) (sessions : List Session) (certifier : Summaries) (table : LockTable) (count capacity : ℕ)
    (core : CoreInvariant history sessions certifier table count capacity) (session : ℕ) (is : IsSession history.world session) where
  pub place_within : session - 1 < length sessions
  place_within = omega (arith, core.number, is.0, is.1)

  -- there is room for an event that the session owes
  pub has_room : (old : Session) → slice_get sessions (session - 1) ≡ Some old → 1 ≤ owed_events old.stage old.block → count < capacity
  has_room old there owes = omega (arith, owed_part sessions (session - 1) old there, core.room)

  -- there is room for what is owed after an event for which room was made
  pub room_made : (now : Session) (changed : List Session) (more room : ℕ) → changed ≡ set sessions (session - 1) now → more ≡ count + 1
      → count + 2 * history.shape.sessions + 1 ≤ room → more + total_owed changed ≤ room
  room_made now changed more room changed_is more_is made =
      let all : length changed ≡ length sessions = ap length changed_is ∙ length_set sessions (session - 1) now in
      omega (arith, owed_two changed, all, core.number, core.shaped)

  -- and after an event that its session owed
  pub room_owed : (old now : Session) (changed : List Session) (more room : ℕ) → slice_get sessions (session - 1) ≡ Some old → changed ≡ set sessions (session - 1) now → more ≡ count + 1
      → capacity ≤ room → owed_events now.stage now.block + 1 ≤ owed_events old.stage old.block → more + total_owed changed ≤ room
  room_owed old now changed more room there changed_is more_is further less =
      let change = owed_set sessions (session - 1) old now there in
      let same : total_owed changed ≡ total_owed (set sessions (session - 1) now) = ap total_owed changed_is in
      omega (arith, change, same, core.room)

  -- the oldest number is among the commits
  pub pruned : certifier.oldest ≤ commits history.events
  pruned = omega (arith, core.stands.within, core.stands.oldest_is, commits_certified history (certified history) refl)

  -- an event of the session
  module _ (event : Event) (of_it : session_of event ≡ Some session) (next : IsNextEvent history event) (calm : IsCalm history event)
      (now : Session) (is_kept : IsKept (with_event history event) session now) where
    each_by : (other : ℕ) (found : Session) (b : Bool) → (session == other) ≡ b → 1 ≤ other → slice_get (set sessions (session - 1) now) (other - 1) ≡ Some found
        → IsKept (with_event history event) other found
    each_by other found true same first there =
        let equal : session ≡ other = eqb-true session other same in
        let here : slice_get (set sessions (session - 1) now) (session - 1) ≡ Some found =
        subst (λ (n : ℕ). slice_get (set sessions (session - 1) now) (n - 1) ≡ Some found) (sym equal) there in
        let it : now ≡ found = slice_get_set sessions (session - 1) now found place_within here in
        subst (λ (n : ℕ). IsKept (with_event history event) n found) equal (subst (λ (s : Session). IsKept (with_event history event) session s) it is_kept)
    each_by other found false differ first there =
        let apart : session ≡ other → ⊥ = eqb-false session other differ in
        let places : other - 1 ≡ session - 1 → ⊥ = λ (e : other - 1 ≡ session - 1). apart (omega (arith, is.0)) in
        let before : slice_get sessions (other - 1) ≡ Some found = sym (slice_get_set_other sessions (session - 1) (other - 1) now places) ∙ there in
        let not_own : is_of other event ≡ false = rw of_it differ in
        kept_by_others history event other found not_own (core.each other found first before)

    -- what is kept of each session is what its events say
    pub each_after : (other : ℕ) (found : Session) → 1 ≤ other → slice_get (set sessions (session - 1) now) (other - 1) ≡ Some found → IsKept (with_event history event) other found
    each_after other found first there = each_by other found (session == other) refl first there

    -- no snapshot falls below the oldest number
    pub still_open : (other : ℕ) → IsSession history.world other → IsWithin certifier.oldest (commits (event ∷ history.events)) (snapshot_of other (event ∷ history.events))
    still_open other is_other =
        still_within history certifier.oldest pruned event other calm (commits-event event history.events) (core.snapshots other is_other)

    -- the parts agree once more
    pub agrees_after : (newer : List Event) (changed : List Session) (after : Summaries) (locked : LockTable) (more room : ℕ) → newer ≡ event ∷ history.events → changed ≡ set sessions (session - 1) now
        → StandsForLocks locked (lock_state (with_event history event))
        → StandsFor after (record { oldest = pruned_at (with_event history event); commits = certified (with_event history event) })
        → ((other : ℕ) → IsSession history.world other → IsWithin after.oldest (commits (event ∷ history.events)) (snapshot_of other (event ∷ history.events)))
        → more + total_owed changed ≤ room
        → CoreInvariant (record { shape = history.shape; world = history.world; events = newer }) changed after locked more room
    agrees_after newer changed after locked more room newer_is changed_is locks stands snapshots owes =
        let agreed : CoreInvariant (with_event history event) (set sessions (session - 1) now) after locked more room = record {
          number = length_set sessions (session - 1) now ∙ core.number;
          shaped = core.shaped;
          short = core.short;
          each = each_after;
          stands = stands;
          snapshots = snapshots;
          locks = locks;
          unswept = λ other. still_unswept history event other calm (core.unswept other);
          unattached = λ cluster. still_unattached history event cluster calm (core.unattached cluster);
          follows = (next.0, core.follows);
          legal = (next.1, core.legal);
          room = subst (λ (s : List Session). more + total_owed s ≤ room) changed_is owes;
        } in
        subst (λ (events : List Event). CoreInvariant (record { shape = history.shape; world = history.world; events = events }) changed after locked more room) (sym newer_is)
        (subst (λ (s : List Session). CoreInvariant (with_event history event) s after locked more room) (sym changed_is) agreed)

  -- a plain event of the session
  module _ (kept : Session) (is_kept : IsKept history session kept) (event : Event) (plain : IsPlain session event) (next : IsNextEvent history event) where
    abbrev now : Session
    now = session_after history.world event kept

    of_open : (one : Event) → IsPlain session one → IsNextEvent history one → IsOfTransaction one (transaction_of session history.events)
    of_open (Answer other k answer) is_plain comes =
        let turn = told history session (Answer other k answer) (plain_session session (Answer other k answer) is_plain) comes.0 in
        (stage_at history session is.0 kept is_kept stage.Opened (is_opened history session is.0 kept is_kept k turn)).1
    of_open one is_plain comes = tt

    pub agrees_plain : (newer : List Event) (changed : List Session) (locked : LockTable) (more room : ℕ) → newer ≡ event ∷ history.events → changed ≡ set sessions (session - 1) now
        → locked ≡ locks_after event session table
        → more + total_owed changed ≤ room → CoreInvariant (record { shape = history.shape; world = history.world; events = newer }) changed certifier locked more room
    agrees_plain newer changed locked more room newer_is changed_is locked_is owes =
        let of_it = plain_session session event plain in
        let locks : StandsForLocks locked (lock_state (with_event history event)) =
        subst (λ (t : LockTable). StandsForLocks t (lock_state (with_event history event))) (sym locked_is)
        (plain_locked history table core.locks session is (core.unswept session) core.follows event plain of_it next.0) in
        agrees_after event of_it next (plain_calm history session event plain) now
        (kept_after_own history session kept is_kept event of_it (plain_opens session event plain) (of_open event plain next))
        newer changed certifier locked more room newer_is changed_is locks (plain_stands history session event plain certifier core.stands)
        (still_open event of_it next (plain_calm history session event plain) now
        (kept_after_own history session kept is_kept event of_it (plain_opens session event plain) (of_open event plain next))) owes

  -- what is owed becomes less by an event for which room is kept
  pub owes_less : (kept : Session) → IsKept history session kept → (event : Event) → IsPlain session event → IsNextEvent history event → HasRoomKept history session event
      → owed_events (session_after history.world event kept).stage (session_after history.world event kept).block + 1 ≤ owed_events kept.stage kept.block
  owes_less kept is_kept (Answer other k answer) plain next has =
      let turn = told history session (Answer other k answer) (plain_session session (Answer other k answer) plain) next.0 in
      rw (is_opened history session is.0 kept is_kept k turn) (omega (arith, answered_owes kept.block))
  owes_less kept is_kept (Refuse other k refusal) plain next has =
      rw (is_opened history session is.0 kept is_kept (number_due history session) has) (omega (arith, between_owes (block_after history.world (Refuse other k refusal) kept.block)))
  owes_less kept is_kept (Rollback other k) plain next has =
      let here = told history session (Rollback other k) (plain_session session (Rollback other k) plain) next.0 in
      let between = is_between history session is.0 kept is_kept k here.0.0 here.0.1 in
      rw between (omega (arith, inside_owes kept.block (λ outside. here.1 (is_kept.block_is ∙ outside))))
  owes_less kept is_kept event plain next has = absurd has
