-- The waits of sessions have no cycle, so while somebody hasn't ended, somebody waits for nobody.
use Rattle.std.proofs.Common.{◌≡◌, ◌⊎◌, inl, inr, ℕ, zero, suc, ◌<◌, ◌≤◌, Bool, true, false, List, [], ◌∷◌, length, ap, sym, refl, ◌∙◌, arith}
use Rattle.std.specs.Prelude.{Some, None, is_some, if◌then◌else◌}
use Rattle.std.specs.List.{find, range_with_len}
use Rattle.dw_journal.specs.declared.Event.{Event}
use Rattle.dw_journal.specs.declared.Event.TheVariants.{Begin, Pass, Wait, Opened, Answer, Commit, Violation, Refuse, Rollback, VacuumBegin, VacuumSlice, VacuumEnd, Refresh, End}
use Rattle.dw_journal.specs.declared.Shape.{Shape}
use Rattle.dw_journal.specs.declared.World.{World}
use Rattle.dw_journal.specs.Driven.{RepeatsWait}
use Rattle.dw_journal.specs.Follows.{FollowsAfter, due, EachFollows}
use Rattle.dw_journal.specs.History.{History, has_ended, session_of}
use Rattle.dw_journal.specs.Legal.{EachIsLegal, IsLegalAfter, IsLockWait, IsWaitOf}
use Rattle.dw_journal.specs.Locks.{LockState, contains, held_locks, lock_state, waits_by, waits_for}
use Rattle.dw_journal.specs.Turns.{IsForeign, Begins, Commits, RollsBack, Sweeps, Works, Turn, Nothing, AnswerOf, CommitOf, SliceOf, SweepEndOf, Taking, AtEnd, Idle, turn_of}
use Rattle.dw_journal.specs.Vacuums.{sweeper, swept_by}
use Rattle.dw_journal.specs.Worlds.{IsSession, session_count}
use Rattle.dw_journal.proofs.OneEvent.{due_session}
use Rattle.dw_locks.specs.Cycles.{IsCycle}
use Rattle.dw_locks.specs.Lasting.{after_event}
use Rattle.dw_progress.specs.Free.{CanStep, IsFree}
use Rattle.dw_progress.proofs.Counting.{front_there}
use Rattle.dw_progress.proofs.Ways.{Ends, ends, no_cycle}
use Rattle.dw_progress.proofs.Waits.{waited, quiet_ends, tested_ends, lockless_ends}
use Rattle.dw_progress.proofs.Holding.{no_lock, sweeper_lockless, ended_opened, worker_opened}

-- a legal wait was tested, or is that of a VACUUM which waits for the background worker's
abbrev IsTested : History → ℕ → ℕ → List ℕ → Turn → Type 0
IsTested older session k holders turn =
    IsLockWait older session k holders
    ⊎ ((j : ℕ) × (table : List ℕ) × (turn ≡ Taking j (Sweeps table)) × (sweeper older ≡ Some 0))

module _ (older : History) (session k : ℕ) (holders : List ℕ) where
  pub tested : (turn : Turn) → IsWaitOf older session k holders turn → IsTested older session k holders turn
  tested Nothing is = inl is
  tested (AnswerOf j) is = inl is
  tested (CommitOf j) is = inl is
  tested (SliceOf j slice) is = inl is
  tested (SweepEndOf j) is = inl is
  tested (Taking j (IsForeign refusal)) is = inl is
  tested (Taking j Begins) is = inl is
  tested (Taking j Commits) is = inl is
  tested (Taking j RollsBack) is = inl is
  tested (Taking j (Sweeps table)) (inl is) = inl is.1
  tested (Taking j (Sweeps table)) (inr is) = inr (j, table, refl, is.0)
  tested (Taking j (Works statement)) is = inl is
  tested AtEnd is = inl is
  tested Idle is = inl is

same_session : (a b : ℕ) → Some a ≡ Some b → a ≡ b
same_session a b e = cc

-- who waits is a session
follows_within : (older : History) (session k : ℕ) (holders : List ℕ) → FollowsAfter older (Wait session k holders) → session ≤ session_count older.world
follows_within older session k holders (due other within d) =
    let same : other ≡ session = same_session other session (sym (due_session d)) in omega (arith, same, within)

module _ (shape : Shape) (world : World) where
  abbrev past : List Event → History
  past events = record { shape = shape; world = world; events = events }

  abbrev locks_at : List Event → LockState
  locks_at events = lock_state (past events)

  module _ (older : List Event) (each : EachFollows shape world older) (ended : (one : ℕ) → Ends (waits_for (locks_at older)) one) where
    quiet : (now : Event) (session : ℕ) → session_of now ≡ Some session → waits_by (after_event (locks_at older) now) session (Some now) ≡ []
        → (one : ℕ) → Ends (waits_for (locks_at (now ∷ older))) one
    quiet now session its rests =
        quiet_ends (locks_at older) now session its (λ other there. none_there other (waits_by (after_event (locks_at older) now) session (Some now)) rests there) ended
      where
        none_there : (other : ℕ) (ones : List ℕ) → ones ≡ [] → contains ones other ≡ true → ⊥
        none_there other [] none there = cc
        none_there other (one ∷ ones) none there = cc

    waits : (session k : ℕ) (holders : List ℕ) → FollowsAfter (past older) (Wait session k holders)
        → IsTested (past older) session k holders (turn_of (past older) session)
        → (one : ℕ) → Ends (waits_for (locks_at (Wait session k holders ∷ older))) one
    waits session k holders follows (inl is) =
        tested_ends (locks_at older) session k holders (follows_within (past older) session k holders follows) is.2 ended
    waits session k holders follows (inr is) =
        lockless_ends (locks_at older) session k holders
        (sweeper_lockless shape world older each session k is.0 holders is.1 (locks_at older) refl follows is.2) ended

    one_more : (now : Event) → FollowsAfter (past older) now → IsLegalAfter (past older) now → (one : ℕ) → Ends (waits_for (locks_at (now ∷ older))) one
    one_more (Begin s k) follows legal = quiet (Begin s k) s refl refl
    one_more (Pass s k word) follows legal = quiet (Pass s k word) s refl refl
    one_more (Wait s k holders) follows legal =
        waits s k holders follows (tested (past older) s k holders (turn_of (past older) s) legal.0)
    one_more (Opened s k snapshot route) follows legal = quiet (Opened s k snapshot route) s refl refl
    one_more (Answer s k answer) follows legal = quiet (Answer s k answer) s refl refl
    one_more (Commit s k stamp low high) follows legal = quiet (Commit s k stamp low high) s refl refl
    one_more (Violation s k low high object) follows legal = quiet (Violation s k low high object) s refl refl
    one_more (Refuse s k refusal) follows legal = quiet (Refuse s k refusal) s refl refl
    one_more (Rollback s k) follows legal = quiet (Rollback s k) s refl refl
    one_more (VacuumBegin s k table) follows legal = quiet (VacuumBegin s k table) s refl refl
    one_more (VacuumSlice s k slice horizon) follows legal = quiet (VacuumSlice s k slice horizon) s refl refl
    one_more (VacuumEnd s k) follows legal = quiet (VacuumEnd s k) s refl refl
    one_more (Refresh cluster stamp) follows legal = ended
    one_more (End s) follows legal = quiet (End s) s refl refl

  -- each way along the waits comes to an end
  pub waits_end : (events : List Event) → EachFollows shape world events → EachIsLegal shape world events → (one : ℕ) → Ends (waits_for (locks_at events)) one
  waits_end [] follows legal one = ends (λ other there. absurd (cc))
  waits_end (now ∷ older) follows legal one =
      one_more older follows.1 (waits_end older follows.1 legal.1) now follows.0 legal.0 one

  pub acyclic : (events : List Event) → EachFollows shape world events → EachIsLegal shape world events → (session : ℕ) (cycle : List ℕ)
      → IsCycle (waits_for (locks_at events)) session cycle → ⊥
  acyclic events follows legal = no_cycle (waits_for (locks_at events)) (waits_end events follows legal)

  -- ---- somebody waits for nobody
  module _ (events : List Event) (follows : EachFollows shape world events) (unswept : (session : ℕ) → swept_by session events ≡ None) where
    -- who is waited for has a script and hasn't ended
    is_there : (other : ℕ) → (other ≤ session_count world) → (held_locks (locks_at events) other ≡ [] → ⊥) → IsSession world other
    is_there zero within holds = absurd (holds (no_lock shape world (locks_at events) 0 (worker_opened shape world events follows) (unswept 0)))
    is_there (suc n) within holds = (omega arith, within)

    is_left : (other : ℕ) (b : Bool) → has_ended other events ≡ b → (held_locks (locks_at events) other ≡ [] → ⊥) → b ≡ false
    is_left other false is holds = refl
    is_left other true is holds = absurd (holds (no_lock shape world (locks_at events) other (ended_opened shape world events other is) (unswept other)))

    free_by : (one : ℕ) (waits : List ℕ) → waits_for (locks_at events) one ≡ waits → IsSession world one → has_ended one events ≡ false
        → ((other : ℕ) → contains (waits_for (locks_at events) one) other ≡ true → IsSession world other → has_ended other events ≡ false → IsFree (past events))
        → IsFree (past events)
    free_by one [] is there left later = record { session = one; there = there; left = left; free = is }
    free_by one (other ∷ more) is there left later =
        let among : contains (waits_for (locks_at events) one) other ≡ true = ap (λ (ones : List ℕ). contains ones other) is ∙ front_there other more in
        let found = waited (locks_at events) one other among in
        later other among (is_there other found.0 found.1) (is_left other (has_ended other events) refl found.1)

    pub free_from : (one : ℕ) → Ends (waits_for (locks_at events)) one → IsSession world one → has_ended one events ≡ false → IsFree (past events)
    free_from one (ends later) there left =
        free_by one (waits_for (locks_at events) one) refl there left
        (λ other among there left. free_from other (later other among) there left)

  -- ---- and doesn't repeat a wait
  none_sweeps : (events : List Event) → ((session : ℕ) → swept_by session events ≡ None) → (ones : List ℕ)
      → find (λ (session : ℕ). is_some (swept_by session events)) ones ≡ None
  none_sweeps events unswept [] = refl
  none_sweeps events unswept (one ∷ ones) = none_by (is_some (swept_by one events)) (ap is_some (unswept one)) (none_sweeps events unswept ones)
    where
      none_by : (b : Bool) → b ≡ false → find (λ (session : ℕ). is_some (swept_by session events)) ones ≡ None
          → (if b then Some one else find (λ (session : ℕ). is_some (swept_by session events)) ones) ≡ None
      none_by true is rest = cc
      none_by false is rest = rest

  no_sweeper : (events : List Event) → ((session : ℕ) → swept_by session events ≡ None) → sweeper (past events) ≡ Some 0 → ⊥
  no_sweeper events unswept is =
      let none : sweeper (past events) ≡ None = none_sweeps events unswept (range_with_len 0 (suc (session_count world))) in cc

  no_holders : (holders found : List ℕ) → holders ≡ found → 0 < length holders → found ≡ [] → ⊥
  no_holders [] found same some none = omega (arith, some)
  no_holders (one ∷ holders) found same some none = cc

  unrepeated_by : (events : List Event) (session k : ℕ) (holders : List ℕ) → ((session : ℕ) → swept_by session events ≡ None)
      → waits_by (locks_at events) session (Some (Wait session k holders)) ≡ []
      → IsTested (past events) session k holders (turn_of (past events) session) → ⊥
  unrepeated_by events session k holders unswept free (inl is) = no_holders holders _ is.0 is.1 free
  unrepeated_by events session k holders unswept free (inr is) = no_sweeper events unswept is.3

  pub unrepeated : (events : List Event) → ((session : ℕ) → swept_by session events ≡ None) → (session : ℕ)
      → waits_for (locks_at events) session ≡ [] → RepeatsWait (past events) session → ⊥
  unrepeated events unswept session free repeats =
      unrepeated_by events session repeats.statement repeats.holders unswept
      (sym (ap (waits_by (locks_at events) session) repeats.newest) ∙ free)
      (tested (past events) session repeats.statement repeats.holders (turn_of (past events) session) repeats.waits)

-- somebody is free while somebody hasn't ended and no vacuum runs
pub free_one : (shape : Shape) (world : World) (events : List Event) → EachFollows shape world events → EachIsLegal shape world events
    → ((session : ℕ) → swept_by session events ≡ None) → (session : ℕ) → IsSession world session → has_ended session events ≡ false
    → IsFree (record { shape = shape; world = world; events = events })
free_one shape world events follows legal unswept session there left =
    free_from shape world events follows unswept session (waits_end shape world events follows legal session) there left

pub somebody_is_free : (shape : Shape) (world : World) (events : List Event) → EachFollows shape world events → EachIsLegal shape world events
    → shape.sessions ≡ session_count world → ((session : ℕ) → swept_by session events ≡ None) → (session : ℕ) → IsSession world session
    → has_ended session events ≡ false → IsFree (record { shape = shape; world = world; events = events })
somebody_is_free shape world events follows legal counted unswept session there left =
    free_one shape world events follows legal unswept session there left

pub somebody_steps : (shape : Shape) (world : World) (events : List Event) → EachFollows shape world events → EachIsLegal shape world events
    → ((session : ℕ) → swept_by session events ≡ None) → (session : ℕ) → IsSession world session → has_ended session events ≡ false
    → CanStep (record { shape = shape; world = world; events = events })
somebody_steps shape world events follows legal unswept session there left =
    let one = free_one shape world events follows legal unswept session there left in record {
      session = one.session;
      there = one.there;
      left = one.left;
      unrepeated = unrepeated shape world events unswept one.session one.free;
    }
