-- Journals that arise from a schedule.
use Rattle.std.specs.Prelude.{◌≡◌, ℕ, zero, suc, ◌<◌, Bool, true, false, ◌⊎◌, List, [], ◌∷◌, ◌++◌, reverse, Some}
use Rattle.dw_journal.specs.declared.Event.{Event}
use Rattle.dw_journal.specs.declared.Event.TheVariants.{Wait, Refuse, Refresh}
use Rattle.dw_journal.specs.declared.Journal.{Journal}
use Rattle.dw_journal.specs.declared.Shape.{Shape}
use Rattle.dw_journal.specs.declared.World.{World}
use Rattle.dw_journal.specs.Worlds.{IsSession, session_count}
use Rattle.dw_journal.specs.History.{History, events_of, session_of, newest_event, has_ended}
use Rattle.dw_journal.specs.Blocks.{is_memory}
use Rattle.dw_journal.specs.Follows.{FollowsAfter}
use Rattle.dw_journal.specs.Legal.{IsWait, IsLegalAfter, IsNextEvent}

-- what a schedule's step moves
pub data Move : Type 0 where
  -- a session
  OfSession : ℕ → Move
  -- a scaling cluster, which is refreshed
  OfCluster : ℕ → Move

-- a session would repeat the wait that is its newest event: the same wait is due again
pub record RepeatsWait (history : History) (session : ℕ) : Type 0 where
  pub statement : ℕ
  pub holders : List ℕ
  pub newest : newest_event session history.events ≡ Some (Wait session statement holders)
  pub follows : FollowsAfter history (Wait session statement holders)
  pub waits : IsWait history session statement holders

-- A step leads from these events to those, newest first. A session whose script is at its end, or which would repeat
-- its wait, does nothing; else one event of the session comes that follows and is legal. A cluster is refreshed.
pub data Step (shape : Shape) (world : World) : Move → List Event → List Event → Type 0 where
  nothing : {session : ℕ} {events : List Event}
      → (has_ended session events ≡ true) ⊎ RepeatsWait (record { shape = shape; world = world; events = events }) session
      → Step shape world (OfSession session) events events
  event : {session : ℕ} {older : List Event} (next : Event) → session_of next ≡ Some session
      → IsNextEvent (record { shape = shape; world = world; events = older }) next
      → Step shape world (OfSession session) older (next ∷ older)
  refresh : {cluster : ℕ} {older : List Event} (stamp : ℕ)
      → IsLegalAfter (record { shape = shape; world = world; events = older }) (Refresh cluster stamp)
      → Step shape world (OfCluster cluster) older (Refresh cluster stamp ∷ older)

-- Steps by these moves, the latest first, lead from no event to these events, newest first.
pub data Steps (shape : Shape) (world : World) : List Move → List Event → Type 0 where
  none : Steps shape world [] []
  more : {move : Move} {earlier : List Move} {older newer : List Event}
      → Steps shape world earlier older → Step shape world move older newer → Steps shape world (move ∷ earlier) newer

-- no event of these is a refusal for want of memory
abbrev pub is_memory_refusal : Event → Bool
is_memory_refusal (Refuse session statement refusal) = is_memory refusal
is_memory_refusal other = false

abbrev pub WithoutMemory : List Event → Type 0
WithoutMemory [] = Unit {0}
WithoutMemory (newest ∷ older) = (is_memory_refusal newest ≡ false) × WithoutMemory older

-- these moves are of sessions with a script, or of clusters
abbrev pub AreOfSessions : List Move → Type 0
AreOfSessions [] = Unit {0}
AreOfSessions (OfSession session ∷ moves) = (0 < session) × AreOfSessions moves
AreOfSessions (OfCluster cluster ∷ moves) = AreOfSessions moves

-- the sessions n, .., 2, 1: one round of turns, the latest first
abbrev pub round_of : ℕ → List Move
round_of zero = []
round_of (suc n) = OfSession (suc n) ∷ round_of n

-- so many rounds, the latest first
abbrev pub rounds_of : ℕ → ℕ → List Move
rounds_of n zero = []
rounds_of n (suc count) = round_of n ++ rounds_of n count

-- The journal arises from the moves in their order; past the last move the sessions take one step each in turn, in
-- ascending number, until all have ended.
pub record IsDriven (world : World) (moves : List Move) (journal : Journal) : Type 0 where
  pub rounds : ℕ
  pub steps : Steps journal.shape world (rounds_of (session_count world) rounds ++ reverse moves) (events_of journal)
  pub ends : (session : ℕ) → IsSession world session → has_ended session (events_of journal) ≡ true
