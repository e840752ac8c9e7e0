-- What comes of judging a journal beside its world: that it is right, or the first place where it isn't. Events are
-- counted from 1.
use Rattle.std.specs.Prelude.{◌≡◌, ℕ, ◌+◌, false, length, reverse, take, slice_get, Some}
use Rattle.dw_journal.specs.declared.Event.{Event}
use Rattle.dw_journal.specs.declared.Journal.{Journal}
use Rattle.dw_journal.specs.declared.World.{World}
use Rattle.dw_journal.specs.Worlds.{IsSession, session_count}
use Rattle.dw_journal.specs.History.{History, events_of, has_ended, history_of}
use Rattle.dw_journal.specs.Contents.{contents}
use Rattle.dw_journal.specs.Follows.{EachFollows, Follows, FollowsAfter}
use Rattle.dw_journal.specs.Legal.{EachIsLegal, IsLegal, IsLegalAfter}
use Rattle.dw_judge.specs.declared.verdicts.Verdict.{Verdict}
use Rattle.dw_judge.specs.declared.verdicts.Verdict.TheVariants.{Passes, NotLegal, NotFollows}

-- what happened before the event at this place, from 0
abbrev pub history_before : World → Journal → ℕ → History
history_before world journal place =
    record { shape = journal.shape; world = world; events = reverse (take place journal.events) }

-- the journal has as many sessions as there are scripts
abbrev pub HasItsSessions : World → Journal → Type 0
HasItsSessions world journal = journal.shape.sessions ≡ session_count world

-- the events before this place are right: each follows after those before it and is legal after them
pub record AreRight (world : World) (journal : Journal) (place : ℕ) : Type 0 where
  pub follows : EachFollows journal.shape world (reverse (take place journal.events))
  pub legal : EachIsLegal journal.shape world (reverse (take place journal.events))

-- the event at this place is the first that isn't right: it doesn't follow from the scripts
pub record IsUndue (world : World) (journal : Journal) (place : ℕ) : Type 0 where
  pub before : AreRight world journal place
  pub event : Event
  pub stands : slice_get journal.events place ≡ Some event
  pub undue : FollowsAfter (history_before world journal place) event → ⊥

-- the event at this place is the first that isn't right: it follows from the scripts and isn't legal
pub record IsIllegal (world : World) (journal : Journal) (place : ℕ) : Type 0 where
  pub before : AreRight world journal place
  pub event : Event
  pub stands : slice_get journal.events place ≡ Some event
  pub follows : FollowsAfter (history_before world journal place) event
  pub illegal : IsLegalAfter (history_before world journal place) event → ⊥

-- all events are right, and the next one is wanting: a session's script isn't at its end
pub record IsWanting (world : World) (journal : Journal) : Type 0 where
  pub before : AreRight world journal (length journal.events)
  pub session : ℕ
  pub is_session : IsSession world session
  pub goes_on : has_ended session (events_of journal) ≡ false

-- the journal doesn't follow from the scripts at the event of this number; 0 stands for the journal's shape
pub data DoesNotFollow (world : World) (journal : Journal) : ℕ → Type 0 where
  other_sessions : (HasItsSessions world journal → ⊥) → DoesNotFollow world journal 0
  undue : {number : ℕ} (place : ℕ) → number ≡ place + 1 → HasItsSessions world journal → IsUndue world journal place
      → DoesNotFollow world journal number
  wanting : {number : ℕ} → number ≡ length journal.events → HasItsSessions world journal → IsWanting world journal
      → DoesNotFollow world journal number

-- the event of this number is the first that isn't right, and it isn't legal
pub record IsNotLegal (world : World) (journal : Journal) (number : ℕ) : Type 0 where
  pub place : ℕ
  pub counted : number ≡ place + 1
  pub sessions : HasItsSessions world journal
  pub illegal : IsIllegal world journal place

-- the verdict on a journal
abbrev pub IsVerdict : World → Journal → Verdict → Type 0
IsVerdict world journal (Passes database) =
    IsLegal world journal × Follows world journal × (database ≡ contents (history_of world journal))
IsVerdict world journal (NotLegal number) = IsNotLegal world journal number
IsVerdict world journal (NotFollows number) = DoesNotFollow world journal number
