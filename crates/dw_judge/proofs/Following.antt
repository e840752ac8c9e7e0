-- Whether an event follows is decided by what is kept of its session.
use Rattle.std.proofs.Common.{◌≡◌, ℕ, zero, suc, ◌<◌, ◌≤◌, Bool, false, List, length, get_or, refl, sym, ap, subst, ◌∙◌, arith}
use Rattle.std.specs.Prelude.{Option, Some, None, is_some}
use Rattle.std.specs.Bool.{Decides}
use Rattle.std.proofs.lemmas.Bool.{false≢true}
use Rattle.std.proofs.lemmas.Option.{slice_get_read}
use Rattle.dw_journal.specs.declared.BlockState.{BlockState}
use Rattle.dw_journal.specs.declared.Event.{Event}
use Rattle.dw_journal.specs.declared.Event.TheVariants.{Refresh}
use Rattle.dw_journal.specs.Worlds.{session_count}
use Rattle.dw_journal.specs.History.{History, session_of, newest_event, statements_taken}
use Rattle.dw_journal.specs.Blocks.{block_of}
use Rattle.dw_journal.specs.Transactions.{Transaction, transaction_of}
use Rattle.dw_journal.specs.Turns.{Turn, next_turn, turn_after, turn_of}
use Rattle.dw_journal.specs.Follows.{FollowsAfter, due, refreshes}
use Rattle.dw_journal.proofs.OneEvent.{due_session}
use Rattle.dw_journal.proofs.OneJournal.{due_of}
use Rattle.dw_judge.specs.declared.sessions.OpenOne.{OpenOne}
use Rattle.dw_judge.specs.declared.sessions.Session.{Session}
use Rattle.dw_judge.specs.declared.summaries.Summary.{Summary}
use Rattle.dw_judge.specs.Dues.{is_due_at, turn_between}
use Rattle.dw_judge.specs.Readings.{newest_kept}
use Rattle.dw_judge.specs.Summaries.{HasOpen, IsKept, StandsFor}
use Rattle.dw_judge.proofs.DueEvents.{due_passes, passes_due}

-- an event of no session is a refresh
pub unowned_follows : (history : History) (event : Event) → session_of event ≡ None → FollowsAfter history event
unowned_follows history (Refresh cluster stamp) none = refreshes
unowned_follows history event none = cc

same_session : (a b : ℕ) → Some a ≡ Some b → a ≡ b
same_session a b is = cc

-- the session of an event that follows is among those that there are
pub follows_within : (history : History) (session : ℕ) {event : Event} → session_of event ≡ Some session → FollowsAfter history event
    → session ≤ session_count history.world
follows_within history session own (due other within is_due) =
    subst (λ (n : ℕ). n ≤ session_count history.world) (same_session other session (sym (due_session is_due) ∙ own)) within
follows_within history session own refreshes = cc

pub next_is : (history : History) (session : ℕ) → next_turn history session ≡ turn_between history.world session (statements_taken session history.events)
next_is history zero = refl
next_is history (suc n) = refl

pub open_is : (history : History) (session : ℕ) (transaction : Option Transaction) (kept : Option OpenOne) → HasOpen history session transaction kept
    → is_some kept ≡ is_some transaction
open_is history session None None has = refl
open_is history session None (Some kept) has = absurd has
open_is history session (Some transaction) None has = absurd has
open_is history session (Some transaction) (Some kept) has = refl

module _ (events : List Event) (history : History) (summary : Summary) (stands : StandsFor events history summary) where
  -- what stands at a session's place is kept of it
  pub kept_at : (session place : ℕ) (kept : Session) → place ≡ session → place < length summary.sessions.items → kept ≡ get_or summary.sessions.items place kept
      → IsKept events history session kept
  kept_at session place kept is within here =
      let there = slice_get_read summary.sessions.items (length summary.sessions.items) place kept refl within here in
      subst (λ (n : ℕ). IsKept events history n kept) is (stands.each place kept there)

  -- the session of an event that follows has its place
  pub in_list : (event : Event) (session : ℕ) → session_of event ≡ Some session → FollowsAfter history event → session < length summary.sessions.items
  in_list event session own follows = omega (arith, stands.number, follows_within history session own follows)

  pub past_follows : (session : ℕ) (event : Event) → session_of event ≡ Some session → length summary.sessions.items ≤ session
      → Decides false (FollowsAfter history event)
  past_follows session event own past =
      ((λ is. absurd (false≢true is)), (λ follows. absurd (omega (arith, stands.number, follows_within history session own follows, past))))

module _ (events : List Event) (history : History) (session : ℕ) (kept : Session) (is_kept : IsKept events history session kept) where
  -- the turn of the session
  pub turn_is : turn_after history.shape kept.block (newest_kept events kept) (turn_between history.world session kept.taken) ≡ turn_of history session
  turn_is =
      ap (λ (block : BlockState). turn_after history.shape block (newest_kept events kept) (turn_between history.world session kept.taken)) is_kept.block
      ∙ ap (λ (newest : Option Event). turn_after history.shape (block_of history session) newest (turn_between history.world session kept.taken)) is_kept.newest
      ∙ ap (λ (taken : ℕ). turn_after history.shape (block_of history session) (newest_event session history.events) (turn_between history.world session taken)) is_kept.taken
      ∙ ap (turn_after history.shape (block_of history session) (newest_event session history.events)) (sym (next_is history session))

  pub kept_follows : (event : Event) (is_open result : Bool) (turn : Turn) → session_of event ≡ Some session → session ≤ session_count history.world
      → is_open ≡ is_some kept.transaction
      → turn ≡ turn_after history.shape kept.block (newest_kept events kept) (turn_between history.world session kept.taken)
      → result ≡ is_due_at kept.block is_open turn event → Decides result (FollowsAfter history event)
  kept_follows event is_open result turn own within open_kept turn_kept tested =
      let all : result ≡ is_due_at (block_of history session) (is_some (transaction_of session history.events)) (turn_of history session) event =
      tested ∙ ap (λ (block : BlockState). is_due_at block is_open turn event) is_kept.block
      ∙ ap (λ (b : Bool). is_due_at (block_of history session) b turn event) (open_kept ∙ open_is history session (transaction_of session history.events) kept.transaction is_kept.transaction)
      ∙ ap (λ (t : Turn). is_due_at (block_of history session) (is_some (transaction_of session history.events)) t event) (turn_kept ∙ turn_is) in (
        (λ is. due session within (passes_due session (block_of history session) (transaction_of session history.events) (turn_of history session) event own (sym all ∙ is))),
        (λ follows. all ∙ due_passes session (due_of history.shape history.world history.events session own follows)),
      )
