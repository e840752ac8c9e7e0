-- What comes next of a session whose statement opens nothing.
use Rattle.std.proofs.Common.{inl, inr, ◌≡◌, ℕ, refl, sym, subst}
use Rattle.std.specs.Prelude.{Option, None, ◌⊎◌}
use Rattle.dw_model.specs.declared.answers.Word.TheVariants as words
use Rattle.dw_model.specs.declared.refusals.Refusal.{Refusal}
use Rattle.dw_model.specs.declared.refusals.Refusal.TheVariants.{Aborted as AbortedRefusal}
use Rattle.dw_journal.specs.declared.Event.{Event}
use Rattle.dw_journal.specs.declared.Event.TheVariants.{Pass, Refuse, Rollback, End}
use Rattle.dw_journal.specs.Worlds.{IsSession}
use Rattle.dw_journal.specs.History.{History}
use Rattle.dw_journal.specs.declared.BlockState.{BlockState}
use Rattle.dw_journal.specs.declared.BlockState.TheVariants.{Within, Aborted}
use Rattle.dw_journal.specs.Blocks.{block_of}
use Rattle.dw_journal.specs.Transactions.{Transaction, transaction_of}
use Rattle.dw_journal.specs.Turns.{Call, IsForeign, Begins, Commits, RollsBack, Turn, Taking, AtEnd, number_due, turn_of}
use Rattle.dw_journal.specs.Follows.{IsTaken, IsDue, FollowsAfter, due, takes, ends, foreign, begin_aborted, commit_of_nothing, rollback_within, rollback_aborted}
use Rattle.dw_journal.specs.Legal.{IsNextEvent, IsRefusal}

due_taken : {session k : ℕ} {block : BlockState} {transaction : Option Transaction} {turn : Turn} {call : Call} {event : Event} → turn ≡ Taking k call → IsTaken session k call block transaction event
    → IsDue session block transaction turn event
due_taken is taken = rw is (takes taken)

module _ (history : History) (session : ℕ) (is : IsSession history.world session) where
  abbrev transaction : Option Transaction
  transaction = transaction_of session history.events

  abbrev block : BlockState
  block = block_of history session

  abbrev k : ℕ
  k = number_due history session

  pub follows_taken : (call : Call) (at : BlockState) (event : Event) → turn_of history session ≡ Taking k call → block ≡ at → IsTaken session k call at transaction event
      → FollowsAfter history event
  follows_taken call at event turn at_is taken =
      due session is.1 (subst (λ (b : BlockState). IsDue session b transaction (turn_of history session) event) (sym at_is) (due_taken turn taken))

  pub end_comes : turn_of history session ≡ AtEnd → IsNextEvent history (End session)
  end_comes turn =
      let is_due : IsDue session block transaction (turn_of history session) (End session) = subst (λ (t : Turn). IsDue session block transaction t (End session)) (sym turn) ends in
      (due session is.1 is_due, tt)

  foreign_refusal : (n : ℕ) (refusal : Refusal) (turn : Turn) → turn ≡ Taking n (IsForeign refusal) → IsRefusal history session k refusal turn
  foreign_refusal n refusal turn turn_is = rw turn_is refl

  pub foreign_comes : (refusal : Refusal) → turn_of history session ≡ Taking k (IsForeign refusal) → IsNextEvent history (Refuse session k refusal)
  foreign_comes refusal turn =
      (follows_taken (IsForeign refusal) block (Refuse session k refusal) turn refl foreign, foreign_refusal k refusal (turn_of history session) turn)

  aborted_refusal : (n : ℕ) (turn : Turn) → turn ≡ Taking n Begins → block ≡ Aborted → IsRefusal history session k AbortedRefusal turn
  aborted_refusal n turn turn_is at = rw (turn_is, at) refl

  pub aborted_comes : turn_of history session ≡ Taking k Begins → block ≡ Aborted → IsNextEvent history (Refuse session k AbortedRefusal)
  aborted_comes turn at = (follows_taken Begins Aborted (Refuse session k AbortedRefusal) turn at begin_aborted, aborted_refusal k (turn_of history session) turn at)

  due_nothing : {n : ℕ} {turn : Turn} {before : Option Transaction} → turn ≡ Taking n Commits → before ≡ None → IsDue session Within before turn (Pass session n words.Commit)
  due_nothing turn_is none = rw (turn_is, none) (takes commit_of_nothing)

  pub nothing_follows : turn_of history session ≡ Taking k Commits → block ≡ Within → transaction ≡ None → FollowsAfter history (Pass session k words.Commit)
  nothing_follows turn at none =
      due session is.1 (subst (λ (b : BlockState). IsDue session b transaction (turn_of history session) (Pass session k words.Commit)) (sym at) (due_nothing turn none))

  pub rollback_follows : turn_of history session ≡ Taking k RollsBack → (block ≡ Within) ⊎ (block ≡ Aborted) → FollowsAfter history (Rollback session k)
  rollback_follows turn (inl at) = follows_taken RollsBack Within (Rollback session k) turn at rollback_within
  rollback_follows turn (inr at) = follows_taken RollsBack Aborted (Rollback session k) turn at rollback_aborted
