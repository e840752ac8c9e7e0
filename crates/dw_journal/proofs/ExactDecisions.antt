-- A violation comes exactly where a decision is due and the low watermark is at most the high one.
use Rattle.std.proofs.Common.{◌≡◌, ℕ, List, ◌∷◌, [], ◌++◌, refl, subst, arith}
use Rattle.std.specs.Prelude.{Option, Some}
use Rattle.dw_model.specs.declared.objects.Object.{Object}
use Rattle.dw_model.specs.declared.refusals.Refusal.{Refusal}
use Rattle.dw_journal.specs.declared.BlockState.{BlockState}
use Rattle.dw_journal.specs.declared.BlockState.TheVariants.{Within}
use Rattle.dw_journal.specs.declared.Event.{Event}
use Rattle.dw_journal.specs.declared.Event.TheVariants.{Violation, Refuse}
use Rattle.dw_journal.specs.declared.Journal.{Journal}
use Rattle.dw_journal.specs.declared.Shape.{Shape}
use Rattle.dw_journal.specs.declared.World.{World}
use Rattle.dw_journal.specs.History.{History, events_of, session_of}
use Rattle.dw_journal.specs.Blocks.{block_of}
use Rattle.dw_journal.specs.Transactions.{Transaction}
use Rattle.dw_journal.specs.Turns.{Turn, CommitOf, Taking, Commits, turn_of}
use Rattle.dw_journal.specs.Follows.{IsDecision, is_commit, is_violation, is_commit_refused, IsOpening, IsSweepOpening, IsAnswer, foreign, begin_outside, begin_within, begin_aborted, commit_outside, commit_of_nothing, commit_within, commit_aborted, rollback_outside, rollback_within, rollback_aborted, vacuum_outside, vacuum_within, vacuum_aborted, work_outside, work_within, work_aborted, IsDue, answers, decides, rebuilds, has_rebuilt, takes, ends, sweeps, FollowsAfter, EachFollows}
use Rattle.dw_journal.specs.Legal.{IsLegalAfter, EachIsLegal, IsLegal, IsRefusal, IsTakingRefusal}
use Rattle.dw_journal.specs.Decisions.{IsDecisionDue, HasToDecide, DecidesExactly}
use Rattle.dw_journal.proofs.OneJournal.{due_of}

module _ (older : History) (session : ℕ) where
  -- a decision is one, where a refusal is for want of memory
  decided : {k : ℕ} {event : Event} → IsDecision session k event
      → ((refusal : Refusal) → IsLegalAfter older (Refuse session k refusal) → DecidesExactly older session (Refuse session k refusal))
      → IsLegalAfter older event → DecidesExactly older session event
  decided (is_commit stamp low high) refused legal = omega (arith, legal.1, legal.2, legal.3)
  decided (is_violation low high object) refused legal = omega (arith, legal.0, legal.1, legal.2)
  decided (is_commit_refused refusal) refused legal = refused refusal legal

  at_commit : (k : ℕ) (turn_is : turn_of older session ≡ CommitOf k) (refusal : Refusal) → IsLegalAfter older (Refuse session k refusal)
      → DecidesExactly older session (Refuse session k refusal)
  at_commit k turn_is refusal legal =
      let r = subst (IsRefusal older session k refusal) turn_is legal in (r.1, r.0)

  at_block : (k : ℕ) (turn_is : turn_of older session ≡ Taking k Commits) (block_is : block_of older session ≡ Within) (refusal : Refusal)
      → IsLegalAfter older (Refuse session k refusal) → DecidesExactly older session (Refuse session k refusal)
  at_block k turn_is block_is refusal legal =
      let r = subst (λ (b : BlockState). IsTakingRefusal older session refusal k Commits b) block_is (subst (IsRefusal older session k refusal) turn_is legal) in
      (r.1, r.0)

  pub decides_exactly : {turn : Turn} {block : BlockState} {transaction : Option Transaction} {event : Event}
      → IsDue session block transaction turn event → turn_of older session ≡ turn → block_of older session ≡ block
      → IsDecisionDue turn block transaction → IsLegalAfter older event → DecidesExactly older session event
  decides_exactly (decides {k = k} d) turn_is block_is due legal = decided d (at_commit k turn_is) legal
  decides_exactly (takes {k = k} (commit_within d)) turn_is block_is due legal = decided d (at_block k turn_is block_is) legal
  decides_exactly (answers d) turn_is block_is due legal = absurd due
  decides_exactly rebuilds turn_is block_is due legal = absurd due
  decides_exactly has_rebuilt turn_is block_is due legal = absurd due
  decides_exactly ends turn_is block_is due legal = absurd due
  decides_exactly sweeps turn_is block_is due legal = absurd due
  decides_exactly (takes foreign) turn_is block_is due legal = absurd due
  decides_exactly (takes begin_outside) turn_is block_is due legal = absurd due
  decides_exactly (takes begin_within) turn_is block_is due legal = absurd due
  decides_exactly (takes begin_aborted) turn_is block_is due legal = absurd due
  decides_exactly (takes commit_outside) turn_is block_is due legal = absurd due
  decides_exactly (takes commit_of_nothing) turn_is block_is due legal = absurd due
  decides_exactly (takes commit_aborted) turn_is block_is due legal = absurd due
  decides_exactly (takes rollback_outside) turn_is block_is due legal = absurd due
  decides_exactly (takes rollback_within) turn_is block_is due legal = absurd due
  decides_exactly (takes rollback_aborted) turn_is block_is due legal = absurd due
  decides_exactly (takes (vacuum_outside d)) turn_is block_is due legal = absurd due
  decides_exactly (takes vacuum_within) turn_is block_is due legal = absurd due
  decides_exactly (takes vacuum_aborted) turn_is block_is due legal = absurd due
  decides_exactly (takes (work_outside d)) turn_is block_is due legal = absurd due
  decides_exactly (takes (work_within d)) turn_is block_is due legal = absurd due
  decides_exactly (takes work_aborted) turn_is block_is due legal = absurd due

-- a violation is due where a decision is
answer_violates : {session k s j low high : ℕ} {object : Object} → IsAnswer session k (Violation s j low high object) → ⊥
answer_violates d = elim d [ ]

opening_violates : {session k s j low high : ℕ} {object : Object} → IsOpening session k (Violation s j low high object) → ⊥
opening_violates d = elim d [ ]

sweep_violates : {session k s j low high : ℕ} {table : List ℕ} {object : Object} → IsSweepOpening session k table (Violation s j low high object) → ⊥
sweep_violates d = elim d [ ]

pub violation_due : {session s k low high : ℕ} {object : Object} {block : BlockState} {transaction : Option Transaction} {turn : Turn}
    → IsDue session block transaction turn (Violation s k low high object) → IsDecisionDue turn block transaction
violation_due (decides d) = tt
violation_due (takes (commit_within d)) = tt
violation_due (answers d) = absurd (answer_violates d)
violation_due (takes (vacuum_outside d)) = absurd (sweep_violates d)
violation_due (takes (work_outside d)) = absurd (opening_violates d)
violation_due (takes (work_within d)) = absurd (opening_violates d)

-- what stands of each event of a journal
pub follows_at : (shape : Shape) (world : World) (newer older : List Event) (event : Event) → EachFollows shape world (newer ++ event ∷ older)
    → FollowsAfter (record { shape = shape; world = world; events = older }) event
follows_at shape world [] older event each = each.0
follows_at shape world (first ∷ newer) older event each = follows_at shape world newer older event each.1

pub legal_at : (shape : Shape) (world : World) (newer older : List Event) (event : Event) → EachIsLegal shape world (newer ++ event ∷ older)
    → IsLegalAfter (record { shape = shape; world = world; events = older }) event
legal_at shape world [] older event each = each.0
legal_at shape world (first ∷ newer) older event each = legal_at shape world newer older event each.1

module _ (world : World) (journal : Journal) (newer older : List Event) where
  abbrev past : History
  past = record { shape = journal.shape; world = world; events = older }

  pub exact : (event : Event) (session : ℕ) → IsLegal world journal → events_of journal ≡ newer ++ event ∷ older → session_of event ≡ Some session
      → HasToDecide past session → DecidesExactly past session event
  exact event session legal stands its due =
      let follows = follows_at journal.shape world newer older event (subst (EachFollows journal.shape world) stands legal.follows) in
      let here = legal_at journal.shape world newer older event (subst (EachIsLegal journal.shape world) stands legal.legal) in
      decides_exactly past session (due_of journal.shape world older session its follows) refl refl due here

  pub only : (session k low high : ℕ) (object : Object) → IsLegal world journal → events_of journal ≡ newer ++ Violation session k low high object ∷ older
      → HasToDecide past session
  only session k low high object legal stands =
      let follows = follows_at journal.shape world newer older (Violation session k low high object) (subst (EachFollows journal.shape world) stands legal.follows) in
      violation_due (due_of journal.shape world older session refl follows)
