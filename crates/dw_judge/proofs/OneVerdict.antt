-- A journal has one verdict.
use Rattle.std.proofs.Common.{inl, inr, ◌≡◌, ℕ, ◌<◌, ◌≤◌, length, refl, sym, ap, subst, ◌∙◌, arith}
use Rattle.std.specs.Prelude.{Some, slice_get}
use Rattle.std.proofs.lemmas.Bool.{cases_lt, false≢true}
use Rattle.std.proofs.lemmas.Option.{slice_get_within}
use Rattle.dw_journal.specs.declared.Event.{Event}
use Rattle.dw_journal.specs.declared.Journal.{Journal}
use Rattle.dw_journal.specs.declared.World.{World}
use Rattle.dw_journal.specs.Follows.{Follows, FollowsAfter}
use Rattle.dw_journal.specs.Legal.{IsLegal, IsLegalAfter}
use Rattle.dw_judge.specs.declared.verdicts.Verdict.{Verdict}
use Rattle.dw_judge.specs.declared.verdicts.Verdict.TheVariants.{Passes, NotLegal, NotFollows}
use Rattle.dw_judge.specs.Verdicts.{AreRight, DoesNotFollow, IsIllegal, IsNotLegal, IsUndue, IsVerdict, history_before, other_sessions, undue, wanting}
use Rattle.dw_judge.proofs.FirstFaults.{all_right, right_below}

module _ (world : World) (journal : Journal) where
  -- the event at a place isn't right, and those before it are
  record Fault (place : ℕ) : Type 0 where
    before : AreRight world journal place
    event : Event
    stands : slice_get journal.events place ≡ Some event
    wrong : FollowsAfter (history_before world journal place) event → IsLegalAfter (history_before world journal place) event → ⊥

  of_illegal : (place : ℕ) → IsIllegal world journal place → Fault place
  of_illegal place is = record { before = is.before; event = is.event; stands = is.stands; wrong = λ follows legal. is.illegal legal }

  of_undue : (place : ℕ) → IsUndue world journal place → Fault place
  of_undue place is = record { before = is.before; event = is.event; stands = is.stands; wrong = λ follows legal. is.undue follows }

  fault_within : (place : ℕ) → Fault place → place < length journal.events
  fault_within place fault = slice_get_within journal.events place fault.event fault.stands

  no_fault_below : (place bound : ℕ) → Fault place → place < bound → bound ≤ length journal.events → AreRight world journal bound → ⊥
  no_fault_below place bound fault below within right =
      let parts = right_below world journal place bound fault.event below within fault.stands right in
      fault.wrong parts.0 parts.1

  no_fault : (place : ℕ) → Fault place → AreRight world journal (length journal.events) → ⊥
  no_fault place fault right = no_fault_below place (length journal.events) fault (fault_within place fault) (omega arith) right

  one_fault : (p q : ℕ) → Fault p → Fault q → p ≡ q
  one_fault p q first second =
      let p_in = fault_within p first in
      let q_in = fault_within q second in
      elim (cases_lt p q) [
        | inl below ↦ absurd (no_fault_below p q first below (omega arith) second.before)
        | inr above ↦ elim (cases_lt q p) [
          | inl below ↦ absurd (no_fault_below q p second below (omega arith) first.before)
          | inr same ↦ omega arith
        ]
      ]

  -- an event that isn't legal follows
  same_event : (a b : Event) (place : ℕ) → slice_get journal.events place ≡ Some a → slice_get journal.events place ≡ Some b → a ≡ b
  same_event a b place first second = cc

  illegal_undue : (p q : ℕ) → p ≡ q → IsIllegal world journal p → IsUndue world journal q → ⊥
  illegal_undue p q same first second =
      let there : slice_get journal.events q ≡ Some first.event = subst (λ (n : ℕ). slice_get journal.events n ≡ Some first.event) same first.stands in
      let follows : FollowsAfter (history_before world journal q) first.event = subst (λ (n : ℕ). FollowsAfter (history_before world journal n) first.event) same first.follows in
      second.undue (subst (FollowsAfter (history_before world journal q)) (same_event first.event second.event q there second.stands) follows)

  not_legal_or : (n m : ℕ) → IsNotLegal world journal n → DoesNotFollow world journal m → ⊥
  not_legal_or n m first (other_sessions none) = none first.sessions
  not_legal_or n m first (undue place counted sessions second) =
      illegal_undue first.place place (one_fault first.place place (of_illegal first.place first.illegal) (of_undue place second)) first.illegal second
  not_legal_or n m first (wanting counted sessions second) = no_fault first.place (of_illegal first.place first.illegal) second.before

  passes_or_not_legal : (n : ℕ) → IsLegal world journal → IsNotLegal world journal n → ⊥
  passes_or_not_legal n legal second = no_fault second.place (of_illegal second.place second.illegal) (all_right world journal legal)

  passes_or_not : (m : ℕ) → IsLegal world journal → Follows world journal → DoesNotFollow world journal m → ⊥
  passes_or_not m legal follows (other_sessions none) = none follows.sessions
  passes_or_not m legal follows (undue place counted sessions second) = no_fault place (of_undue place second) (all_right world journal legal)
  passes_or_not m legal follows (wanting counted sessions second) = false≢true (sym second.goes_on ∙ follows.ends second.session second.is_session)

  one_number : (n m : ℕ) → DoesNotFollow world journal n → DoesNotFollow world journal m → n ≡ m
  one_number n m (other_sessions none) (other_sessions neither) = refl
  one_number n m (other_sessions none) (undue place counted sessions second) = absurd (none sessions)
  one_number n m (other_sessions none) (wanting counted sessions second) = absurd (none sessions)
  one_number n m (undue place counted sessions first) (other_sessions none) = absurd (none sessions)
  one_number n m (undue p counted sessions first) (undue q numbered others second) =
      omega (arith, counted, numbered, one_fault p q (of_undue p first) (of_undue q second))
  one_number n m (undue place counted sessions first) (wanting numbered others second) = absurd (no_fault place (of_undue place first) second.before)
  one_number n m (wanting counted sessions first) (other_sessions none) = absurd (none sessions)
  one_number n m (wanting counted sessions first) (undue place numbered others second) = absurd (no_fault place (of_undue place second) first.before)
  one_number n m (wanting counted sessions first) (wanting numbered others second) = counted ∙ sym numbered

  pub one_verdict : (a b : Verdict) → IsVerdict world journal a → IsVerdict world journal b → a ≡ b
  one_verdict (Passes d) (Passes e) first second = ap Passes (first.2 ∙ sym second.2)
  one_verdict (Passes d) (NotLegal n) first second = absurd (passes_or_not_legal n first.0 second)
  one_verdict (Passes d) (NotFollows m) first second = absurd (passes_or_not m first.0 first.1 second)
  one_verdict (NotLegal n) (Passes d) first second = absurd (passes_or_not_legal n second.0 first)
  one_verdict (NotLegal n) (NotLegal m) first second =
      ap NotLegal (omega (arith, first.counted, second.counted, one_fault first.place second.place (of_illegal first.place first.illegal) (of_illegal second.place second.illegal)))
  one_verdict (NotLegal n) (NotFollows m) first second = absurd (not_legal_or n m first second)
  one_verdict (NotFollows n) (Passes d) first second = absurd (passes_or_not n second.0 second.1 first)
  one_verdict (NotFollows n) (NotLegal m) first second = absurd (not_legal_or m n second first)
  one_verdict (NotFollows n) (NotFollows m) first second = ap NotFollows (one_number n m first second)
