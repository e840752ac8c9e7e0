-- Whom a session waits for tells whether its newest event is a wait for just these holders.
use Rattle.std.proofs.Common.{◌≡◌, ℕ, zero, suc, ◌≤◌, Bool, true, false, List, [], ◌∷◌, refl, sym, ap, ◌∙◌, arith}
use Rattle.std.specs.Prelude.{Option, Some, None, if◌then◌else◌}
use Rattle.std.specs.Bool.{Decides}
use Rattle.std.proofs.lemmas.Bool.{eqb-true, eq-eqb, and_parts, and_from, false≢true}
use Rattle.dw_model.specs.Binding.{same_name}
use Rattle.dw_journal.specs.declared.Event.{Event}
use Rattle.dw_journal.specs.declared.Event.TheVariants.{Wait}
use Rattle.dw_journal.specs.History.{History, is_of, newest_event}
use Rattle.dw_journal.specs.Turns.{number_due, number_of}
use Rattle.dw_journal.specs.Follows.{EachFollows}
use Rattle.dw_core.specs.Asking.{wait_due}
use Rattle.dw_core.specs.CoreInvariant.{holders_in}
use Rattle.dw_core.proofs.Waiting.{waits_later}

same_name-true : (a b : List ℕ) → same_name a b ≡ true → a ≡ b
same_name-true [] [] is = refl
same_name-true [] (y ∷ b) is = absurd (false≢true is)
same_name-true (x ∷ a) [] is = absurd (false≢true is)
same_name-true (x ∷ a) (y ∷ b) is =
    let parts = and_parts _ _ is in
    let first = eqb-true x y parts.0 in let rest = same_name-true a b parts.1 in cc

same_name-self : (a : List ℕ) → same_name a a ≡ true
same_name-self [] = refl
same_name-self (x ∷ a) = and_from _ _ (eq-eqb x x refl) (same_name-self a)

inside : {A : Type 0} (a b : A) → Some a ≡ Some b → a ≡ b
inside a b same = cc

-- a session's newest event is of it
own_by : (session : ℕ) (event newest : Event) (older : List Event) (b : Bool) → is_of session event ≡ b → (if b then Some event else newest_event session older) ≡ Some newest
    → (newest_event session older ≡ Some newest → is_of session newest ≡ true) → is_of session newest ≡ true
own_by session event newest older true own is later = ap (is_of session) (sym (inside event newest is)) ∙ own
own_by session event newest older false own is later = later is

newest_own : (session : ℕ) (events : List Event) (newest : Event) → newest_event session events ≡ Some newest → is_of session newest ≡ true
newest_own session [] newest is = cc
newest_own session (event ∷ older) newest is = own_by session event newest older (is_of session event) refl is (newest_own session older newest)

-- a wait for whom a session waits
wait_of : (newest : Option Event) (holders : List ℕ) → holders_in newest ≡ Some holders → (other : ℕ) × (k : ℕ) × (newest ≡ Some (Wait other k holders))
wait_of (Some (Wait other k named)) holders is = (other, k, ap (λ (l : List ℕ). Some (Wait other k l)) (inside named holders is))
wait_of newest holders is = cc

module _ (history : History) (each : EachFollows history.shape history.world history.events) where
  -- it is that of the statement that is due
  wait_is_due : (session : ℕ) → 1 ≤ session → (other k : ℕ) (holders : List ℕ) → newest_event session history.events ≡ Some (Wait other k holders)
      → newest_event session history.events ≡ Some (wait_due history session holders)
  wait_is_due zero first other k holders newest = absurd (omega (arith, first))
  wait_is_due (suc n) first other k holders newest =
      let of_it = eqb-true other (suc n) (newest_own (suc n) history.events (Wait other k holders) newest) in
      let later = waits_later history.shape history.world history.events each n other k holders newest in
      let number : number_due history (suc n) ≡ k = ap number_of later.1 in
      newest ∙ ap (λ (s : ℕ). Some (Wait s k holders)) of_it ∙ ap (λ (j : ℕ). Some (Wait (suc n) j holders)) (sym number)

  module _ (session : ℕ) (first : 1 ≤ session) (holders : List ℕ) where
    pub waits_for_none : holders_in (newest_event session history.events) ≡ None → Decides false (newest_event session history.events ≡ Some (wait_due history session holders))
    waits_for_none none = (
      (λ is. absurd (false≢true is)),
      (λ newest.
          let e : Some holders ≡ None = sym (ap holders_in newest) ∙ none in cc),
    )

    pub waits_for_some : (waits : List ℕ) (result : Bool) → holders_in (newest_event session history.events) ≡ Some waits → result ≡ same_name waits holders
        → Decides result (newest_event session history.events ≡ Some (wait_due history session holders))
    waits_for_some waits result some told = (
      (λ is.
          let wait = wait_of (newest_event session history.events) holders (some ∙ ap Some (same_name-true waits holders (sym told ∙ is))) in
          wait_is_due session first wait.0 wait.1 holders wait.2),
      (λ newest.
          let same : waits ≡ holders = sym (inside holders waits (sym (ap holders_in newest) ∙ some)) in
          told ∙ ap (λ (l : List ℕ). same_name l holders) same ∙ same_name-self holders),
    )
