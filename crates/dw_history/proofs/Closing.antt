-- The rule holds at the start, and at the end it gives the whole history.
use Rattle.std.proofs.Common.{◌≡◌, ◌≢◌, ℕ, zero, suc, ◌+◌, ◌^◌, ◌<◌, ◌≤◌, true, false, Option, Some, List, [], ◌∷◌, length, refl, sym, ap, ◌∙◌, subst, inl, ⊎_elim, arith}
use native.Mathlib.Decide.{ℕ_discrete}
use mathlib.Core.Option.{some, none, some-injective, some-ne-none}
use mathlib.Core.Option as maybe
use lib.ListN.{get_elem?}
use Rattle.atomic_table.specs.Table.{State, Final, Seen, opening}
use Rattle.dw_history.specs.declared.views.View.{View}
use Rattle.dw_history.specs.Histories.{entries_of}
use Rattle.dw_history.specs.Views.{first_view}
use Rattle.dw_history.specs.Rule.{one_if, IsSeated, IsTakenIn, count_of_tickets, count_of_spent, Fits, Counts, IsHome, IsOut, IsOneHistory}
use Rattle.dw_history.specs.Calls.{IsWhole}
use Rattle.dw_history.proofs.Fronts.{front_empty}
use Rattle.dw_history.proofs.Seats.{some_value, sum_full, small_flag, flag_full, off, one_view}

module _ {S E G : Type 0} (history_of : S → List E) (number_of : E → ℕ) (ground_of : S → G) where
  module _ (value : S) (empty : history_of value ≡ []) where
    abbrev start_view : View E G
    start_view = first_view (ground_of value)

    abbrev start : State (Option S) (View E G)
    start = opening (0 ∷ 0 ∷ []) (Some value ∷ []) start_view

    at_start : (seat : ℕ) (view : View E G) → get_elem? (start_view ∷ []) seat ≡ some view → (seat ≡ 0) × (start_view ≡ view)
    at_start zero view e = (refl, some-injective start_view view e)
    at_start (suc seat) view e = absurd (some-ne-none view (sym e))

    start_fit : Fits number_of (ground_of value) [] 0 0 0 start_view
    start_fit = record {
      number = refl;
      stands = refl;
      seen = front_empty [];
      met = (front_empty [], front_empty []);
      mine = refl;
      drawn = λ ticket e. absurd (cc);
      inside = λ e. absurd (off e);
    }

    none_taken_in : (n : ℕ) → IsTakenIn start.views n → ⊥
    none_taken_in n t = let h = at_start n t.0 t.1 in off (ap (λ (x : View E G). x.is_spent) h.1 ∙ t.2)

    start_counts : Counts number_of [] start.views start_view
    start_counts = record {
      made = refl;
      taken = refl;
      kept = λ n entries has. absurd (let k = has.1 in omega arith);
      found = λ n t. absurd (none_taken_in n t);
    }

    pub begins : IsOneHistory history_of number_of ground_of (ground_of value) start
    begins = record {
      turns = 0;
      history = [];
      words = refl;
      few = (let h : 1 < 2 ^ 32 = omega arith in h);
      fits = λ seat view h.
          let a = at_start seat view h.0 in
          subst (λ (x : View E G). Fits number_of (ground_of value) [] 0 0 seat x) a.1 (subst (λ (n : ℕ). Fits number_of (ground_of value) [] 0 0 n start_view) (sym a.0) start_fit);
      apart = λ seat other one two ticket h1 h2 e1 e2. (at_start seat one h1.0).0 ∙ sym (at_start other two h2.0).0;
      longest = (0, start_view, (refl, refl), refl);
      first = λ view e. subst (λ (x : View E G). (x.is_spent ≡ false) × Counts number_of [] start.views x) (at_start 0 view e).1 (refl, start_counts);
      unmade = λ number le. refl;
      value = inl (value, refl, empty, refl, λ seat view h. sym (ap (λ (x : View E G). x.is_inside) (at_start seat view h.0).1));
    }

  -- what stands in a slot of values
  pub begins_at : (value : S) (slots : List (Option S)) → history_of value ≡ [] → slots ≡ Some value ∷ [] → IsOneHistory history_of number_of ground_of (ground_of value) (opening (0 ∷ 0 ∷ []) slots (first_view (ground_of value)))
  begins_at value slots empty is = subst (λ (l : List (Option S)). IsOneHistory history_of number_of ground_of (ground_of value) (opening (0 ∷ 0 ∷ []) l (first_view (ground_of value)))) (sym is) (begins value empty)

-- where all but one are taken in, and the first is not, all others are
others_spent : {E G : Type 0} (views : List (View E G)) (view : View E G) → get_elem? views 0 ≡ some view → view.is_spent ≡ false → count_of_spent views + 1 ≡ length views
    → (seat : ℕ) (u : View E G) → seat ≢ 0 → get_elem? views seat ≡ some u → u.is_spent ≡ true
others_spent [] view at unspent e seat u apart h = absurd (some-ne-none view (sym at))
others_spent (x ∷ xs) view at unspent e zero u apart h = absurd (apart refl)
others_spent {E} {G} (x ∷ xs) view at unspent e (suc seat) u apart h =
    let a : one_if x.is_spent ≡ 0 = ap one_if (ap (λ (v : View E G). v.is_spent) (some-injective x view at) ∙ unspent) in
    let e' : one_if x.is_spent + count_of_spent xs + 1 ≡ suc (length xs) = e in
    let full : count_of_spent xs ≡ length xs = omega arith in
    flag_full u.is_spent (sum_full (λ (v : View E G). one_if v.is_spent) (λ v. small_flag v.is_spent) xs full seat u h)

there_is : {A : Type 0} (xs : List A) (i : ℕ) → i < length xs → (x : A) × (get_elem? xs i ≡ some x)
there_is [] i lt = absurd (omega arith)
there_is (x ∷ xs) zero lt = (x, refl)
there_is (x ∷ xs) (suc i) lt = there_is xs i (omega arith)

-- what a table under the rule is left with once the pass 0 has taken in all others
pub record IsClosed {S E G : Type 0} (history_of : S → List E) (number_of : E → ℕ) (ground_of : S → G) (own : G) (view : View E G) (slots : List (Option S)) : Type 0 where
  pub value : S
  pub there : get_elem? slots 0 ≡ some (Some value)
  pub whole : IsWhole number_of view (history_of value)
  pub stands : ground_of value ≡ own

module _ {S E G : Type 0} (history_of : S → List E) (number_of : E → ℕ) (ground_of : S → G) (own : G) (id : ℕ) (view : View E G) (zeroth : view.number ≡ 0) (unspent : view.is_spent ≡ false) (outside : view.is_inside ≡ false) (all : view.made ≡ length view.joined + 1)
    (words : List ℕ) (slots : List (Option S)) (final : Final (Seen (IsOneHistory history_of number_of ground_of own) id view) words slots) where
  abbrev last : State (Option S) (View E G)
  last = final.0

  abbrev kept : IsOneHistory history_of number_of ground_of own last
  kept = final.1.0

  at_id : get_elem? last.views id ≡ some view
  at_id = final.1.1

  fit : Fits number_of own kept.history kept.turns (count_of_tickets last.views) id view
  fit = kept.fits id view (at_id, unspent)

  zero_id : id ≡ 0
  zero_id = sym fit.number ∙ zeroth

  at_zero : get_elem? last.views 0 ≡ some view
  at_zero = subst (λ (n : ℕ). get_elem? last.views n ≡ some view) zero_id at_id

  counts : Counts number_of kept.history last.views view
  counts = (kept.first view at_zero).1

  full : count_of_spent last.views + 1 ≡ length last.views
  full = ap (λ (n : ℕ). n + 1) (sym counts.taken) ∙ (sym all ∙ counts.made)

  only : (seat : ℕ) (u : View E G) → IsSeated last.views seat u → Dec (seat ≡ 0) → u ≡ view
  only seat u h (yes e) = one_view last.views 0 u view (subst (λ (n : ℕ). get_elem? last.views n ≡ some u) e h.0) at_zero
  only seat u h (no ne) = absurd (off (sym h.1 ∙ others_spent last.views view at_zero unspent full seat u ne h.0))

  only_one : (seat : ℕ) (u : View E G) → IsSeated last.views seat u → u ≡ view
  only_one seat u h = only seat u h (ℕ_discrete seat 0)

  history_is : kept.history ≡ view.seen
  history_is = let l = kept.longest in sym l.3 ∙ ap (λ (u : View E G). u.seen) (only_one l.0 l.1 l.2)

  whole_history : IsWhole number_of view kept.history
  whole_history = record {
    seen = history_is;
    mine = subst (λ (n : ℕ). entries_of number_of n kept.history ≡ view.mine) zero_id fit.mine;
    theirs = λ number entries has. (counts.kept number entries has).0;
    each = λ number positive lt.
        let within : number < length last.views = subst (λ (n : ℕ). number < n) counts.made lt in
        let u = there_is last.views number within in
        counts.found number (u.0, u.1, others_spent last.views view at_zero unspent full number u.0 (λ e. let f : number ≡ 0 = e in absurd (omega arith)) u.1);
    no_others = λ number le. kept.unmade number (subst (λ (n : ℕ). n ≤ number) counts.made le);
  }

  pub closes : IsClosed history_of number_of ground_of own view slots
  closes =
      ⊎_elim
      (λ (home : IsHome history_of ground_of own kept.history last). record {
        value = home.0;
        there = final.4 0 (Some home.0) (ap (λ (hs : List (maybe.Option (Option S))). get_elem? hs 0) home.1);
        whole = subst (λ (l : List E). IsWhole number_of view l) (sym home.2) whole_history;
        stands = home.3;
      })
      (λ (out : IsOut last). absurd (off (sym outside ∙ (sym (ap (λ (u : View E G). u.is_inside) (only_one out.0 out.1 out.2)) ∙ out.3))))
      kept.value

-- a place has one value
pub value_of_both : {S : Type 0} (found : maybe.Option (Option S)) (one other : S) → found ≡ some (Some one) → found ≡ some (Some other) → one ≡ other
value_of_both found one other e f = some_value (some-injective (Some one) (Some other) (sym e ∙ f))
