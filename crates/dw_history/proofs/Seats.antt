-- The views of all seats, where one of them changes.
use Rattle.std.proofs.Common.{◌≡◌, ◌≢◌, ◌⊎◌, ℕ, zero, suc, ◌+◌, ◌<◌, ◌≤◌, Bool, true, false, Option, Some, None, List, [], ◌∷◌, ◌++◌, length, set, refl, sym, ap, ◌∙◌, inl, inr, ⊎_elim, arith, true≢false}
use mathlib.Core.Option.{some, some-injective, some-ne-none}
use lib.ListN.{get_elem?}
use Rattle.atomic_table.proofs.Lists.{at_set, set_here, set_else}
use Rattle.dw_history.specs.declared.views.View.{View}
use Rattle.dw_history.specs.Rule.{one_if_some, one_if, total, IsSeated, count_of_tickets, count_of_spent}

module _ {A : Type 0} where
  pub at_length : (xs : List A) (i : ℕ) (x : A) → get_elem? xs i ≡ some x → i < length xs
  at_length [] i x e = absurd (some-ne-none x (sym e))
  at_length (y ∷ xs) zero x e = omega arith
  at_length (y ∷ xs) (suc i) x e = let h = at_length xs i x e in omega arith

  pub sum_set : (f : A → ℕ) (xs : List A) (i : ℕ) (x y : A) → get_elem? xs i ≡ some x → total f (set xs i y) + f x ≡ total f xs + f y
  sum_set f [] i x y e = absurd (some-ne-none x (sym e))
  sum_set f (z ∷ xs) zero x y e = let same : f z ≡ f x = ap f (some-injective z x e) in omega arith
  sum_set f (z ∷ xs) (suc i) x y e = let h = sum_set f xs i x y e in omega arith

  pub sum_snoc : (f : A → ℕ) (xs : List A) (x : A) → total f (xs ++ x ∷ []) ≡ total f xs + f x
  sum_snoc f [] x = omega arith
  sum_snoc f (y ∷ xs) x = let h = sum_snoc f xs x in omega arith

  pub sum_le : (f : A → ℕ) → ((x : A) → f x ≤ 1) → (xs : List A) → total f xs ≤ length xs
  sum_le f small [] = omega arith
  sum_le f small (x ∷ xs) = let h = sum_le f small xs in let k = small x in omega arith

  -- where the sum is as great as it can be, each summand is 1
  pub sum_full : (f : A → ℕ) → ((x : A) → f x ≤ 1) → (xs : List A) → total f xs ≡ length xs → (i : ℕ) (x : A) → get_elem? xs i ≡ some x → f x ≡ 1
  sum_full f small [] e i x at = absurd (some-ne-none x (sym at))
  sum_full f small (y ∷ xs) e zero x at =
      let same : f y ≡ f x = ap f (some-injective y x at) in
      let h = sum_le f small xs in let k = small y in let e' : f y + total f xs ≡ suc (length xs) = e in omega arith
  sum_full f small (y ∷ xs) e (suc i) x at =
      let h = sum_le f small xs in let k = small y in
      let e' : f y + total f xs ≡ suc (length xs) = e in
      let rest : total f xs ≡ length xs = omega arith in
      sum_full f small xs rest i x at

  -- what stands at a place of a list with one more at its end
  pub at_end : (xs : List A) (y x : A) (i : ℕ) → get_elem? (xs ++ y ∷ []) i ≡ some x → (get_elem? xs i ≡ some x) ⊎ ((i ≡ length xs) × (y ≡ x))
  at_end [] y x zero e = inr (refl, some-injective y x e)
  at_end [] y x (suc i) e = absurd (some-ne-none x (sym e))
  at_end (z ∷ xs) y x zero e = inl e
  at_end (z ∷ xs) y x (suc i) e = ⊎_elim (λ h. inl h) (λ h. inr (ap suc h.0, h.1)) (at_end xs y x i e)

pub small_ticket : (ticket : Option ℕ) → one_if_some ticket ≤ 1
small_ticket None = omega arith
small_ticket (Some t) = omega arith

pub small_flag : (b : Bool) → one_if b ≤ 1
small_flag true = omega arith
small_flag false = omega arith

pub flag_full : (b : Bool) → one_if b ≡ 1 → b ≡ true
flag_full true e = refl
flag_full false e = absurd (omega arith)

pub some_value : {A : Type 0} {a b : A} → ◌≡◌ {A = Option A} (Some a) (Some b) → a ≡ b
some_value {A} {a} e = ap (elim [ None ↦ a | Some t ↦ t ]) e

pub off : false ≡ true → ⊥
off e = true≢false (sym e)

module _ {E G : Type 0} where
  pub seated_set : (views : List (View E G)) (id : ℕ) (w : View E G) (seat : ℕ) (v : View E G) → IsSeated (set views id w) seat v → ((seat ≡ id) × (w ≡ v)) ⊎ ((seat ≢ id) × IsSeated views seat v)
  seated_set views id w seat v h =
      ⊎_elim
      (λ (t : (seat ≡ id) × (w ≡ v)). inl t)
      (λ (t : (seat ≢ id) × (get_elem? views seat ≡ some v)). inr (t.0, (t.1, h.1)))
      (at_set views id seat w v h.0)

  pub seated_here : (views : List (View E G)) (id : ℕ) (v w : View E G) → get_elem? views id ≡ some v → w.is_spent ≡ false → IsSeated (set views id w) id w
  seated_here views id v w at still = (set_here views id w (at_length views id v at), still)

  pub seated_else : (views : List (View E G)) (id : ℕ) (w : View E G) (seat : ℕ) (v : View E G) → seat ≢ id → IsSeated views seat v → IsSeated (set views id w) seat v
  seated_else views id w seat v apart h = (set_else views id seat w apart ∙ h.0, h.1)

  -- a seat has one view
  pub one_view : (views : List (View E G)) (seat : ℕ) (v w : View E G) → get_elem? views seat ≡ some v → get_elem? views seat ≡ some w → v ≡ w
  one_view views seat v w e f = some-injective v w (sym e ∙ f)

  pub waiting_le : (views : List (View E G)) → count_of_tickets views ≤ length views
  waiting_le views = sum_le (λ (v : View E G). one_if_some v.ticket) (λ v. small_ticket v.ticket) views

  pub waiting_set : (views : List (View E G)) (id : ℕ) (v w : View E G) → get_elem? views id ≡ some v → count_of_tickets (set views id w) + one_if_some v.ticket ≡ count_of_tickets views + one_if_some w.ticket
  waiting_set views id v w at = sum_set (λ (u : View E G). one_if_some u.ticket) views id v w at

  pub spent_set : (views : List (View E G)) (id : ℕ) (v w : View E G) → get_elem? views id ≡ some v → count_of_spent (set views id w) + one_if v.is_spent ≡ count_of_spent views + one_if w.is_spent
  spent_set views id v w at = sum_set (λ (u : View E G). one_if u.is_spent) views id v w at
