-- The keys of the commits in serial order are their sort.
use Rattle.std.proofs.Common.{◌≡◌, ℕ, zero, suc, ◌+◌, Bool, true, false, cond, List, [], ◌∷◌, map, reverse, refl, sym, ap, subst, ◌∙◌, arith}
use Rattle.std.specs.Prelude.{◌||◌, ◌&&◌, ◌==◌, nat_lt}
use Rattle.std.specs.declared.cmp.Ordering.TheVariants.{Less, Equal, Greater}
use Rattle.std.specs.Ordering.{is_lt, nat_cmp, ordering_then}
use Rattle.std.specs.List.Sorted.{IsPermutation, IsSorted}
use Rattle.std.specs.FinMap.{IsAntisymmetric, nat_cmp-IsAntisymmetric}
use Rattle.std.proofs.lemmas.List.Sorted.{IsPermutation-map, IsPermutation-reverse, IsPermutation-sym, IsPermutation-trans}
use Rattle.dw_value.proofs.SortedItems.{sort-of_sorted_items}
use Rattle.dw_journal.specs.declared.Event.{Event}
use Rattle.dw_journal.specs.Transactions.{CommittedTransaction, committed}
use Rattle.dw_journal.specs.Serial.{comes_first, in_order, AreInOrder}
use Rattle.dw_journal.proofs.SerialOrder.{IsPermutation-in_order, in_order-ordered}
use Rattle.dw_serial.specs.declared.order.SerialKey.{SerialKey}
use Rattle.dw_serial.specs.Keys.{key_of, key_cmp, key_cmp_total}

-- equal keys are the same
then_equal : (a b : Rattle.std.specs.declared.cmp.Ordering.Ordering) → ordering_then a b ≡ Equal → (a ≡ Equal) × (b ≡ Equal)
then_equal Less b e = cc
then_equal Equal b e = (refl, e)
then_equal Greater b e = cc

key_cmp-IsAntisymmetric : IsAntisymmetric key_cmp
key_cmp-IsAntisymmetric x y e =
    let parts = then_equal (nat_cmp x.low y.low) (nat_cmp y.stamp x.stamp) e in
    let low : x.low ≡ y.low = nat_cmp-IsAntisymmetric x.low y.low parts.0 in
    let stamp : x.stamp ≡ y.stamp = sym (nat_cmp-IsAntisymmetric y.stamp x.stamp parts.1) in
    λ i. record { low = low i; stamp = stamp i }

-- a lesser key is that of a commit that comes first
lesser_by : (p q r s : Bool) → is_lt (ordering_then (cond p Less (cond q Equal Greater)) (cond r Less (cond s Equal Greater))) ≡ (p || (q && r))
lesser_by true q r s = refl
lesser_by false true true s = refl
lesser_by false true false true = refl
lesser_by false true false false = refl
lesser_by false false r s = refl

lesser : (a b : CommittedTransaction) → is_lt (key_cmp (key_of a) (key_of b)) ≡ comes_first a b
lesser a b = lesser_by (nat_lt a.low b.low) (a.low == b.low) (nat_lt b.stamp a.stamp) (b.stamp == a.stamp)

-- the keys of commits in order ascend
ascending : (commits : List CommittedTransaction) → AreInOrder commits → IsSorted key_cmp (map key_of commits)
ascending [] order k d low high = absurd (omega (arith, high))
ascending (a ∷ []) order k d low high = absurd (omega (arith, high))
ascending (a ∷ b ∷ rest) order zero d low high = lesser b a ∙ order.0.0
ascending (a ∷ b ∷ rest) order (suc k) d low high =
    let next : suc k + 1 ≡ suc (k + 1) = omega arith in
    rw next (ascending (b ∷ rest) order.1 k d (omega arith) (omega (arith, high)))

-- the keys of a journal's commits, however they stand, sort to those in serial order
pub sorted_keys : (commits : List CommittedTransaction) (keys sorted : List SerialKey) → keys ≡ reverse (map key_of commits) → IsPermutation keys sorted → IsSorted key_cmp sorted
    → sorted ≡ map key_of (in_order commits)
sorted_keys commits keys sorted are same up =
    let turned : IsPermutation keys (map key_of commits) =
    subst (λ (ks : List SerialKey). IsPermutation ks (map key_of commits)) (sym are) (IsPermutation-sym (map key_of commits) (reverse (map key_of commits)) (IsPermutation-reverse (map key_of commits))) in
    let ordered : IsPermutation keys (map key_of (in_order commits)) =
    IsPermutation-trans keys (map key_of commits) (map key_of (in_order commits)) turned (IsPermutation-map key_of commits (in_order commits) (IsPermutation-in_order commits)) in
    sort-of_sorted_items key_cmp_total key_cmp-IsAntisymmetric keys sorted same up
    ∙ sym (sort-of_sorted_items key_cmp_total key_cmp-IsAntisymmetric keys (map key_of (in_order commits)) ordered (ascending (in_order commits) (in_order-ordered commits)))

pub stamps_of_keys : (commits : List CommittedTransaction) → map (λ (key : SerialKey). key.stamp) (map key_of commits) ≡ map (λ (commit : CommittedTransaction). commit.stamp) commits
stamps_of_keys [] = refl
stamps_of_keys (a ∷ rest) = ap (λ (stamps : List ℕ). a.stamp ∷ stamps) (stamps_of_keys rest)

-- so the stamps of the sorted keys are those in serial order
pub stamps_in_order : (events : List Event) (keys sorted : List SerialKey) → keys ≡ reverse (map key_of (committed events)) → IsPermutation keys sorted → IsSorted key_cmp sorted
    → map (λ (key : SerialKey). key.stamp) sorted ≡ map (λ (commit : CommittedTransaction). commit.stamp) (in_order (committed events))
stamps_in_order events keys sorted are same up =
    ap (map (λ (key : SerialKey). key.stamp)) (sorted_keys (committed events) keys sorted are same up) ∙ stamps_of_keys (in_order (committed events))
