-- The serial order holds each committed transaction once, and none comes before one that stands before it.
use Rattle.std.proofs.Common.{◌≡◌, Bool, true, false, cond, List, [], ◌∷◌, refl, arith}
use Rattle.std.proofs.lemmas.Bool.Decides.{nat_tests}
use Rattle.std.proofs.lemmas.List.Sorted.{IsPermutation-refl, IsPermutation-cons, IsPermutation-trans, IsPermutation-middle}
use Rattle.std.specs.List.Sorted.{IsPermutation}
use Rattle.dw_journal.specs.Transactions.{CommittedTransaction}
use Rattle.dw_journal.specs.Serial.{comes_first, put_in_order, in_order, NoneComesBefore, AreInOrder}

put_by : (a b : CommittedTransaction) (rest : List CommittedTransaction) (v : Bool) → IsPermutation (a ∷ rest) (put_in_order a rest)
    → IsPermutation (a ∷ b ∷ rest) (cond v (a ∷ b ∷ rest) (b ∷ put_in_order a rest))
put_by a b rest true further = IsPermutation-refl (a ∷ b ∷ rest)
put_by a b rest false further =
    let turn : IsPermutation (a ∷ b ∷ rest) (b ∷ a ∷ rest) = IsPermutation-middle (a ∷ []) b rest in
    IsPermutation-trans (a ∷ b ∷ rest) (b ∷ a ∷ rest) (b ∷ put_in_order a rest) turn (IsPermutation-cons b (a ∷ rest) (put_in_order a rest) further)

pub IsPermutation-put : (a : CommittedTransaction) (rest : List CommittedTransaction) → IsPermutation (a ∷ rest) (put_in_order a rest)
IsPermutation-put a [] = IsPermutation-refl (a ∷ [])
IsPermutation-put a (b ∷ rest) = put_by a b rest (comes_first a b) (IsPermutation-put a rest)

pub IsPermutation-in_order : (commits : List CommittedTransaction) → IsPermutation commits (in_order commits)
IsPermutation-in_order [] = IsPermutation-refl []
IsPermutation-in_order (a ∷ rest) =
    IsPermutation-trans (a ∷ rest) (a ∷ in_order rest) (put_in_order a (in_order rest)) (IsPermutation-cons a rest (in_order rest) (IsPermutation-in_order rest)) (IsPermutation-put a (in_order rest))

none_put : (a b : CommittedTransaction) (rest : List CommittedTransaction) → comes_first b a ≡ false → NoneComesBefore a rest → NoneComesBefore a (put_in_order b rest)
none_put a b [] first none = (first, tt)
none_put a b (c ∷ rest) first none =
    elim (comes_first b c) as (λ v. NoneComesBefore a (cond v (b ∷ c ∷ rest) (c ∷ put_in_order b rest))) [
      | true ↦ (first, none)
      | false ↦ (none.0, none_put a b rest first none.1)
    ]

late : (a b c : CommittedTransaction) → comes_first a b ≡ true → comes_first c b ≡ false → comes_first c a ≡ false
late a b c first after = grind (arith, nat_tests, first, after)

none_further : (a b : CommittedTransaction) (rest : List CommittedTransaction) → comes_first a b ≡ true → NoneComesBefore b rest → NoneComesBefore a rest
none_further a b [] first none = tt
none_further a b (c ∷ rest) first none = (late a b c first none.0, none_further a b rest first none.1)

not_both : (a b : CommittedTransaction) → comes_first a b ≡ true → comes_first b a ≡ false
not_both a b first = grind (arith, nat_tests, first)

order_by : (a b : CommittedTransaction) (rest : List CommittedTransaction) (v : Bool) → comes_first a b ≡ v → NoneComesBefore b rest → AreInOrder rest
    → AreInOrder (put_in_order a rest) → AreInOrder (cond v (a ∷ b ∷ rest) (b ∷ put_in_order a rest))
order_by a b rest true first none order put = ((not_both a b first, none_further a b rest first none), (none, order))
order_by a b rest false first none order put = (none_put b a rest first none, put)

put_ordered : (a : CommittedTransaction) (rest : List CommittedTransaction) → AreInOrder rest → AreInOrder (put_in_order a rest)
put_ordered a [] order = (tt, tt)
put_ordered a (b ∷ rest) order = order_by a b rest (comes_first a b) refl order.0 order.1 (put_ordered a rest order.1)

pub in_order-ordered : (commits : List CommittedTransaction) → AreInOrder (in_order commits)
in_order-ordered [] = tt
in_order-ordered (a ∷ rest) = put_ordered a (in_order rest) (in_order-ordered rest)
