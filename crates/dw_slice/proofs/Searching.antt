-- What a bisection of ascending ids finds.
use Rattle.std.specs.Prelude.{nat_eq, nat_le, nat_lt, Result, Ok, Err}
use Rattle.std.specs.Result.{is_ok}
use Rattle.std.specs.Ordering.{nat_cmp}
use Rattle.std.specs.List.{list_any}
use Rattle.std.specs.List.Sorted.{IsBinarySearchResult, IsNonDecreasing, IsPermutation}
use Rattle.std.proofs.Common.{◌≡◌, ℕ, ◌<◌, ◌≤◌, Bool, true, false, List, length, get_or, sym, ap, refl, arith, eq-eqb}
use Rattle.std.proofs.lemmas.Bool.Decides.{nat_tests}
use Rattle.std.proofs.lemmas.List.{get_or_default}
use Rattle.std.proofs.lemmas.List.Folds.{list_any_at, list_any_none}
use Rattle.std.proofs.lemmas.List.Elements.{All-from_get_or}
use Rattle.std.proofs.lemmas.List.Sorted.{searched, list_any-IsPermutation}
use Rattle.dw_slice.specs.Marks.{is_within}
use Rattle.dw_slice.specs.Slices.{is_among}

unequal : (a b : ℕ) → (a ≡ b → ⊥) → nat_eq a b ≡ false
unequal a b ne = grind (arith, nat_tests)

beside : (low high id : ℕ) → (low ≤ id → id ≤ high → ⊥) → is_within low high id ≡ false
beside low high id ne = grind (arith, nat_tests)

is_less : (k i : ℕ) → nat_lt k i ≡ true → k < i
is_less k i e = grind (arith, nat_tests)

is_no_less : (k i : ℕ) → nat_lt k i ≡ false → i ≤ k
is_no_less k i e = grind (arith, nat_tests)

-- a place stands before another one, or doesn't
either_side : (t : Bool) (k i : ℕ) → nat_lt k i ≡ t → (k < i → ⊥) → (i ≤ k → ⊥) → ⊥
either_side true k i e before after = before (is_less k i e)
either_side false k i e before after = after (is_no_less k i e)

pub has_is : (xs : List ℕ) (x : ℕ) (r : Result ℕ ℕ) → IsBinarySearchResult (λ y. nat_cmp y x) xs r → IsNonDecreasing xs → is_ok r ≡ is_among xs x
has_is xs x (Ok i) h rises =
    let found : (i < length xs) × (get_or xs i 0 ≡ x) = searched xs x (Ok i) h (λ a b. rises a b 0) in
    sym (list_any_at (λ y. nat_eq y x) xs i 0 found.0 (eq-eqb (get_or xs i 0) x found.1))
has_is xs x (Err i) h rises =
    let found : (i ≤ length xs) × ((k : ℕ) → k < i → get_or xs k 0 < x) × ((k : ℕ) → i ≤ k → k < length xs → x < get_or xs k 0) = searched xs x (Err i) h (λ a b. rises a b 0) in
    sym (list_any_none (λ y. nat_eq y x) xs (All-from_get_or (λ y. nat_eq y x ≡ false) xs 0 (λ k l. unequal (get_or xs k 0) x (λ e. either_side (nat_lt k i) k i refl (λ lt. omega (arith, found.1 k lt)) (λ ge. omega (arith, found.2 k ge l))))))

above : (high id : ℕ) → nat_le id high ≡ false → high < id
above high id e = grind (arith, nat_tests)

pub past_by : (xs items : List ℕ) (i id high : ℕ) → xs ≡ items → id ≡ get_or items i id → nat_le id high ≡ false → i < length xs → high < get_or xs i 0
past_by xs items i id high same is e l =
    omega (arith, above high id e, is, get_or_default xs i id 0 l, ap (λ (ids : List ℕ). get_or ids i id) same)

-- no id is within the bounds where those from the lower one on are past the upper one
pub none_met : (xs : List ℕ) (low high i : ℕ) (r : Result ℕ ℕ) → IsBinarySearchResult (λ y. nat_cmp y low) xs r → IsNonDecreasing xs → r ≡ Err i → (i < length xs → high < get_or xs i 0) → list_any (is_within low high) xs ≡ false
none_met xs low high i (Ok j) h rises is past = cc
none_met xs low high i (Err j) h rises is past =
    let same : j ≡ i = cc in
    let found : (j ≤ length xs) × ((k : ℕ) → k < j → get_or xs k 0 < low) × ((k : ℕ) → j ≤ k → k < length xs → low < get_or xs k 0) = searched xs low (Err j) h (λ a b. rises a b 0) in
    list_any_none (is_within low high) xs (All-from_get_or (λ y. is_within low high y ≡ false) xs 0
    (λ k l. beside low high (get_or xs k 0) (λ over under. either_side (nat_lt k j) k j refl (λ lt. omega (arith, found.1 k lt))
    (λ ge. let from : i ≤ k = omega (arith, same) in let within : i < length xs = omega arith in omega (arith, past within, rises i k 0 from l)))))

-- sorted ids are the same ids
pub same_ids : (gone sorted : List ℕ) → IsPermutation gone sorted → (id : ℕ) → is_among sorted id ≡ is_among gone id
same_ids gone sorted p id = sym (list_any-IsPermutation (λ other. nat_eq other id) gone sorted p)
