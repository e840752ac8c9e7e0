-- How many items at the front of a list pass a test.
use Rattle.std.proofs.Common.{◌≡◌, ℕ, zero, suc, ◌≤◌, Bool, true, false, List, [], ◌∷◌, length, sym, ap, ◌∙◌, arith}
use Rattle.std.specs.Prelude.{if◌then◌else◌}
use Rattle.std.specs.List.{AllWithin}

abbrev pub front_len : {A : Type 0} → (A → Bool) → List A → ℕ
front_len test [] = 0
front_len test (first ∷ rest) = if test first then suc (front_len test rest) else 0

-- the place where those at the front end
pub front_len_is : {A : Type 0} (test : A → Bool) (items : List A) (i : ℕ) → i ≤ length items
    → AllWithin (λ item. test item ≡ true) items 0 i → AllWithin (λ item. test item ≡ false) items i (length items)
    → i ≡ front_len test items
front_len_is test [] i le front others = omega arith
front_len_is test (first ∷ rest) zero le front others =
    let e : test first ≡ false = others 0 first (omega arith) (omega arith) in
    sym (ap (λ t. if t then suc (front_len test rest) else 0) e)
front_len_is test (first ∷ rest) (suc i) le front others =
    let e : test first ≡ true = front 0 first (omega arith) (omega arith) in
    ap suc (front_len_is test rest i (omega arith) (λ k d a b. front (suc k) d (omega arith) (omega arith)) (λ k d a b. others (suc k) d (omega arith) (omega arith)))
    ∙ sym (ap (λ t. if t then suc (front_len test rest) else 0) e)
