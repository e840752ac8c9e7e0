-- The null bits of values, bit by bit.
use Rattle.std.proofs.Common.{◌≡◌, ℕ, zero, suc, ◌+◌, ◌-◌, ◌*◌, ◌/◌, ◌%◌, ◌^◌, ◌<◌, ◌≤◌, Bool, true, false, List, [], ◌∷◌, ◌++◌, length, min, inl, inr, append_assoc, length-take, length-drop, get_or, take, drop, if◌then◌else◌, sym, ap, ◌∙◌, arith, mul_assoc}
use Rattle.std.proofs.lemmas.List.{get_or-take, get_or-drop, take_all, drop_all}
use Rattle.std.proofs.lemmas.Bool.{cases_lt}
use Rattle.std.proofs.lemmas.Grind.{pow_more}
use Rattle.std.proofs.Math.Nat.{pow-succ', div-div-eq-div-mul}
use Rattle.std.specs.Prelude.{slice_index}
use Rattle.dw_value.specs.declared.values.Value.{Value}
use Rattle.dw_value.specs.Values.{is_null}
use Rattle.dw_block.specs.Nulls.{null_number, null_bytes}

abbrev flag : Value → ℕ
flag value = if is_null value then 1 else 0

-- one more value adds its bit
number_more : (values : List Value) (i : ℕ) (d : Value) → i < length values → null_number (take (suc i) values) ≡ null_number (take i values) + 2 ^ i * flag (get_or values i d)
number_more [] i d lt = absurd (omega arith)
number_more (v ∷ vs) zero d lt = omega arith
number_more (v ∷ vs) (suc i) d lt =
    let more = number_more vs i d (omega arith) in
    let twice : 2 ^ suc i * flag (get_or vs i d) ≡ 2 * (2 ^ i * flag (get_or vs i d)) =
    ap (λ (n : ℕ). n * flag (get_or vs i d)) (pow-succ' 2 i) ∙ mul_assoc 2 (2 ^ i) (flag (get_or vs i d)) in
    omega (arith, more, twice)

-- a step of the loop over the values: what the byte is then, and that it is below the next weight
pub null_step : (values : List Value) (i : ℕ) (v : Value) (byte weight next : ℕ) (t : Bool) → i < length values → v ≡ get_or values i v → is_null v ≡ t
    → byte ≡ null_number (take i values) → weight ≡ 2 ^ i → byte < weight → next ≡ (if t then byte + weight else byte)
    → (next ≡ null_number (take (i + 1) values)) × (weight * 2 ≡ 2 ^ (i + 1)) × (next < weight * 2)
null_step values i v byte weight next t lt is null bits power below set =
    let index : i + 1 ≡ suc i = omega arith in
    let bit : flag (get_or values i v) ≡ (if t then 1 else 0) = ap (λ (x : Value). flag x) (sym is) ∙ ap (λ (b : Bool). if b then 1 else 0) null in
    let more : null_number (take (i + 1) values) ≡ byte + weight * (if t then 1 else 0) =
    ap (λ (n : ℕ). null_number (take n values)) index ∙ number_more values i v lt
    ∙ ap (λ (n : ℕ). n + 2 ^ i * flag (get_or values i v)) (sym bits) ∙ ap (λ (n : ℕ). byte + n * flag (get_or values i v)) (sym power)
    ∙ ap (λ (n : ℕ). byte + weight * n) bit in
    let double : weight * 2 ≡ 2 ^ (i + 1) = ap (λ (n : ℕ). n * 2) power ∙ sym (pow_more 2 i) in
    elim t as (λ b. next ≡ (if b then byte + weight else byte) → null_number (take (i + 1) values) ≡ byte + weight * (if b then 1 else 0) → (next ≡ null_number (take (i + 1) values)) × (weight * 2 ≡ 2 ^ (i + 1)) × (next < weight * 2)) [
      | true ↦ λ a b. (omega (arith, a, b), double, omega (arith, a))
      | false ↦ λ a b. (omega (arith, a, b), double, omega (arith, a))
    ] set more

flag_small : (v : Value) → flag v ≤ 1
flag_small v = small (is_null v) where
  small : (t : Bool) → (if t then 1 else 0) ≤ 1
  small true = omega arith
  small false = omega arith

-- a bit of a number
bit_of : (values : List Value) (k : ℕ) (d : Value) → k < length values → null_number values / 2 ^ k % 2 ≡ flag (get_or values k d)
bit_of [] k d lt = absurd (omega arith)
bit_of (v ∷ vs) zero d lt = let few : flag v ≤ 1 = flag_small v in omega (arith, few)
bit_of (v ∷ vs) (suc k) d lt =
    let few : flag v ≤ 1 = flag_small v in
    let half : (flag v + 2 * null_number vs) / 2 ≡ null_number vs = omega (arith, few) in
    ap (λ (n : ℕ). (flag v + 2 * null_number vs) / n % 2) (pow-succ' 2 k)
    ∙ ap (λ (n : ℕ). n % 2) (sym (div-div-eq-div-mul (flag v + 2 * null_number vs) 2 (2 ^ k)))
    ∙ ap (λ (n : ℕ). n / 2 ^ k % 2) half
    ∙ bit_of vs k d (omega arith)

bit_here : (count : ℕ) (values : List Value) (place : ℕ) (d : Value) → place < length values → place < 8 → slice_index (null_bytes (suc count) values) (place / 8) / 2 ^ (place % 8) % 2 ≡ flag (get_or values place d)
bit_here count values place d lt near =
    let first : place / 8 ≡ 0 = omega arith in
    let bit : place % 8 ≡ place = omega arith in
    let within : place < length (take 8 values) = omega (arith, length-take 8 values) in
    ap (λ (n : ℕ). slice_index (null_bytes (suc count) values) n / 2 ^ (place % 8) % 2) first
    ∙ ap (λ (n : ℕ). null_number (take 8 values) / 2 ^ n % 2) bit
    ∙ bit_of (take 8 values) place d within
    ∙ ap (λ (v : Value). flag v) (get_or-take 8 values place d near)

-- the bit at a place
pub bit_is : (count : ℕ) (values : List Value) (place : ℕ) (d : Value) → place < length values → place < 8 * count → slice_index (null_bytes count values) (place / 8) / 2 ^ (place % 8) % 2 ≡ flag (get_or values place d)
bit_is zero values place d lt within = absurd (omega arith)
bit_is (suc count) values place d lt within = elim (cases_lt place 8) [
  | inl near ↦ bit_here count values place d lt near
  | inr far ↦
      let p : ℕ = place - 8 in
      let byte : place / 8 ≡ suc (p / 8) = omega arith in
      let bit : place % 8 ≡ p % 8 = omega arith in
      let back : 8 + p ≡ place = omega arith in
      ap (λ (n : ℕ). slice_index (null_bytes (suc count) values) n / 2 ^ (place % 8) % 2) byte
      ∙ ap (λ (n : ℕ). slice_index (null_bytes count (drop 8 values)) (p / 8) / 2 ^ n % 2) bit
      ∙ bit_is count (drop 8 values) p d (omega (arith, length-drop 8 values)) (omega arith)
      ∙ ap (λ (v : Value). flag v) (get_or-drop 8 values p d)
      ∙ ap (λ (n : ℕ). flag (get_or values n d)) back
]

-- the front and the back of at most eight values
front_of : (k : ℕ) (rest : List Value) → k ≡ min (length rest) 8 → (take k rest ≡ take 8 rest) × (drop k rest ≡ drop 8 rest)
front_of k rest is = elim (cases_lt 8 (length rest)) [
  | inl more ↦ let eight : k ≡ 8 = omega arith in (ap (λ (n : ℕ). take n rest) eight, ap (λ (n : ℕ). drop n rest) eight)
  | inr few ↦ (take_all k rest (omega arith) ∙ sym (take_all 8 rest few), drop_all k rest (omega arith) ∙ sym (drop_all 8 rest few))
]

-- a step of the loop over the bytes
pub bytes_step : (j m k : ℕ) (rest front back : List Value) (whole old new : List ℕ) → whole ≡ old ++ null_bytes j rest → j ≡ suc m → k ≡ min (length rest) 8
    → front ≡ take k rest → back ≡ drop k rest → new ≡ old ++ null_number front ∷ [] → whole ≡ new ++ null_bytes m back
bytes_step j m k rest front back whole old new is next size first last pushed =
    let parts = front_of k rest size in
    is ∙ ap (λ (n : ℕ). old ++ null_bytes n rest) next
    ∙ ap (λ (l : List Value). old ++ (null_number l ∷ null_bytes m (drop 8 rest))) (sym (first ∙ parts.0))
    ∙ ap (λ (l : List Value). old ++ (null_number front ∷ null_bytes m l)) (sym (last ∙ parts.1))
    ∙ sym (append_assoc old (null_number front ∷ []) (null_bytes m back))
    ∙ ap (λ (l : List ℕ). l ++ null_bytes m back) (sym pushed)
