-- Numbers that digits write: more digits, a bound on them, and the first one that is dropped.
use Rattle.std.specs.Prelude.{nat_le, ◌==◌, not, min}
use Rattle.std.proofs.Common.{◌≡◌, ℕ, zero, suc, ◌+◌, ◌-◌, ◌*◌, ◌/◌, ◌%◌, ◌^◌, ◌<◌, ◌≤◌, Bool, true, false, ◌&&◌, List, [], ◌∷◌, ◌++◌, length, get_or, take, drop, pos, neg_ℤ, unsigned_abs, FitsSigned, Some, Ok, Err, length-drop, append_assoc, refl, sym, ap, ◌∙◌, arith, mul_assoc, true≢false, if◌then◌else◌}
use Rattle.std.specs.List.{fold, list_all}
use Rattle.std.specs.Int.{w128}
use Rattle.std.proofs.Math.Nat.{pow-suc, mul-le-mul_right, add-mul, mul-add-div_right, div-eq_of_lt, le-mul_of_pos_right}
use Rattle.std.proofs.Math.IntN.{pos-*ℤ-pos}
use Rattle.std.proofs.lemmas.Int.{ints}
use Rattle.std.proofs.lemmas.Nat.{div-add-mod'}
use Rattle.std.proofs.Math.Seq.{drop-cons}
use Rattle.std.proofs.lemmas.List.{take-append-drop}
use Rattle.std.proofs.lemmas.List.Folds.{list_all-append}
use Rattle.std.proofs.lemmas.List.Sums.{fold-append}
use Rattle.std.proofs.lemmas.Bool.{leb-true, leb-false, le-leb, lt-leb}
use Rattle.dw_value.specs.declared.kinds.Kind.{Kind}
use Rattle.dw_value.specs.declared.kinds.Misread.TheVariants.{Form, Range}
use Rattle.dw_value.specs.Texts.{with_digit, number_of}
use Rattle.dw_value.specs.Values.{holds_number}
use Rattle.dw_value.specs.Kinds.{scale_of, is_whole}
use Rattle.dw_value.specs.Arithmetic.{nearest, rounded, raised, rescaled}
use Rattle.dw_value.specs.Written.{is_digit, with_sign, written, number_within, written_in, size_rescaled}
use Rattle.dw_value.proofs.Powers.{ten_pos}
use Rattle.dw_value.proofs.Scales.{minus_times}
use Rattle.dw_value.proofs.Rescaling.{nearest_nothing, held_small}

and_left : (a b : Bool) → (a && b) ≡ true → a ≡ true
and_left true b e = refl
and_left false b e = absurd (true≢false (sym e))

and_right : (a b : Bool) → (a && b) ≡ true → b ≡ true
and_right true b e = e
and_right false b e = absurd (true≢false (sym e))

shifted : (a x power : ℕ) → (10 * a + x) * power ≡ 10 * (a * power) + x * power
shifted a x power = add-mul (10 * a) x power ∙ ap (λ (k : ℕ). k + x * power) (mul_assoc 10 a power)

-- digits after a number: it counts for as many tens
pub number_after : (a : ℕ) (ds : List ℕ) → fold with_digit a ds ≡ a * 10 ^ length ds + number_of ds
number_after a [] = omega arith
number_after a (d ∷ ds) =
    let power : 10 ^ suc (length ds) ≡ 10 ^ length ds * 10 = pow-suc 10 (length ds) in
    let tens : a * 10 ^ suc (length ds) ≡ 10 * (a * 10 ^ length ds) =
    ap (λ (k : ℕ). a * k) power ∙ sym (mul_assoc a (10 ^ length ds) 10) ∙ omega arith in
    omega (
      arith,
      number_after (10 * a + (d - 48)) ds,
      number_after (10 * 0 + (d - 48)) ds,
      shifted a (d - 48) (10 ^ length ds),
      shifted 0 (d - 48) (10 ^ length ds),
      tens,
    )

digit_most : (d : ℕ) → is_digit d ≡ true → d - 48 ≤ 9
digit_most d e = omega (arith, leb-true d 57 (and_right (nat_le 48 d) (nat_le d 57) e))

-- the number of some digits: the first one counts for as many tens as there are others
first_digit : (d : ℕ) (ds : List ℕ) → number_of (d ∷ ds) ≡ (d - 48) * 10 ^ length ds + number_of ds
first_digit d ds =
    let none : 10 * 0 + (d - 48) ≡ d - 48 = omega arith in
    number_after (10 * 0 + (d - 48)) ds ∙ ap (λ (k : ℕ). k * 10 ^ length ds + number_of ds) none

pub number_below : (ds : List ℕ) → list_all is_digit ds ≡ true → number_of ds < 10 ^ length ds
number_below [] e = omega arith
number_below (d ∷ ds) e =
    let most : (d - 48) * 10 ^ length ds ≤ 9 * 10 ^ length ds =
    mul-le-mul_right (10 ^ length ds) (digit_most d (and_left (is_digit d) (list_all is_digit ds) e)) in
    let rest : number_of ds < 10 ^ length ds = number_below ds (and_right (is_digit d) (list_all is_digit ds) e) in
    let power : 10 ^ suc (length ds) ≡ 10 ^ length ds * 10 = pow-suc 10 (length ds) in
    omega (arith, first_digit d ds, most, rest, power)

nearest_of : (n unit q m : ℕ) → n / unit ≡ q → n % unit ≡ m → nearest n unit ≡ (if nat_le unit (2 * m) then q + 1 else q)
nearest_of n unit q m is_q is_m = λ i. if nat_le unit (2 * is_m i) then is_q i + 1 else is_q i

agree : (unit twice d : ℕ) (t : Bool) → nat_le 53 d ≡ t → (53 ≤ d → unit ≤ twice) → (d < 53 → twice < unit) → nat_le unit twice ≡ t
agree unit twice d true e up down = le-leb unit twice (up (leb-true 53 d e))
agree unit twice d false e up down = lt-leb unit twice (down (omega (arith, leb-false 53 d e)))

-- Of digits that are dropped the first one decides.
pub dropped : (front d : ℕ) (ds : List ℕ) → list_all is_digit (d ∷ ds) ≡ true
    → nearest (fold with_digit front (d ∷ ds)) (10 ^ suc (length ds)) ≡ (if nat_le 53 d then front + 1 else front)
dropped front d ds e =
    let n : ℕ = fold with_digit front (d ∷ ds) in
    let unit : ℕ = 10 ^ suc (length ds) in
    let rest : ℕ = number_of (d ∷ ds) in
    let some : 0 < 10 ^ suc (length ds) = ten_pos (suc (length ds)) in
    let is : fold with_digit front (d ∷ ds) ≡ front * 10 ^ suc (length ds) + number_of (d ∷ ds) = number_after front (d ∷ ds) in
    let below : number_of (d ∷ ds) < 10 ^ suc (length ds) = number_below (d ∷ ds) e in
    let none : number_of (d ∷ ds) / 10 ^ suc (length ds) ≡ 0 = div-eq_of_lt below in
    let q : fold with_digit front (d ∷ ds) / 10 ^ suc (length ds) ≡ front =
    ap (λ (k : ℕ). k / 10 ^ suc (length ds)) is ∙ mul-add-div_right some front (number_of (d ∷ ds)) ∙ omega (arith, none) in
    let back : fold with_digit front (d ∷ ds) / 10 ^ suc (length ds) * 10 ^ suc (length ds) ≡ front * 10 ^ suc (length ds) =
    ap (λ (k : ℕ). k * 10 ^ suc (length ds)) q in
    let m : fold with_digit front (d ∷ ds) % 10 ^ suc (length ds) ≡ number_of (d ∷ ds) =
    omega (arith, div-add-mod' (fold with_digit front (d ∷ ds)) (10 ^ suc (length ds)), is, back) in
    let power : 10 ^ suc (length ds) ≡ 10 ^ length ds * 10 = pow-suc 10 (length ds) in
    let others : number_of ds < 10 ^ length ds = number_below ds (and_right (is_digit d) (list_all is_digit ds) e) in
    let first = first_digit d ds in
    let up : 53 ≤ d → 10 ^ suc (length ds) ≤ 2 * number_of (d ∷ ds) = λ h.
    let five : 5 * 10 ^ length ds ≤ (d - 48) * 10 ^ length ds = mul-le-mul_right (10 ^ length ds) (omega arith) in
    omega (arith, five, first, power) in
    let down : d < 53 → 2 * number_of (d ∷ ds) < 10 ^ suc (length ds) = λ h.
    let four : (d - 48) * 10 ^ length ds ≤ 4 * 10 ^ length ds = mul-le-mul_right (10 ^ length ds) (omega arith) in
    omega (arith, four, first, power, others) in
    nearest_of (fold with_digit front (d ∷ ds)) (10 ^ suc (length ds)) front (number_of (d ∷ ds)) q m
    ∙ ap (λ (t : Bool). if t then front + 1 else front) (agree (10 ^ suc (length ds)) (2 * number_of (d ∷ ds)) d (nat_le 53 d) refl up down)

-- more digits make a number no less
grows : (s : ℕ) (ds : List ℕ) → s ≤ fold with_digit s ds
grows s [] = omega arith
grows s (d ∷ ds) = omega (arith, grows (10 * s + (d - 48)) ds)

capped_by : (most s : ℕ) (ds : List ℕ) (t : Bool) → nat_le s most ≡ t → min (fold with_digit (min s most) ds) most ≡ min (fold with_digit s ds) most
capped_by most s ds true e =
    let same : min s most ≡ s = omega (arith, leb-true s most e) in
    ap (λ (k : ℕ). min (fold with_digit k ds) most) same
capped_by most s ds false e =
    omega (arith, leb-false s most e, grows (min s most) ds, grows s ds)

-- a number that is as great as it may be stays so
pub capped : (most s : ℕ) (ds : List ℕ) → min (fold with_digit (min s most) ds) most ≡ min (fold with_digit s ds) most
capped most s ds = capped_by most s ds (nat_le s most) refl

pub capped_step : (most n d : ℕ) → min (min (min n most * 10) most + d) most ≡ min (10 * n + d) most
capped_step most n d = omega arith

signed_raised : (below : Bool) (places n : ℕ) → raised places (with_sign below n) ≡ with_sign below (n * 10 ^ places)
signed_raised false places n = pos-*ℤ-pos n (10 ^ places)
signed_raised true places n = minus_times n (10 ^ places)

signed_rounded : (below : Bool) (unit n : ℕ) → 0 < unit → rounded unit (with_sign below n) ≡ with_sign below (nearest n unit)
signed_rounded false unit n some = refl
signed_rounded true unit zero some =
    let none : nearest 0 unit ≡ 0 = nearest_nothing 0 unit (omega arith) in
    ap pos none ∙ ap (λ (k : ℕ). neg_ℤ (pos k)) (sym none)
signed_rounded true unit (suc n) some = refl

rescaled_by : (below : Bool) (from to n : ℕ) (t : Bool)
    → (if t then raised (to - from) (with_sign below n) else rounded (10 ^ (from - to)) (with_sign below n))
    ≡ with_sign below (if t then n * 10 ^ (to - from) else nearest n (10 ^ (from - to)))
rescaled_by below from to n true = signed_raised below (to - from) n
rescaled_by below from to n false = signed_rounded below (10 ^ (from - to)) n (ten_pos (from - to))

-- a number at another scale has its sign, and its size at that scale
pub rescaled_size : (below : Bool) (from to n : ℕ) → rescaled from to (with_sign below n) ≡ with_sign below (size_rescaled from to n)
rescaled_size below from to n = rescaled_by below from to n (nat_le from to)

size_of_signed : (below : Bool) (n : ℕ) → unsigned_abs (with_sign below n) ≡ n
size_of_signed false n = refl
size_of_signed true n = omega (arith, ints)

not_held_by : (kind : Kind) (below : Bool) (n : ℕ) (t : Bool) → holds_number kind (with_sign below n) ≡ t → (FitsSigned w128 (pos n) → ⊥) → t ≡ false
not_held_by kind below n true e past =
    let small : n < 170141183460469231731687303715884105728 = omega (arith, held_small kind (with_sign below n) e, size_of_signed below n) in
    absurd (past (omega (arith, ints)))
not_held_by kind below n false e past = refl

-- no kind holds a number whose size passes 128 bits with a sign
pub out_of_range : (kind : Kind) (below : Bool) (n : ℕ) → (FitsSigned w128 (pos n) → ⊥) → Err Range ≡ number_within kind (with_sign below n)
out_of_range kind below n past =
    ap (λ (t : Bool). if t then Ok (with_sign below n) else Err Range)
    (sym (not_held_by kind below n (holds_number kind (with_sign below n)) refl past))

-- where a point may stand, a number is read at the scale of its kind
pub parts_read : (kind : Kind) (below : Bool) (whole fraction : List ℕ) → (is_whole kind && not (length fraction == 0)) ≡ false
    → number_within kind (with_sign below (size_rescaled (length fraction) (scale_of kind) (number_of (whole ++ fraction))))
    ≡ written_in kind (Some (written below whole fraction))
parts_read kind below whole fraction right =
    sym (ap (λ (t : Bool). if t then Err Form else number_within kind (rescaled (length fraction) (scale_of kind) (with_sign below (number_of (whole ++ fraction))))) right
    ∙ ap (number_within kind) (rescaled_size below (length fraction) (scale_of kind) (number_of (whole ++ fraction))))

grown_by : (from to n : ℕ) (t : Bool) → nat_le from to ≡ t → from ≤ to → n ≤ (if t then n * 10 ^ (to - from) else nearest n (10 ^ (from - to)))
grown_by from to n true e le = le-mul_of_pos_right n (ten_pos (to - from))
grown_by from to n false e le = absurd (true≢false (sym (le-leb from to le) ∙ e))

-- with more digits a size is no less
pub grown : (from to n : ℕ) → from ≤ to → n ≤ size_rescaled from to n
grown from to n le = grown_by from to n (nat_le from to) refl le

-- the digits of two parts are those of one text, up to the greatest number of 128 bits
pub both_parts : (most : ℕ) (whole fraction : List ℕ) (first both : ℕ) → first ≡ min (number_of whole) most → both ≡ min (fold with_digit first fraction) most
    → both ≡ min (number_of (whole ++ fraction)) most
both_parts most whole fraction first both is_first is_both =
    is_both ∙ ap (λ (k : ℕ). min (fold with_digit k fraction) most) is_first ∙ capped most (number_of whole) fraction
    ∙ ap (λ (k : ℕ). min k most) (sym (fold-append with_digit 0 whole fraction))

-- Of digits after the first ones the next one decides.
pub rounded_parts : (whole fraction : List ℕ) (kept : ℕ) → list_all is_digit fraction ≡ true → kept < length fraction
    → nearest (number_of (whole ++ fraction)) (10 ^ (length fraction - kept))
    ≡ (if nat_le 53 (get_or fraction kept 0) then number_of (whole ++ take kept fraction) + 1 else number_of (whole ++ take kept fraction))
rounded_parts whole fraction kept digits less =
    let d : ℕ = get_or fraction kept 0 in
    let parts : take kept fraction ++ (get_or fraction kept 0 ∷ drop (suc kept) fraction) ≡ fraction =
    ap (λ (rest : List ℕ). take kept fraction ++ rest) (sym (drop-cons fraction kept 0 less)) ∙ take-append-drop kept fraction in
    let number : number_of (whole ++ fraction) ≡ fold with_digit (number_of (whole ++ take kept fraction)) (get_or fraction kept 0 ∷ drop (suc kept) fraction) =
    ap (λ (rest : List ℕ). number_of (whole ++ rest)) (sym parts)
    ∙ ap number_of (sym (append_assoc whole (take kept fraction) (get_or fraction kept 0 ∷ drop (suc kept) fraction)))
    ∙ fold-append with_digit 0 (whole ++ take kept fraction) (get_or fraction kept 0 ∷ drop (suc kept) fraction) in
    let left : length fraction - kept ≡ suc (length (drop (suc kept) fraction)) = omega (arith, length-drop (suc kept) fraction) in
    let all : list_all is_digit (get_or fraction kept 0 ∷ drop (suc kept) fraction) ≡ true =
    and_right (list_all is_digit (take kept fraction)) (list_all is_digit (get_or fraction kept 0 ∷ drop (suc kept) fraction))
    (sym (list_all-append is_digit (take kept fraction) (get_or fraction kept 0 ∷ drop (suc kept) fraction)) ∙ ap (list_all is_digit) parts ∙ digits) in
    (λ i. nearest (number i) (10 ^ left i)) ∙ dropped (number_of (whole ++ take kept fraction)) (get_or fraction kept 0) (drop (suc kept) fraction) all

pub rounded_down : (whole fraction : List ℕ) (kept : ℕ) → list_all is_digit fraction ≡ true → kept < length fraction → get_or fraction kept 0 < 53
    → nearest (number_of (whole ++ fraction)) (10 ^ (length fraction - kept)) ≡ number_of (whole ++ take kept fraction)
rounded_down whole fraction kept digits less low =
    rounded_parts whole fraction kept digits less
    ∙ ap (λ (t : Bool). if t then number_of (whole ++ take kept fraction) + 1 else number_of (whole ++ take kept fraction)) (lt-leb 53 (get_or fraction kept 0) low)

pub rounded_up : (whole fraction : List ℕ) (kept : ℕ) → list_all is_digit fraction ≡ true → kept < length fraction → 53 ≤ get_or fraction kept 0
    → nearest (number_of (whole ++ fraction)) (10 ^ (length fraction - kept)) ≡ number_of (whole ++ take kept fraction) + 1
rounded_up whole fraction kept digits less high =
    rounded_parts whole fraction kept digits less
    ∙ ap (λ (t : Bool). if t then number_of (whole ++ take kept fraction) + 1 else number_of (whole ++ take kept fraction)) (le-leb 53 (get_or fraction kept 0) high)
