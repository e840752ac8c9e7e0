-- Natural numbers and their bytes.
use Rattle.std.proofs.Common.{◌≡◌, ℕ, zero, suc, ◌+◌, ◌-◌, ◌*◌, ◌/◌, ◌%◌, ◌^◌, ◌≤◌, ◌<◌, List, [], ◌∷◌, ◌++◌, length, take, get_or, refl, sym, ap, ◌∙◌, arith, length-append, subst}
use Rattle.std.specs.Prelude.{replicate}
use Rattle.std.specs.Int.{w128, to_le_bytes, from_le_bytes, bytes_low_first, byte_worth, sum_through}
use Rattle.std.proofs.Math.Nat.{pow-suc, mod-eq_of_lt}
use Rattle.std.proofs.lemmas.List.{take_all, take_more, length-take-le, length-replicate, take-replicate}
use Rattle.std.proofs.lemmas.Nat.{mod-pow-add, shr-shr, pow-add}
use Rattle.dw_codec_plain.specs.Numbers.{natural_of, low_bytes}

-- each element is a byte
abbrev pub AreBytes : List ℕ → Type 0
AreBytes bs = (i : ℕ) → get_or bs i 0 < 256

pub taken_are_bytes : (k : ℕ) (bs : List ℕ) → AreBytes bs → AreBytes (take k bs)
taken_are_bytes zero bs are i = omega arith
taken_are_bytes (suc k) [] are i = omega arith
taken_are_bytes (suc k) (b ∷ bs) are zero = are 0
taken_are_bytes (suc k) (b ∷ bs) are (suc i) = taken_are_bytes k bs (λ j. are (suc j)) i

pub length-low_bytes : (k n : ℕ) → length (low_bytes k n) ≡ k
length-low_bytes zero n = refl
length-low_bytes (suc k) n = ap suc (length-low_bytes k (n / 256))

pub take-low_bytes : (k w n : ℕ) → k ≤ w → take k (low_bytes w n) ≡ low_bytes k n
take-low_bytes zero w n le = refl
take-low_bytes (suc k) zero n le = absurd (omega arith)
take-low_bytes (suc k) (suc w) n le = ap (λ (t : List ℕ). n % 256 ∷ t) (take-low_bytes k w (n / 256) (omega arith))

pub low_bytes_are_bytes : (k n : ℕ) → AreBytes (low_bytes k n)
low_bytes_are_bytes zero n i = omega arith
low_bytes_are_bytes (suc k) n zero = omega arith
low_bytes_are_bytes (suc k) n (suc i) = low_bytes_are_bytes k (n / 256) i

eight_more : (k : ℕ) → 8 * suc k ≡ 8 * k + 8
eight_more k = omega arith

pub natural_of-low_bytes : (k n : ℕ) → natural_of (low_bytes k n) ≡ n % 2 ^ (8 * k)
natural_of-low_bytes zero n = omega arith
natural_of-low_bytes (suc k) n =
    let rest : natural_of (low_bytes k (n / 256)) ≡ n / 256 % 2 ^ (8 * k) = natural_of-low_bytes k (n / 256) in
    let split : n % 2 ^ (8 * k + 8) ≡ (n / 256 % 2 ^ (8 * k)) * 256 + n % 256 = mod-pow-add n (8 * k) 8 in
    rw (eight_more k) (omega arith)

pub low_bytes-natural_of : (bs : List ℕ) → AreBytes bs → low_bytes (length bs) (natural_of bs) ≡ bs
low_bytes-natural_of [] are = refl
low_bytes-natural_of (b ∷ bs) are =
    let small : b < 256 = are 0 in
    let head : (b + 256 * natural_of bs) % 256 ≡ b = omega arith in
    let tail : (b + 256 * natural_of bs) / 256 ≡ natural_of bs = omega arith in
    rw (head, tail) (ap (λ (t : List ℕ). b ∷ t) (low_bytes-natural_of bs (λ i. are (suc i))))

pub natural_of-lt : (bs : List ℕ) → AreBytes bs → natural_of bs < 2 ^ (8 * length bs)
natural_of-lt [] are = omega arith
natural_of-lt (b ∷ bs) are =
    let small : b < 256 = are 0 in
    let rest : natural_of bs < 2 ^ (8 * length bs) = natural_of-lt bs (λ i. are (suc i)) in
    let product : 2 ^ (8 * length bs + 8) ≡ 2 ^ (8 * length bs) * 256 = pow-add 2 (8 * length bs) 8 in
    rw (eight_more (length bs)) (omega arith)

-- the lowest bytes of numbers that differ by a multiple
pub low_bytes-mod : (k n m : ℕ) → n % 2 ^ (8 * k) ≡ m % 2 ^ (8 * k) → low_bytes k n ≡ low_bytes k m
low_bytes-mod k n m same =
    let own : (a : ℕ) → low_bytes k (a % 2 ^ (8 * k)) ≡ low_bytes k a =
    λ a.
    let bs : List ℕ = low_bytes k a in
    let again : low_bytes (length bs) (natural_of bs) ≡ bs = low_bytes-natural_of bs (low_bytes_are_bytes k a) in
    let long : length bs ≡ k = length-low_bytes k a in
    let worth : natural_of bs ≡ a % 2 ^ (8 * k) = natural_of-low_bytes k a in
    ap (λ (n : ℕ). low_bytes k n) (sym worth) ∙ (ap (λ (l : ℕ). low_bytes l (natural_of bs)) (sym long) ∙ again) in
    sym (own n) ∙ (ap (low_bytes k) same ∙ own m)

pub pow_bytes : (k : ℕ) → 2 ^ (8 * k) ≡ 256 ^ k
pow_bytes zero = refl
pow_bytes (suc k) =
    let before : 2 ^ (8 * k) ≡ 256 ^ k = pow_bytes k in
    let one : 2 ^ (8 * k + 8) ≡ 2 ^ (8 * k) * 256 = pow-add 2 (8 * k) 8 in
    let other : 256 ^ suc k ≡ 256 ^ k * 256 = pow-suc 256 k in
    rw (eight_more k) (omega arith)

pub natural_of-append : (bs cs : List ℕ) → natural_of (bs ++ cs) ≡ natural_of bs + 2 ^ (8 * length bs) * natural_of cs
natural_of-append [] cs = omega arith
natural_of-append (b ∷ bs) cs =
    let before : natural_of (bs ++ cs) ≡ natural_of bs + 2 ^ (8 * length bs) * natural_of cs = natural_of-append bs cs in
    let product : 2 ^ (8 * length bs + 8) ≡ 2 ^ (8 * length bs) * 256 = pow-add 2 (8 * length bs) 8 in
    rw (eight_more (length bs), product) (omega arith)

-- the sum that `from_le_bytes` is
sum_is : (bs : List ℕ) (k : ℕ) → k < length bs → sum_through (λ i. byte_worth i (get_or bs i 0)) k ≡ natural_of (take (suc k) bs)
sum_is [] zero lt = absurd (omega arith)
sum_is (b ∷ bs) zero lt = omega arith
sum_is bs (suc k) lt =
    let before : sum_through (λ i. byte_worth i (get_or bs i 0)) k ≡ natural_of (take (suc k) bs) = sum_is bs k (omega arith) in
    let more : take (suc k + 1) bs ≡ take (suc k) bs ++ get_or bs (suc k) 0 ∷ [] = take_more bs (suc k) 0 lt in
    let long : length (take (suc k) bs) ≡ suc k = length-take-le (suc k) bs (omega arith) in
    let joined : natural_of (take (suc k) bs ++ get_or bs (suc k) 0 ∷ []) ≡ natural_of (take (suc k) bs) + 2 ^ (8 * length (take (suc k) bs)) * natural_of (get_or bs (suc k) 0 ∷ []) =
    natural_of-append (take (suc k) bs) (get_or bs (suc k) 0 ∷ []) in
    let worth : 2 ^ (8 * suc k) ≡ 256 ^ suc k = pow_bytes (suc k) in
    let e : suc k + 1 ≡ suc (suc k) = omega arith in
    rw (← e) (rw (more, joined, long, worth, before) (omega arith))

pub from_le_bytes_is : (bs : List ℕ) → length bs ≡ 16 → from_le_bytes w128 bs ≡ natural_of bs
from_le_bytes_is bs long = sum_is bs 15 (omega arith) ∙ ap natural_of (take_all 16 bs (omega arith))

byte_further : (i n : ℕ) → n / 256 ^ i / 256 ≡ n / 256 ^ suc i
byte_further i n =
    let both : n / 2 ^ (8 * i) / 2 ^ 8 ≡ n / 2 ^ (8 * i + 8) = shr-shr n (8 * i) 8 in
    rw (← pow_bytes i, ← pow_bytes (suc i), eight_more i) both

bytes_low_first_is : (i k n : ℕ) → bytes_low_first i k n ≡ low_bytes k (n / 256 ^ i)
bytes_low_first_is i zero n = refl
bytes_low_first_is zero (suc k) n =
    let whole : n / 1 ≡ n = omega arith in
    rw whole (ap (λ (t : List ℕ). n % 256 ∷ t) (bytes_low_first_is 1 k n))
bytes_low_first_is (suc i) (suc k) n =
    ap (λ (t : List ℕ). n / 256 ^ suc i % 256 ∷ t) (bytes_low_first_is (suc (suc i)) k n ∙ ap (low_bytes k) (sym (byte_further (suc i) n)))

pub to_le_bytes_is : (n : ℕ) → to_le_bytes w128 n ≡ low_bytes 16 n
to_le_bytes_is n =
    let whole : n / 1 ≡ n = omega arith in
    bytes_low_first_is 0 16 n ∙ ap (low_bytes 16) whole

pub zeros : (k : ℕ) → natural_of (replicate k 0) ≡ 0
zeros zero = refl
zeros (suc k) = let rest : natural_of (replicate k 0) ≡ 0 = zeros k in omega arith

pub padded_is : (bs : List ℕ) → length bs ≤ 16 → from_le_bytes w128 (bs ++ replicate (16 - length bs) 0) ≡ natural_of bs
padded_is bs le =
    let tail : List ℕ = replicate (16 - length bs) 0 in
    let none : natural_of tail ≡ 0 = zeros (16 - length bs) in
    let long : length (bs ++ tail) ≡ 16 = omega (arith, length-append bs tail, length-replicate {A = ℕ} (16 - length bs) 0) in
    from_le_bytes_is (bs ++ tail) long ∙ (natural_of-append bs tail ∙ rw none (omega arith))

pub written_is : (value width : ℕ) (bytes : List ℕ) → width ≤ 16 → bytes ≡ to_le_bytes w128 value → take width bytes ≡ low_bytes width value
written_is value width bytes le is = ap (take width) (is ∙ to_le_bytes_is value) ∙ take-low_bytes width 16 value le

pub low_bytes_from : (k : ℕ) (bs : List ℕ) (n : ℕ) → AreBytes bs → length bs ≡ k → n % 2 ^ (8 * k) ≡ natural_of bs → low_bytes k n ≡ bs
low_bytes_from k bs n are long worth =
    let below : natural_of bs < 2 ^ (8 * k) = subst (λ l. natural_of bs < 2 ^ (8 * l)) long (natural_of-lt bs are) in
    let own : natural_of bs % 2 ^ (8 * k) ≡ natural_of bs = mod-eq_of_lt below in
    low_bytes-mod k n (natural_of bs) (worth ∙ sym own) ∙ (ap (λ (l : ℕ). low_bytes l (natural_of bs)) (sym long) ∙ low_bytes-natural_of bs are)

greatest_bytes : (k : ℕ) → natural_of (replicate k 255) + 1 ≡ 2 ^ (8 * k)
greatest_bytes zero = refl
greatest_bytes (suc k) =
    let rest : natural_of (replicate k 255) + 1 ≡ 2 ^ (8 * k) = greatest_bytes k in
    let one : 2 ^ (8 * k + 8) ≡ 2 ^ (8 * k) * 256 = pow-add 2 (8 * k) 8 in
    rw (eight_more k) (omega arith)

pub greatest_is : (k n : ℕ) (bs : List ℕ) → k ≤ 16 → bs ≡ replicate 16 255 → n ≡ natural_of (take k bs) → n + 1 ≡ 2 ^ (8 * k)
greatest_is k n bs le is e =
    let cut : take k bs ≡ replicate k 255 = ap (take k) is ∙ take-replicate k 16 255 le in
    rw (e, cut) (greatest_bytes k)

-- eight bytes, each by its place
pub eight_bytes : (bs : List ℕ) → 8 ≤ length bs → length bs < 9
    → get_or bs 0 0 ∷ get_or bs 1 0 ∷ get_or bs 2 0 ∷ get_or bs 3 0 ∷ get_or bs 4 0 ∷ get_or bs 5 0 ∷ get_or bs 6 0 ∷ get_or bs 7 0 ∷ [] ≡ bs
eight_bytes [] least most = absurd (omega arith)
eight_bytes (a ∷ []) least most = absurd (omega arith)
eight_bytes (a ∷ b ∷ []) least most = absurd (omega arith)
eight_bytes (a ∷ b ∷ c ∷ []) least most = absurd (omega arith)
eight_bytes (a ∷ b ∷ c ∷ d ∷ []) least most = absurd (omega arith)
eight_bytes (a ∷ b ∷ c ∷ d ∷ e ∷ []) least most = absurd (omega arith)
eight_bytes (a ∷ b ∷ c ∷ d ∷ e ∷ f ∷ []) least most = absurd (omega arith)
eight_bytes (a ∷ b ∷ c ∷ d ∷ e ∷ f ∷ g ∷ []) least most = absurd (omega arith)
eight_bytes (a ∷ b ∷ c ∷ d ∷ e ∷ f ∷ g ∷ h ∷ []) least most = refl
eight_bytes (a ∷ b ∷ c ∷ d ∷ e ∷ f ∷ g ∷ h ∷ more ∷ bytes) least most = absurd (omega arith)
