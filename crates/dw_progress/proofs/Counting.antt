-- Different numbers below a bound are at most so many, and what stands in lists of numbers.
use Rattle.std.proofs.Common.{◌≡◌, ◌≢◌, ◌⊎◌, inl, inr, ℕ, zero, suc, ◌+◌, ◌<◌, ◌≤◌, Bool, true, false, not, ◌&&◌, ◌||◌, ◌==◌, List, [], ◌∷◌, length, ap, sym, refl, ◌∙◌, arith}
use Rattle.std.specs.Prelude.{if◌then◌else◌}
use Rattle.std.specs.List.{filter, list_any, range_with_len}
use Rattle.std.proofs.lemmas.Bool.{eqb-true, eqb-false, eq-eqb, cases_lt}
use Rattle.dw_journal.specs.Locks.{contains, all_differ}

pub and_left : (a b : Bool) → (a && b) ≡ true → a ≡ true
and_left true b is = refl
and_left false b is = cc

pub and_right : (a b : Bool) → (a && b) ≡ true → b ≡ true
and_right true b is = is
and_right false b is = cc

or_left : (a b : Bool) → a ≡ true → (a || b) ≡ true
or_left true b is = refl
or_left false b is = cc

or_right : (a b : Bool) → b ≡ true → (a || b) ≡ true
or_right true b is = refl
or_right false b is = is

or_rest : (a b : Bool) → a ≡ false → (a || b) ≡ true → b ≡ true
or_rest true b none is = cc
or_rest false b none is = is

pub not_both : (b : Bool) → b ≡ true → b ≡ false → ⊥
not_both b holds fails = cc

not_true : (b : Bool) → not b ≡ true → b ≡ false
not_true true is = cc
not_true false is = refl

-- numbers that differ
differ_by : (a b : ℕ) (told : Bool) → (a == b) ≡ told → a ≢ b → told ≡ false
differ_by a b true is differ = absurd (differ (eqb-true a b is))
differ_by a b false is differ = refl

pub differ : (a b : ℕ) → a ≢ b → (a == b) ≡ false
differ a b apart = differ_by a b (a == b) refl apart

pub turned : (a b : ℕ) → (a == b) ≡ false → (b == a) ≡ false
turned a b is = differ b a (λ (same : b ≡ a). eqb-false a b is (sym same))

-- ---- what stands in a list
pub front_there : (one : ℕ) (ones : List ℕ) → contains (one ∷ ones) one ≡ true
front_there one ones = or_left (one == one) (contains ones one) (eq-eqb one one refl)

pub any_of_by : (p : ℕ → Bool) (one other : ℕ) (ones : List ℕ) (b : Bool) → (other == one) ≡ b → contains (other ∷ ones) one ≡ true → p one ≡ true
    → (contains ones one ≡ true → list_any p ones ≡ true) → list_any p (other ∷ ones) ≡ true
any_of_by p one other ones true same among is later = or_left (p other) (list_any p ones) (ap p (eqb-true other one same) ∙ is)
any_of_by p one other ones false apart among is later =
    or_right (p other) (list_any p ones) (later (or_rest (other == one) (contains ones one) apart among))

pub any_of : (p : ℕ → Bool) (one : ℕ) (ones : List ℕ) → contains ones one ≡ true → p one ≡ true → list_any p ones ≡ true
any_of p one [] among is = absurd (cc)
any_of p one (other ∷ ones) among is =
    any_of_by p one other ones (other == one) refl among is (λ there. any_of p one ones there is)

any_there_by : (p : ℕ → Bool) (other : ℕ) (ones : List ℕ) (b : Bool) → p other ≡ b → list_any p (other ∷ ones) ≡ true
    → (list_any p ones ≡ true → (one : ℕ) × (contains ones one ≡ true) × (p one ≡ true))
    → (one : ℕ) × (contains (other ∷ ones) one ≡ true) × (p one ≡ true)
any_there_by p other ones true is any later = (other, front_there other ones, is)
any_there_by p other ones false is any later =
    let rest = later (or_rest (p other) (list_any p ones) is any) in
    (rest.0, or_right (other == rest.0) (contains ones rest.0) rest.1, rest.2)

pub any_there : (p : ℕ → Bool) (ones : List ℕ) → list_any p ones ≡ true → (one : ℕ) × (contains ones one ≡ true) × (p one ≡ true)
any_there p [] any = absurd (cc)
any_there p (other ∷ ones) any = any_there_by p other ones (p other) refl any (any_there p ones)

-- what is kept is there, and passes
kept_rest : (p : ℕ → Bool) (one other : ℕ) (ones : List ℕ) (b : Bool) → (other == one) ≡ b → p other ≡ true → contains (other ∷ filter p ones) one ≡ true
    → (contains (filter p ones) one ≡ true → (p one ≡ true) × (contains ones one ≡ true))
    → (p one ≡ true) × (contains (other ∷ ones) one ≡ true)
kept_rest p one other ones true same passes there later =
    (ap p (sym (eqb-true other one same)) ∙ passes, or_left (other == one) (contains ones one) same)
kept_rest p one other ones false apart passes there later =
    let rest = later (or_rest (other == one) (contains (filter p ones) one) apart there) in
    (rest.0, or_right (other == one) (contains ones one) rest.1)

kept_by : (p : ℕ → Bool) (one other : ℕ) (ones : List ℕ) (b : Bool) → p other ≡ b
    → contains (if b then other ∷ filter p ones else filter p ones) one ≡ true
    → (contains (filter p ones) one ≡ true → (p one ≡ true) × (contains ones one ≡ true))
    → (p one ≡ true) × (contains (other ∷ ones) one ≡ true)
kept_by p one other ones true passes there later = kept_rest p one other ones (other == one) refl passes there later
kept_by p one other ones false fails there later =
    let rest = later there in (rest.0, or_right (other == one) (contains ones one) rest.1)

pub kept : (p : ℕ → Bool) (one : ℕ) (ones : List ℕ) → contains (filter p ones) one ≡ true → (p one ≡ true) × (contains ones one ≡ true)
kept p one [] there = absurd (cc)
kept p one (other ∷ ones) there = kept_by p one other ones (p other) refl there (kept p one ones)

-- and the other way round
keeps_front : (p : ℕ → Bool) (one other : ℕ) (ones : List ℕ) (b c : Bool) → (other == one) ≡ b → p other ≡ c → p one ≡ true → contains (other ∷ ones) one ≡ true
    → (contains ones one ≡ true → contains (filter p ones) one ≡ true)
    → contains (if c then other ∷ filter p ones else filter p ones) one ≡ true
keeps_front p one other ones true true same is passes there later = or_left (other == one) (contains (filter p ones) one) same
keeps_front p one other ones true false same is passes there later =
    absurd (not_both (p one) passes (ap p (sym (eqb-true other one same)) ∙ is))
keeps_front p one other ones false true apart is passes there later =
    or_right (other == one) (contains (filter p ones) one) (later (or_rest (other == one) (contains ones one) apart there))
keeps_front p one other ones false false apart is passes there later =
    later (or_rest (other == one) (contains ones one) apart there)

pub keeps : (p : ℕ → Bool) (one : ℕ) (ones : List ℕ) → p one ≡ true → contains ones one ≡ true → contains (filter p ones) one ≡ true
keeps p one [] passes there = absurd (cc)
keeps p one (other ∷ ones) passes there =
    keeps_front p one other ones (other == one) (p other) refl refl passes there (keeps p one ones passes)

-- a number of a range is below its end
ranged_by : (one from count : ℕ) (b : Bool) → (from == one) ≡ b → contains (from ∷ range_with_len (from + 1) count) one ≡ true
    → (contains (range_with_len (from + 1) count) one ≡ true → one < from + 1 + count) → one < from + suc count
ranged_by one from count true same there later = omega (arith, eqb-true from one same)
ranged_by one from count false apart there later =
    omega (arith, later (or_rest (from == one) (contains (range_with_len (from + 1) count) one) apart there))

pub ranged : (one from count : ℕ) → contains (range_with_len from count) one ≡ true → one < from + count
ranged one from zero there = absurd (cc)
ranged one from (suc count) there = ranged_by one from count (from == one) refl there (ranged one (from + 1) count)

-- ---- how many numbers below a bound stand in a list
abbrev share : Bool → ℕ
share true = 1
share false = 0

share_most : (b : Bool) → share b ≤ 1
share_most true = omega arith
share_most false = omega arith

abbrev count_below : ℕ → List ℕ → ℕ
count_below zero ones = 0
count_below (suc n) ones = share (contains ones n) + count_below n ones

count_most : (n : ℕ) (ones : List ℕ) → count_below n ones ≤ n
count_most zero ones = omega arith
count_most (suc n) ones = omega (arith, share_most (contains ones n), count_most n ones)

or_same : (a b : Bool) → a ≡ false → (a || b) ≡ b
or_same true b is = cc
or_same false b is = refl

count_same : (n one : ℕ) (ones : List ℕ) → n ≤ one → count_below n (one ∷ ones) ≡ count_below n ones
count_same zero one ones above = refl
count_same (suc n) one ones above =
    let apart : one ≢ n = λ (same : one ≡ n). omega (arith, above, same) in
    let first : share (contains (one ∷ ones) n) ≡ share (contains ones n) =
    ap share (or_same (one == n) (contains ones n) (differ one n apart)) in
    let rest : count_below n (one ∷ ones) ≡ count_below n ones = count_same n one ones (omega (arith, above)) in
    omega (arith, first, rest)

count_more_by : (n one : ℕ) (ones : List ℕ) → (one < n) ⊎ (n ≤ one) → one < suc n → contains ones one ≡ false
    → (one < n → count_below n (one ∷ ones) ≡ suc (count_below n ones))
    → count_below (suc n) (one ∷ ones) ≡ suc (count_below (suc n) ones)
count_more_by n one ones (inl below) within new later =
    let apart : one ≢ n = λ (same : one ≡ n). omega (arith, below, same) in
    let first : share (contains (one ∷ ones) n) ≡ share (contains ones n) =
    ap share (or_same (one == n) (contains ones n) (differ one n apart)) in
    let rest : count_below n (one ∷ ones) ≡ suc (count_below n ones) = later below in
    omega (arith, first, rest)
count_more_by n one ones (inr above) within new later =
    let same : one ≡ n = omega (arith, above, within) in
    let first : share (contains (one ∷ ones) n) ≡ 1 = ap share (or_left (one == n) (contains ones n) (eq-eqb one n same)) in
    let none : share (contains ones n) ≡ 0 = ap share (ap (contains ones) (sym same) ∙ new) in
    let rest : count_below n (one ∷ ones) ≡ count_below n ones = count_same n one ones above in
    omega (arith, first, none, rest)

count_more : (n one : ℕ) (ones : List ℕ) → one < n → contains ones one ≡ false → count_below n (one ∷ ones) ≡ suc (count_below n ones)
count_more zero one ones within new = absurd (omega (arith, within))
count_more (suc n) one ones within new =
    count_more_by n one ones (cases_lt one n) within new (λ below. count_more n one ones below new)

abbrev pub AreBelow : ℕ → List ℕ → Type 0
AreBelow n [] = Unit {0}
AreBelow n (one ∷ ones) = (one < n) × AreBelow n ones

counted : (n : ℕ) (ones : List ℕ) → all_differ ones ≡ true → AreBelow n ones → length ones ≤ count_below n ones
counted n [] different below = omega arith
counted n (one ∷ ones) different below =
    let new = not_true (contains ones one) (and_left (not (contains ones one)) (all_differ ones) different) in
    let rest = counted n ones (and_right (not (contains ones one)) (all_differ ones) different) below.1 in
    let more = count_more n one ones below.0 new in
    omega (arith, rest, more)

-- different numbers below a bound are at most so many
pub at_most : (n : ℕ) (ones : List ℕ) → all_differ ones ≡ true → AreBelow n ones → length ones ≤ n
at_most n ones different below = omega (arith, counted n ones different below, count_most n ones)
