-- The serial order of committed transactions, and which of them are still to come.
use Rattle.std.proofs.Common.{inl, inr, ◌≡◌, ◌<◌, ◌≤◌, Bool, true, false, cond, List, [], ◌∷◌, refl, sym, subst, arith}
use Rattle.std.specs.Prelude.{◌⊎◌}
use Rattle.std.proofs.lemmas.Bool.Decides.{nat_tests}
use Rattle.dw_journal.specs.Transactions.{CommittedTransaction}
use Rattle.dw_journal.specs.Serial.{comes_first, put_in_order, in_order}

-- one of these
abbrev pub IsIn : CommittedTransaction → List CommittedTransaction → Type 0
IsIn x [] = ⊥
IsIn x (y ∷ rest) = (x ≡ y) ⊎ IsIn x rest

-- it comes before another one, and before each of these
abbrev pub Before : CommittedTransaction → CommittedTransaction → Type 0
Before a b = comes_first a b ≡ true

abbrev pub ComesBeforeAll : CommittedTransaction → List CommittedTransaction → Type 0
ComesBeforeAll x [] = Unit {0}
ComesBeforeAll x (y ∷ rest) = Before x y × ComesBeforeAll x rest

-- each comes before those after it
abbrev pub InOrder : List CommittedTransaction → Type 0
InOrder [] = Unit {0}
InOrder (x ∷ rest) = ComesBeforeAll x rest × InOrder rest

-- their stamps are below this one's, and each one's are above those of the older ones
abbrev pub Above : CommittedTransaction → List CommittedTransaction → Type 0
Above x [] = Unit {0}
Above x (y ∷ rest) = (y.stamp < x.stamp) × Above x rest

abbrev pub Descending : List CommittedTransaction → Type 0
Descending [] = Unit {0}
Descending (x ∷ rest) = Above x rest × Descending rest

-- what comes first has the lower low watermark, or the same one and the greater stamp
pub before-low : (a b : CommittedTransaction) → Before a b → a.low ≤ b.low
before-low a b h = grind (arith, nat_tests, h)

pub before-stamp : (a b : CommittedTransaction) → Before a b → a.low ≡ b.low → b.stamp < a.stamp
before-stamp a b h e = grind (arith, nat_tests, h, e)

pub before-trans : (a b c : CommittedTransaction) → Before a b → Before b c → Before a c
before-trans a b c h g = grind (arith, nat_tests, h, g)

pub before-not : (a b : CommittedTransaction) → Before a b → Before b a → ⊥
before-not a b h g = grind (arith, nat_tests, h, g)

pub before-turned : (a b : CommittedTransaction) → b.stamp < a.stamp → comes_first a b ≡ false → Before b a
before-turned a b lt h = grind (arith, nat_tests, lt, h)

-- a transaction at its place
before_all-put : (x a : CommittedTransaction) (rest : List CommittedTransaction) → Before x a → ComesBeforeAll x rest → ComesBeforeAll x (put_in_order a rest)
before_all-put x a [] first after = (first, tt)
before_all-put x a (b ∷ rest) first after =
    elim (comes_first a b) as (λ v. ComesBeforeAll x (cond v (a ∷ b ∷ rest) (b ∷ put_in_order a rest))) [
      | true ↦ (first, after)
      | false ↦ (after.0, before_all-put x a rest first after.1)
    ]

before_all-trans : (a b : CommittedTransaction) (rest : List CommittedTransaction) → Before a b → ComesBeforeAll b rest → ComesBeforeAll a rest
before_all-trans a b [] first after = tt
before_all-trans a b (c ∷ rest) first after = (before-trans a b c first after.0, before_all-trans a b rest first after.1)

above-put : (x a : CommittedTransaction) (rest : List CommittedTransaction) → a.stamp < x.stamp → Above x rest → Above x (put_in_order a rest)
above-put x a [] first above = (first, tt)
above-put x a (b ∷ rest) first above =
    elim (comes_first a b) as (λ v. Above x (cond v (a ∷ b ∷ rest) (b ∷ put_in_order a rest))) [
      | true ↦ (first, above)
      | false ↦ (above.0, above-put x a rest first above.1)
    ]

put-ordered_by : (a b : CommittedTransaction) (rest : List CommittedTransaction) (v : Bool) → comes_first a b ≡ v → b.stamp < a.stamp
    → ComesBeforeAll b rest → InOrder rest → InOrder (put_in_order a rest) → InOrder (cond v (a ∷ b ∷ rest) (b ∷ put_in_order a rest))
put-ordered_by a b rest true first above after ordered put = ((first, before_all-trans a b rest first after), (after, ordered))
put-ordered_by a b rest false first above after ordered put = (before_all-put b a rest (before-turned a b above first) after, put)

put-ordered : (a : CommittedTransaction) (rest : List CommittedTransaction) → Above a rest → InOrder rest → InOrder (put_in_order a rest)
put-ordered a [] above ordered = (tt, tt)
put-ordered a (b ∷ rest) above ordered =
    put-ordered_by a b rest (comes_first a b) refl above.0 ordered.0 ordered.1 (put-ordered a rest above.1 ordered.1)

above-in_order : (x : CommittedTransaction) (commits : List CommittedTransaction) → Above x commits → Above x (in_order commits)
above-in_order x [] above = tt
above-in_order x (a ∷ rest) above = above-put x a (in_order rest) above.0 (above-in_order x rest above.1)

-- the serial order is one
pub ordered : (commits : List CommittedTransaction) → Descending commits → InOrder (in_order commits)
ordered [] down = tt
ordered (a ∷ rest) down = put-ordered a (in_order rest) (above-in_order a rest down.0) (ordered rest down.1)

-- it has the same transactions
in-put : (a : CommittedTransaction) (rest : List CommittedTransaction) → IsIn a (put_in_order a rest)
in-put a [] = inl refl
in-put a (b ∷ rest) =
    elim (comes_first a b) as (λ v. IsIn a (cond v (a ∷ b ∷ rest) (b ∷ put_in_order a rest))) [
      | true ↦ inl refl
      | false ↦ inr (in-put a rest)
    ]

in-kept_by : (x a b : CommittedTransaction) (rest : List CommittedTransaction) (v : Bool) → (x ≡ b) ⊎ IsIn x rest → (IsIn x rest → IsIn x (put_in_order a rest))
    → IsIn x (cond v (a ∷ b ∷ rest) (b ∷ put_in_order a rest))
in-kept_by x a b rest true is further = inr is
in-kept_by x a b rest false (inl same) further = inl same
in-kept_by x a b rest false (inr there) further = inr (further there)

in-kept : (x a : CommittedTransaction) (rest : List CommittedTransaction) → IsIn x rest → IsIn x (put_in_order a rest)
in-kept x a [] is = absurd is
in-kept x a (b ∷ rest) is = in-kept_by x a b rest (comes_first a b) is (in-kept x a rest)

in-after : (x a b : CommittedTransaction) (rest : List CommittedTransaction) → (x ≡ a) ⊎ IsIn x rest → (x ≡ a) ⊎ ((x ≡ b) ⊎ IsIn x rest)
in-after x a b rest (inl same) = inl same
in-after x a b rest (inr there) = inr (inr there)

in-from_by : (x a b : CommittedTransaction) (rest : List CommittedTransaction) (v : Bool) → (IsIn x (put_in_order a rest) → (x ≡ a) ⊎ IsIn x rest)
    → IsIn x (cond v (a ∷ b ∷ rest) (b ∷ put_in_order a rest)) → (x ≡ a) ⊎ IsIn x (b ∷ rest)
in-from_by x a b rest true further (inl same) = inl same
in-from_by x a b rest true further (inr there) = inr there
in-from_by x a b rest false further (inl same) = inr (inl same)
in-from_by x a b rest false further (inr there) = in-after x a b rest (further there)

in-from : (x a : CommittedTransaction) (rest : List CommittedTransaction) → IsIn x (put_in_order a rest) → (x ≡ a) ⊎ IsIn x rest
in-from x a [] is = is
in-from x a (b ∷ rest) is = in-from_by x a b rest (comes_first a b) (in-from x a rest) is

in-ordered_by : (x a : CommittedTransaction) (rest : List CommittedTransaction) → (x ≡ a) ⊎ IsIn x rest → (IsIn x rest → IsIn x (in_order rest))
    → IsIn x (put_in_order a (in_order rest))
in-ordered_by x a rest (inl same) further = subst (λ (y : CommittedTransaction). IsIn y (put_in_order a (in_order rest))) (sym same) (in-put a (in_order rest))
in-ordered_by x a rest (inr there) further = in-kept x a (in_order rest) (further there)

pub in-ordered : (x : CommittedTransaction) (commits : List CommittedTransaction) → IsIn x commits → IsIn x (in_order commits)
in-ordered x [] is = is
in-ordered x (a ∷ rest) is = in-ordered_by x a rest is (in-ordered x rest)

from-ordered_by : (x a : CommittedTransaction) (rest : List CommittedTransaction) → (x ≡ a) ⊎ IsIn x (in_order rest) → (IsIn x (in_order rest) → IsIn x rest)
    → (x ≡ a) ⊎ IsIn x rest
from-ordered_by x a rest (inl same) further = inl same
from-ordered_by x a rest (inr there) further = inr (further there)

pub from-ordered : (x : CommittedTransaction) (commits : List CommittedTransaction) → IsIn x (in_order commits) → IsIn x commits
from-ordered x [] is = is
from-ordered x (a ∷ rest) is = from-ordered_by x a rest (in-from x a (in_order rest) is) (from-ordered x rest)

-- one of those that come after comes after
pub before-at : (x y : CommittedTransaction) (rest : List CommittedTransaction) → ComesBeforeAll x rest → IsIn y rest → Before x y
before-at x y [] after is = absurd is
before-at x y (z ∷ rest) after (inl same) = subst (Before x) (sym same) after.0
before-at x y (z ∷ rest) after (inr there) = before-at x y rest after.1 there
