-- No value of a list is before its first one, and so a zone misses no match.
use Rattle.std.proofs.Common.{◌≡◌, ◌⊎◌, inl, inr, ℕ, ◌+◌, ◌^◌, ◌<◌, ◌≤◌, Bool, true, false, not, ◌&&◌, ◌||◌, Option, None, Some, List, [], ◌∷◌, if◌then◌else◌, refl, sym, ap, subst, ◌∙◌, true≢false, arith}
use Rattle.std.specs.List.{fold, count_by, list_any}
use Rattle.std.specs.Option.{is_some}
use Rattle.std.specs.declared.cmp.Ordering.{Ordering}
use Rattle.std.specs.declared.cmp.Ordering.TheVariants.{Less, Equal, Greater}
use Rattle.std.specs.Ordering.{is_gt, is_lt}
use Rattle.std.specs.Cmp.{IsTotalOrder, upto, tied_itself, back_total}
use Rattle.dw_value.specs.declared.kinds.Comparison.{Comparison}
use Rattle.dw_value.specs.declared.values.Value.{Value}
use Rattle.dw_value.specs.Values.{scaled_cmp, times, is_null, passes}
use Rattle.dw_value.specs.ValueOrder.{value_cmp_total}
use Rattle.dw_value.proofs.SortedLaws.{turned}
use Rattle.dw_value.proofs.Scales.{times-value_cmp}
use Rattle.dw_block.specs.declared.zone.Test.{Test}
use Rattle.dw_block.specs.declared.zone.Test.TheVariants.{Compare, IsNull, NotNull}
use Rattle.dw_block.specs.Zones.{earlier, earlier_of, least_of, greatest_of, zone_of, bounds_may_hold, may_match, passes_test}
use Rattle.dw_block.proofs.Standing.{between, and_both}
use Rattle.dw_value.proofs.Powers.{ten_pos}
use Rattle.std.proofs.lemmas.Bool.{lt-ltb}

-- the value is one of the list's
abbrev pub Among : Value → List Value → Type 0
Among v [] = ⊥
Among v (x ∷ xs) = (x ≡ v) ⊎ Among v xs

lt_not_gt : (r : Ordering) → is_lt r ≡ true → is_gt r ≡ false
lt_not_gt Less e = refl
lt_not_gt Equal e = refl
lt_not_gt Greater e = absurd (true≢false (sym e))

module _ {R : Value → Value → Ordering} (total : IsTotalOrder R) where
  -- there is a first value, and it isn't after v
  abbrev pub Bounds : Option Value → Value → Type 0
  Bounds None v = ⊥
  Bounds (Some first) v = is_gt (R first v) ≡ false

  stays_by : (first w v : Value) (t : Bool) → is_lt (R w first) ≡ t → Bounds (Some first) v → Bounds (if t then Some w else Some first) v
  stays_by first w v true e h = upto total w first v (lt_not_gt (R w first) e) h
  stays_by first w v false e h = h

  stays_of : (first : Option Value) (w v : Value) → Bounds first v → Bounds (earlier_of R first w) v
  stays_of None w v h = absurd h
  stays_of (Some first) w v h = stays_by first w v (is_lt (R w first)) refl h

  stays_null : (first : Option Value) (w v : Value) (t : Bool) → Bounds first v → Bounds (if t then first else earlier_of R first w) v
  stays_null first w v true h = h
  stays_null first w v false h = stays_of first w v h

  stays : (first : Option Value) (w v : Value) → Bounds first v → Bounds (earlier R first w) v
  stays first w v h = stays_null first w v (is_null w) h

  along : (xs : List Value) (first : Option Value) (v : Value) → Bounds first v → Bounds (fold (earlier R) first xs) v
  along [] first v h = h
  along (x ∷ xs) first v h = along xs (earlier R first x) v (stays first x v h)

  comes_by : (first v : Value) (t : Bool) → is_lt (R v first) ≡ t → Bounds (if t then Some v else Some first) v
  comes_by first v true e = ap is_gt (tied_itself total v)
  comes_by first v false e = sym (turned total v first) ∙ e

  comes_of : (first : Option Value) (v : Value) → Bounds (earlier_of R first v) v
  comes_of None v = ap is_gt (tied_itself total v)
  comes_of (Some first) v = comes_by first v (is_lt (R v first)) refl

  comes : (first : Option Value) (v : Value) → is_null v ≡ false → Bounds (earlier R first v) v
  comes first v e = subst (λ t. Bounds (if t then first else earlier_of R first v) v) (sym e) (comes_of first v)

  pub bounds : (xs : List Value) (first : Option Value) (v : Value) → is_null v ≡ false → Among v xs → Bounds (fold (earlier R) first xs) v
  bounds [] first v e h = absurd h
  bounds (x ∷ xs) first v e (inl is) = along xs (earlier R first x) v (subst (λ w. Bounds (earlier R first w) v) (sym is) (comes first v e))
  bounds (x ∷ xs) first v e (inr h) = bounds xs (earlier R first x) v e h

-- a list of which some value passes has such a value
found_by : (p : Value → Bool) (x : Value) (xs : List Value) (t : Bool) → p x ≡ t → (t || list_any p xs) ≡ true → ((list_any p xs ≡ true) → (v : Value) × Among v xs × (p v ≡ true)) → (v : Value) × Among v (x ∷ xs) × (p v ≡ true)
found_by p x xs true e any rest = (x, inl refl, e)
found_by p x xs false e any rest = let r = rest any in (r.0, inr r.1, r.2)

found : (p : Value → Bool) (xs : List Value) → list_any p xs ≡ true → (v : Value) × Among v xs × (p v ≡ true)
found p [] any = absurd (true≢false (sym any))
found p (x ∷ xs) any = found_by p x xs (p x) refl any (found p xs)

not_true : (b : Bool) → not b ≡ true → b ≡ false
not_true true e = absurd (true≢false (sym e))
not_true false e = refl

abbrev one_more : ℕ → Value → ℕ
one_more n v = n + (if is_null v then 1 else 0)

not_fewer : (xs : List Value) (n : ℕ) → n ≤ fold one_more n xs
not_fewer [] n = omega arith
not_fewer (x ∷ xs) n = omega (arith, not_fewer xs (one_more n x))

some_more : (xs : List Value) (n : ℕ) (v : Value) → Among v xs → is_null v ≡ true → n < fold one_more n xs
some_more [] n v h e = absurd h
some_more (x ∷ xs) n v (inl is) e =
    let one : one_more n x ≡ n + 1 = ap (λ (t : Bool). n + (if t then 1 else 0)) (ap is_null is ∙ e) in
    omega (arith, one, not_fewer xs (one_more n x))
some_more (x ∷ xs) n v (inr h) e = omega (arith, some_more xs (one_more n x) v h e)

and_left : (a b : Bool) → (a && b) ≡ true → a ≡ true
and_left true b e = refl
and_left false b e = absurd (true≢false (sym e))

and_right : (a b : Bool) → (a && b) ≡ true → b ≡ true
and_right true b e = e
and_right false b e = absurd (true≢false (sym e))

by_bounds : (c : Comparison) (least greatest : Option Value) (s : ℕ) (v w : Value) (t : ℕ)
    → Bounds value_cmp_total least v → Bounds (back_total value_cmp_total) greatest v → passes c (scaled_cmp v s w t) ≡ true → bounds_may_hold c least greatest s w t ≡ true
by_bounds c None greatest s v w t low high is = absurd low
by_bounds c (Some least) None s v w t low high is = absurd high
by_bounds c (Some least) (Some greatest) s v w t low high is =
    between value_cmp_total c (times (10 ^ t) least) (times (10 ^ t) v) (times (10 ^ t) greatest) (times (10 ^ s) w)
    (ap is_gt (times-value_cmp (10 ^ t) least v (ten_pos t)) ∙ low)
    (ap is_gt (times-value_cmp (10 ^ t) v greatest (ten_pos t)) ∙ high) is

has_least : (least : Option Value) (v : Value) → Bounds value_cmp_total least v → is_some least ≡ true
has_least None v h = absurd h
has_least (Some least) v h = refl

by_value : (xs : List Value) (scale : ℕ) (test : Test) (v : Value) → Among v xs → passes_test scale test v ≡ true → may_match (zone_of xs) scale test ≡ true
by_value xs scale (Compare c w t) v h e =
    let here : (not (is_null v) && not (is_null w)) ≡ true = and_left (not (is_null v) && not (is_null w)) (passes c (scaled_cmp v scale w t)) e in
    let is : passes c (scaled_cmp v scale w t) ≡ true = and_right (not (is_null v) && not (is_null w)) (passes c (scaled_cmp v scale w t)) e in
    let some : is_null v ≡ false = not_true (is_null v) (and_left (not (is_null v)) (not (is_null w)) here) in
    and_both (not (is_null w)) (bounds_may_hold c (least_of xs) (greatest_of xs) scale w t) (and_right (not (is_null v)) (not (is_null w)) here)
    (by_bounds c (least_of xs) (greatest_of xs) scale v w t (bounds value_cmp_total xs None v some h) (bounds (back_total value_cmp_total) xs None v some h) is)
by_value xs scale IsNull v h e = lt-ltb 0 (count_by is_null xs) (some_more xs 0 v h e)
by_value xs scale NotNull v h e = has_least (least_of xs) v (bounds value_cmp_total xs None v (not_true (is_null v) e) h)

-- a zone misses no match
pub no_match_is_lost : (xs : List Value) (scale : ℕ) (test : Test) → list_any (passes_test scale test) xs ≡ true → may_match (zone_of xs) scale test ≡ true
no_match_is_lost xs scale test any = let r = found (passes_test scale test) xs any in by_value xs scale test r.0 r.1 r.2
