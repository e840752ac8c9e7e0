-- A value between two others, under a total order, and how all three stand to a fourth.
use Rattle.std.proofs.Common.{◌≡◌, Bool, true, false, not, ◌&&◌, refl, sym, ◌∙◌, true≢false}
use Rattle.std.specs.declared.cmp.Ordering.{Ordering}
use Rattle.std.specs.declared.cmp.Ordering.TheVariants.{Less, Equal, Greater}
use Rattle.std.specs.Ordering.{is_eq, is_ne, is_lt, is_le, is_gt, is_ge}
use Rattle.std.specs.Cmp.{IsTotalOrder, upto}
use Rattle.dw_value.specs.declared.kinds.Comparison.{Comparison}
use Rattle.dw_value.specs.declared.kinds.Comparison.TheVariants as test
use Rattle.dw_value.specs.Values.{passes}
use Rattle.dw_value.proofs.SortedLaws.{turned}
use Rattle.dw_block.specs.Zones.{may_hold}

pub le_of : (r : Ordering) → is_gt r ≡ false → is_le r ≡ true
le_of Less e = refl
le_of Equal e = refl
le_of Greater e = absurd (true≢false e)

pub not_gt : (r : Ordering) → is_le r ≡ true → is_gt r ≡ false
not_gt Less e = refl
not_gt Equal e = refl
not_gt Greater e = absurd (true≢false (sym e))

pub ge_of : (r : Ordering) → is_lt r ≡ false → is_ge r ≡ true
ge_of Less e = absurd (true≢false e)
ge_of Equal e = refl
ge_of Greater e = refl

pub not_lt : (r : Ordering) → is_ge r ≡ true → is_lt r ≡ false
not_lt Less e = absurd (true≢false (sym e))
not_lt Equal e = refl
not_lt Greater e = refl

pub eq_le : (r : Ordering) → is_eq r ≡ true → is_gt r ≡ false
eq_le Less e = absurd (true≢false (sym e))
eq_le Equal e = refl
eq_le Greater e = absurd (true≢false (sym e))

pub eq_ge : (r : Ordering) → is_eq r ≡ true → is_lt r ≡ false
eq_ge Less e = absurd (true≢false (sym e))
eq_ge Equal e = refl
eq_ge Greater e = absurd (true≢false (sym e))

both_eq : (r : Ordering) → is_gt r ≡ false → is_lt r ≡ false → is_ne r ≡ true → ⊥
both_eq Less a b e = true≢false b
both_eq Equal a b e = true≢false (sym e)
both_eq Greater a b e = true≢false a

not_both : (a b : Bool) → (a ≡ true → b ≡ true → ⊥) → not (a && b) ≡ true
not_both true true h = absurd (h refl refl)
not_both true false h = refl
not_both false b h = refl

pub and_both : (a b : Bool) → a ≡ true → b ≡ true → (a && b) ≡ true
and_both a b e f = cc

is_true : (b : Bool) → (b ≡ false → ⊥) → b ≡ true
is_true true h = refl
is_true false h = absurd (h refl)

module _ {A : Type 0} {R : A → A → Ordering} (total : IsTotalOrder R) where
  -- a isn't after b
  abbrev Upto : A → A → Type 0
  Upto a b = is_gt (R a b) ≡ false

  from_ge : (a b : A) → is_lt (R a b) ≡ false → Upto b a
  from_ge a b e = sym (turned total a b) ∙ e

  to_ge : (a b : A) → Upto b a → is_lt (R a b) ≡ false
  to_ge a b e = turned total a b ∙ e

  -- a comparison that holds of a value between two bounds may hold by these
  pub between : (c : Comparison) (low v high w : A) → is_gt (R low v) ≡ false → is_gt (R v high) ≡ false → passes c (R v w) ≡ true → may_hold c (R low w) (R high w) ≡ true
  between test.Equal low v high w above below is =
      let up : Upto v w = eq_le (R v w) is in
      let down : Upto w v = from_ge v w (eq_ge (R v w) is) in
      and_both (is_le (R low w)) (is_ge (R high w)) (le_of (R low w) (upto total low v w above up)) (ge_of (R high w) (to_ge high w (upto total w v high down below)))
  between test.Unequal low v high w above below is =
      not_both (is_eq (R low w)) (is_eq (R high w)) (λ e f.
      let down : Upto w v = upto total w low v (from_ge low w (eq_ge (R low w) e)) above in
      let up : Upto v w = upto total v high w below (eq_le (R high w) f) in
      both_eq (R v w) up (to_ge v w down) is)
  between test.Less low v high w above below is =
      is_true (is_lt (R low w)) (λ e.
      let down : Upto w v = upto total w low v (from_ge low w e) above in
      true≢false (sym is ∙ to_ge v w down))
  between test.AtMost low v high w above below is = le_of (R low w) (upto total low v w above (not_gt (R v w) is))
  between test.Greater low v high w above below is =
      is_true (is_gt (R high w)) (λ e. true≢false (sym is ∙ upto total v high w below e))
  between test.AtLeast low v high w above below is = ge_of (R high w) (to_ge high w (upto total w v high (from_ge v w (not_lt (R v w) is)) below))
