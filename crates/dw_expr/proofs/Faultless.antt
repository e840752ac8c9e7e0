-- Predicates of the safe forms have no fault.
use Rattle.std.proofs.Common.{◌≡◌, ℕ, zero, ◌-◌, ◌*◌, ◌^◌, ◌<◌, ◌≤◌, min, max, Bool, true, false, ◌&&◌, ℤ, pos, negsuc, ◌-ℤ◌, unsigned_abs, List, Ok, Err, refl, ap, ◌∙◌, arith}
use Rattle.std.specs.Prelude.{IsOk, int_le}
use Rattle.std.proofs.lemmas.Int.{ints}
use Rattle.std.proofs.lemmas.Bool.{and_from, and_parts, false≢true, leb-true, le-leb, ltb-true, lt-ltb}
use Rattle.dw_value.proofs.Powers.{ten_below}
use Rattle.dw_value.specs.declared.kinds.Op.{Op}
use Rattle.dw_value.specs.declared.kinds.Op.TheVariants.{Subtract}
use Rattle.dw_value.specs.declared.kinds.Comparison.{Comparison}
use Rattle.dw_value.specs.declared.kinds.Comparison.TheVariants.{Equal, AtMost, AtLeast}
use Rattle.dw_value.specs.declared.kinds.Kind.{Kind}
use Rattle.dw_value.specs.declared.kinds.Kind.TheVariants.{Small, Int, Big, Decimal}
use Rattle.dw_value.specs.declared.values.Value.{Value}
use Rattle.dw_value.specs.declared.values.Value.TheVariants.{Number, Words}
use Rattle.dw_value.specs.Values.{holds_number, is_within}
use Rattle.dw_value.specs.Arithmetic.{raised, computed, number_value, sum_in_range}
use Rattle.dw_expr.specs.Truths.{conjunction, disjunction}
use Rattle.dw_expr.specs.BoundTree as t
use Rattle.dw_expr.specs.BoundTree.{BoundTree, BoundTrees, kind_of}
use Rattle.dw_expr.specs.Evaluation.{Outcome, value, any_equal, of_one, of_two, not_if, connected, negated_value, comparison_of, comparison_value, is_null_value, like_value, arithmetic_value}
use Rattle.dw_expr.specs.Safety.{is_safe, are_safe, is_minus, is_size, is_zero, is_plain}

-- what comes of outcomes without a fault has none
one_ok : (make : Value → Outcome) (a : Outcome) → ((x : Value) → IsOk (make x)) → IsOk a → IsOk (of_one make a)
one_ok make (Ok x) made p = made x
one_ok make (Err fault) made p = p

two_ok : (make : Value → Value → Outcome) (a b : Outcome) → ((x y : Value) → IsOk (make x y)) → IsOk a → IsOk b
    → IsOk (of_two make a b)
two_ok make (Ok x) (Ok y) made p q = made x y
two_ok make (Ok x) (Err fault) made p q = q
two_ok make (Err fault) (Ok y) made p q = p
two_ok make (Err fault) (Err other) made p q = p

not_ok : (negated : Bool) (a : Outcome) → IsOk a → IsOk (not_if negated a)
not_ok true a p = one_ok negated_value a (λ x. refl) p
not_ok false a p = p

comparison_ok : (comparison : Comparison) (a_kind b_kind : Kind) (a b : Outcome) → IsOk a → IsOk b
    → IsOk (comparison_of comparison a_kind a b_kind b)
comparison_ok comparison a_kind b_kind a b p q =
    two_ok (comparison_value comparison a_kind b_kind) a b (λ x y. refl) p q

like_ok : (x y : Value) → IsOk (like_value x y)
like_ok (Words text) (Words pattern) = refl
like_ok x y = refl

-- a column and a literal have a value
plain_ok : (row : List Value) (a : BoundTree) → is_plain a ≡ true → IsOk (value row a)
plain_ok row (t.column source place kind) p = refl
plain_ok row (t.literal x kind) p = refl
plain_ok row a p = cc

pub plain_compared : (row : List Value) (comparison : Comparison) (a b : BoundTree) → is_plain a ≡ true
    → is_plain b ≡ true → IsOk (value row (t.compared comparison a b))
plain_compared row comparison a b p q =
    comparison_ok comparison (kind_of a) (kind_of b) (value row a) (value row b) (plain_ok row a p) (plain_ok row b q)

-- a minus before a number literal
in_sum : (kind : Kind) (x y sum : ℤ) → holds_number kind x ≡ true → holds_number kind y ≡ true
    → holds_number kind sum ≡ true → IsOk (number_value (sum_in_range kind x y sum))
in_sum kind x y sum p q r = simp (p, q, r)

below : (limit n : ℕ) → is_within limit (pos n) ≡ true → n ≤ limit
below limit n p =
    leb-true n limit (and_parts (int_le (negsuc limit) (pos n)) (int_le (pos n) (pos limit)) p).1

within_same : (greatest n : ℕ) (z : ℤ) → n ≤ greatest → z ≡ pos n → is_within greatest z ≡ true
within_same greatest n z less e =
    rw e (and_from (int_le (negsuc greatest) (pos n)) (int_le (pos n) (pos greatest)) refl (le-leb n greatest less))

within_negative : (greatest n : ℕ) (z : ℤ) → n ≤ greatest → z ≡ pos 0 -ℤ pos n → is_within greatest z ≡ true
within_negative greatest n z less e =
    and_from (int_le (negsuc greatest) z) (int_le z (pos greatest)) (grind (arith, ints)) (grind (arith, ints))

-- a whole number is held with and without a minus by each kind that holds more
whole : (kind : Kind) (limit greatest n : ℕ) (z : ℤ) → ((z : ℤ) → holds_number kind z ≡ is_within greatest z)
    → is_within limit (pos n) ≡ true → limit ≤ greatest → z ≡ pos n
    → IsOk (number_value (sum_in_range kind (pos 0) z (pos 0 -ℤ z)))
whole kind limit greatest n z holds p less e =
    let few : n ≤ greatest = omega (arith, below limit n p) in
    in_sum kind (pos 0) z (pos 0 -ℤ z)
    (rw holds (within_same greatest 0 (pos 0) (omega arith) refl))
    (rw holds (within_same greatest n z few e))
    (rw holds (within_negative greatest n (pos 0 -ℤ z) few (ap (λ (y : ℤ). pos 0 -ℤ y) e)))

-- so is a decimal by the longest kind of its scale
in_digits : (precision scale : ℕ) (z : ℤ) → unsigned_abs z < 10 ^ min precision 38
    → holds_number (Decimal 38 scale) z ≡ true
in_digits precision scale z less =
    let few : 10 ^ min precision 38 ≤ 10 ^ 38 = ten_below (min precision 38) 38 (omega arith) in
    lt-ltb (unsigned_abs z) (10 ^ 38) (omega (arith, less, few))

decimal : (precision scale n : ℕ) (x y : ℤ) → n < 10 ^ min precision 38 → x ≡ pos 0 → y ≡ pos n
    → IsOk (number_value (sum_in_range (Decimal 38 scale) x y (x -ℤ y)))
decimal precision scale n x y less none same =
    in_sum (Decimal 38 scale) x y (x -ℤ y)
    (in_digits precision scale x (omega (arith, ints)))
    (in_digits precision scale y (omega (arith, ints)))
    (in_digits precision scale (x -ℤ y) (omega (arith, ints)))

size : (n : ℕ) (kind : Kind) → holds_number kind (pos n) ≡ true
    → IsOk (computed Subtract (Number (pos 0)) Int (Number (pos n)) kind)
size n Small p = whole Int 32767 2147483647 n (raised 0 (pos n)) (λ z. refl) p (omega arith) (omega (arith, ints))
size n Int p = whole Int 2147483647 2147483647 n (raised 0 (pos n)) (λ z. refl) p (omega arith) (omega (arith, ints))
size n Big p =
    let greatest : ℕ = 9223372036854775807 in
    whole Big greatest greatest n (raised 0 (pos n)) (λ z. refl) p (omega arith) (omega (arith, ints))
size n (Decimal precision scale) p =
    let none : max 0 scale - scale ≡ 0 = omega arith in
    let once : n * 1 ≡ n = omega arith in
    let nothing : 0 * 10 ^ (max 0 scale - 0) ≡ 0 = omega arith in
    decimal precision (max 0 scale) n (raised (max 0 scale - 0) (pos 0)) (raised (max 0 scale - scale) (pos n))
    (ltb-true n (10 ^ min precision 38) p)
    (ap pos nothing)
    (ap (λ (k : ℕ). pos (n * 10 ^ k)) none ∙ ap pos once)
size n kind p = cc

-- the two sides of such a minus
zero_is : (a : BoundTree) → is_zero a ≡ true → a ≡ t.literal (Number (pos 0)) Int
zero_is (t.literal (Number (pos zero)) Int) p = refl
zero_is a p = cc

record IsSize (a : BoundTree) : Type 0 where
  n : ℕ
  kind : Kind
  is : a ≡ t.literal (Number (pos n)) kind
  held : holds_number kind (pos n) ≡ true

size_is : (a : BoundTree) → is_size a ≡ true → IsSize a
size_is (t.literal (Number (pos n)) kind) p =
    let each = and_parts (holds_number kind (pos n)) (int_le (pos 0) (pos n)) p in
    record { n = n; kind = kind; is = refl; held = each.0 }
size_is (t.literal (Number (negsuc n)) kind) p =
    absurd (false≢true (and_parts (holds_number kind (negsuc n)) (int_le (pos 0) (negsuc n)) p).1)
size_is a p = absurd (false≢true p)

minus_ok : (row : List Value) (op : Op) (a b : BoundTree) → is_minus op a b ≡ true
    → IsOk (of_two (arithmetic_value op (kind_of a) (kind_of b)) (value row a) (value row b))
minus_ok row Subtract a b p =
    let each = and_parts (is_zero a) (is_size b) p in
    let right = size_is b each.1 in
    rw (zero_is a each.0, right.is) (size right.n right.kind right.held)
minus_ok row op a b p = cc

mutual
  pub safe : (row : List Value) (a : BoundTree) → is_safe a ≡ true → IsOk (value row a)
  safe row (t.column source place kind) p = refl
  safe row (t.literal x kind) p = refl
  safe row (t.arithmetic op a b kind) p = minus_ok row op a b p
  safe row (t.compared comparison a b) p =
      let each = and_parts (is_safe a) (is_safe b) p in
      comparison_ok comparison (kind_of a) (kind_of b) (value row a) (value row b)
      (safe row a each.0) (safe row b each.1)
  safe row (t.both a b) p =
      let each = and_parts (is_safe a) (is_safe b) p in
      two_ok (connected conjunction) (value row a) (value row b) (λ x y. refl) (safe row a each.0) (safe row b each.1)
  safe row (t.either a b) p =
      let each = and_parts (is_safe a) (is_safe b) p in
      two_ok (connected disjunction) (value row a) (value row b) (λ x y. refl) (safe row a each.0) (safe row b each.1)
  safe row (t.opposite a) p = not_ok true (value row a) (safe row a p)
  safe row (t.is_null negated a) p =
      not_ok negated _ (one_ok is_null_value (value row a) (λ x. refl) (safe row a p))
  safe row (t.between negated a low high) p =
      let each = and_parts (is_safe a) (is_safe low && is_safe high) p in
      let sides = and_parts (is_safe low) (is_safe high) each.1 in
      let operand = safe row a each.0 in
      not_ok negated _ (two_ok (connected conjunction) _ _ (λ x y. refl)
      (comparison_ok AtLeast (kind_of a) (kind_of low) (value row a) (value row low) operand (safe row low sides.0))
      (comparison_ok AtMost (kind_of a) (kind_of high) (value row a) (value row high) operand (safe row high sides.1)))
  safe row (t.in_list negated a list) p =
      let each = and_parts (is_safe a) (are_safe list) p in
      not_ok negated _ (all_safe row (kind_of a) (value row a) list (safe row a each.0) each.1)
  safe row (t.like negated a pattern) p =
      let each = and_parts (is_safe a) (is_safe pattern) p in
      not_ok negated _
      (two_ok like_value (value row a) (value row pattern) like_ok (safe row a each.0) (safe row pattern each.1))
  safe row a p = cc

  all_safe : (row : List Value) (kind : Kind) (operand : Outcome) (list : BoundTrees) → IsOk operand
      → are_safe list ≡ true
      → IsOk (any_equal row kind operand list)
  all_safe row kind operand t.none is_known p = refl
  all_safe row kind operand (t.more a rest) is_known p =
      let each = and_parts (is_safe a) (are_safe rest) p in
      two_ok (connected disjunction) _ _ (λ x y. refl)
      (comparison_ok Equal kind (kind_of a) operand (value row a) is_known (safe row a each.0))
      (all_safe row kind operand rest is_known each.1)
