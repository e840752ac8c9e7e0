-- The tests of answers and refusals tell what is the same.
use Rattle.std.proofs.Common.{◌≡◌, ℕ, ◌+◌, ◌<◌, true, false, List, [], ◌∷◌, ◌++◌, length, get_or, take, refl, sym, ap, subst, ◌∙◌}
use Rattle.std.specs.Prelude.{nat_eq, ◌&&◌, Some}
use Rattle.std.proofs.lemmas.List.{take_more}
use Rattle.std.proofs.lemmas.Option.{slice_get-get_or}
use Rattle.std.specs.Bool.{Decides}
use Rattle.std.specs.Cmp.Lexicographic.{pointwise}
use Rattle.std.proofs.lemmas.Bool.{eqb-true, eq-eqb, and_parts, and_from, false≢true}
use Rattle.std.proofs.lemmas.Slice.Eq.{slice_eq-Decides}
use Rattle.dw_value.specs.declared.values.Field.{Field}
use Rattle.dw_value.specs.declared.values.Field.TheVariants.{Null, Shown}
use Rattle.dw_model.specs.declared.answers.Answer.{Answer as Reply}
use Rattle.dw_model.specs.declared.answers.Answer.TheVariants as answers
use Rattle.dw_model.specs.declared.refusals.Refusal.{Refusal}
use Rattle.dw_model.specs.declared.refusals.Refusal.TheVariants as refusals
use Rattle.dw_model.specs.Binding.{same_name}
use Rattle.dw_judge.specs.Dues.{same_word, word_number}
use Rattle.dw_judge.specs.Sames.{same_answer, same_field, same_refusal}
use Rattle.dw_judge.proofs.Same.{same_name-decides, same_name-true, same_name-self, word_one}

some_one : {X : Type 0} (x y : X) → Some x ≡ Some y → x ≡ y
some_one x y is = cc

same_default : {X : Type 0} (l : List X) (i : ℕ) (d e : X) → i < length l → get_or l i d ≡ get_or l i e
same_default l i d e h = some_one (get_or l i d) (get_or l i e) (sym (slice_get-get_or l i d h) ∙ slice_get-get_or l i e h)

-- lists that differ at a place differ
pub differ_at : {X : Type 0} (a b : List X) (place : ℕ) (x y : X) → x ≡ get_or a place x → y ≡ get_or b place y → place < length a → (x ≡ y → ⊥)
    → Decides false (a ≡ b)
differ_at {X} a b place x y x_is y_is within differ = (
  (λ is. absurd (false≢true is)),
  (λ is. absurd (differ (x_is ∙ ap (λ (l : List X). get_or l place x) is ∙ same_default b place x y (subst (λ (l : List X). place < length l) is within) ∙ sym y_is))),
)

-- what is the same with one more
pub take_both : {X : Type 0} (a b : List X) (place : ℕ) (x y : X) → x ≡ get_or a place x → y ≡ get_or b place y → place < length a → place < length b
    → x ≡ y → take place a ≡ take place b → take (place + 1) a ≡ take (place + 1) b
take_both {X} a b place x y x_is y_is in_a in_b same before =
    take_more a place x in_a ∙ ap (λ (z : X). take place a ++ z ∷ []) (sym x_is ∙ same)
    ∙ ap (λ (l : List X). l ++ y ∷ []) before ∙ ap (λ (z : X). take place b ++ z ∷ []) y_is ∙ sym (take_more b place y in_b)

field-true : (a b : Field) → same_field a b ≡ true → a ≡ b
field-true Null Null is = refl
field-true Null (Shown b) is = absurd (false≢true is)
field-true (Shown a) Null is = absurd (false≢true is)
field-true (Shown a) (Shown b) is = ap Shown (same_name-true a b is)

field-self : (a : Field) → same_field a a ≡ true
field-self Null = refl
field-self (Shown a) = same_name-self a

pub field-decides : (a b : Field) → Decides (same_field a b) (a ≡ b)
field-decides a b = (field-true a b, λ is. subst (λ (c : Field). same_field a c ≡ true) is (field-self a))

pub fields-decides : (a b : List Field) → Decides (pointwise same_field a b) (a ≡ b)
fields-decides a b = slice_eq-Decides field-decides a b (pointwise same_field a b) refl

pub rows-decides : (a b : List (List Field)) → Decides (pointwise (pointwise same_field) a b) (a ≡ b)
rows-decides a b = slice_eq-Decides fields-decides a b (pointwise (pointwise same_field) a b) refl

names-decides : (a b : List (List ℕ)) → Decides (pointwise same_name a b) (a ≡ b)
names-decides a b = slice_eq-Decides same_name-decides a b (pointwise same_name a b) refl

pub answer-true : (a b : Reply) → same_answer a b ≡ true → a ≡ b
answer-true (answers.Rows a names rows) (answers.Rows b named found) is =
    let outer = and_parts (same_word a b && pointwise same_name names named) (pointwise (pointwise same_field) rows found) is in
    let inner = and_parts (same_word a b) (pointwise same_name names named) outer.0 in
    ap (λ w. answers.Rows w names rows) (word_one a b inner.0)
    ∙ ap (λ n. answers.Rows b n rows) ((names-decides names named).0 inner.1)
    ∙ ap (λ r. answers.Rows b named r) ((rows-decides rows found).0 outer.1)
answer-true (answers.Rows a names rows) other is = absurd (false≢true is)
answer-true (answers.Count a count) (answers.Count b counted) is =
    let parts = and_parts (same_word a b) (nat_eq count counted) is in
    ap (λ w. answers.Count w count) (word_one a b parts.0) ∙ ap (λ n. answers.Count b n) (eqb-true count counted parts.1)
answer-true (answers.Count a count) other is = absurd (false≢true is)
answer-true (answers.Plain a) (answers.Plain b) is = ap answers.Plain (word_one a b is)
answer-true (answers.Plain a) other is = absurd (false≢true is)

self : (k : ℕ) → nat_eq k k ≡ true
self k = eq-eqb k k refl

answer-self : (a : Reply) → same_answer a a ≡ true
answer-self (answers.Rows a names rows) =
    and_from (same_word a a && pointwise same_name names names) (pointwise (pointwise same_field) rows rows)
    (and_from (same_word a a) (pointwise same_name names names) (self (word_number a)) ((names-decides names names).1 refl)) ((rows-decides rows rows).1 refl)
answer-self (answers.Count a count) = and_from (same_word a a) (nat_eq count count) (self (word_number a)) (self count)
answer-self (answers.Plain a) = self (word_number a)

pub answer-decides : (a b : Reply) → Decides (same_answer a b) (a ≡ b)
answer-decides a b = (answer-true a b, λ is. subst (λ (c : Reply). same_answer a c ≡ true) is (answer-self a))

pub refusal-true : (a b : Refusal) → same_refusal a b ≡ true → a ≡ b
refusal-true (refusals.Syntax a) (refusals.Syntax b) is = ap refusals.Syntax (eqb-true a b is)
refusal-true (refusals.Syntax a) other is = absurd (false≢true is)
refusal-true (refusals.Unknown a) (refusals.Unknown b) is = ap refusals.Unknown (same_name-true a b is)
refusal-true (refusals.Unknown a) other is = absurd (false≢true is)
refusal-true (refusals.Exists a) (refusals.Exists b) is = ap refusals.Exists (same_name-true a b is)
refusal-true (refusals.Exists a) other is = absurd (false≢true is)
refusal-true (refusals.NullIn a) (refusals.NullIn b) is = ap refusals.NullIn (same_name-true a b is)
refusal-true (refusals.NullIn a) other is = absurd (false≢true is)
refusal-true (refusals.Deadlock a) (refusals.Deadlock b) is = ap refusals.Deadlock (same_name-true a b is)
refusal-true (refusals.Deadlock a) other is = absurd (false≢true is)
refusal-true (refusals.Vacuuming a) (refusals.Vacuuming b) is = ap refusals.Vacuuming (eqb-true a b is)
refusal-true (refusals.Vacuuming a) other is = absurd (false≢true is)
refusal-true (refusals.Limit a) (refusals.Limit b) is = ap refusals.Limit (eqb-true a b is)
refusal-true (refusals.Limit a) other is = absurd (false≢true is)
refusal-true refusals.Clash refusals.Clash is = refl
refusal-true refusals.Clash other is = absurd (false≢true is)
refusal-true refusals.Range refusals.Range is = refl
refusal-true refusals.Range other is = absurd (false≢true is)
refusal-true refusals.Aborted refusals.Aborted is = refl
refusal-true refusals.Aborted other is = absurd (false≢true is)
refusal-true refusals.InBlock refusals.InBlock is = refl
refusal-true refusals.InBlock other is = absurd (false≢true is)
refusal-true refusals.Memory refusals.Memory is = refl
refusal-true refusals.Memory other is = absurd (false≢true is)

refusal-self : (a : Refusal) → same_refusal a a ≡ true
refusal-self (refusals.Syntax a) = self a
refusal-self (refusals.Unknown a) = same_name-self a
refusal-self (refusals.Exists a) = same_name-self a
refusal-self (refusals.NullIn a) = same_name-self a
refusal-self (refusals.Deadlock a) = same_name-self a
refusal-self (refusals.Vacuuming a) = self a
refusal-self (refusals.Limit a) = self a
refusal-self refusals.Clash = refl
refusal-self refusals.Range = refl
refusal-self refusals.Aborted = refl
refusal-self refusals.InBlock = refl
refusal-self refusals.Memory = refl

pub refusal-decides : (a b : Refusal) → Decides (same_refusal a b) (a ≡ b)
refusal-decides a b = (refusal-true a b, λ is. subst (λ (c : Refusal). same_refusal a c ≡ true) is (refusal-self a))
