-- Parts of a stage, one after another, and a turn of a loop over a stage's items.
use Rattle.std.proofs.Common.{◌≡◌, ℕ, suc, ◌+◌, ◌<◌, ◌≤◌, zero, List, [], ◌∷◌, ◌++◌, length, drop, get_or, slice_index_or, min, zip, Option, Some, None, Result, Ok, Err, refl, ap, sym, ◌∙◌, append_assoc, arith}
use Rattle.std.proofs.lemmas.List.{append-nil, drop_more, at_drop_all}
use Rattle.std.proofs.lemmas.Slice.Zip.{get_or-zip, length-zip}
use Rattle.dw_value.specs.declared.kinds.Fault.{Fault}
use Rattle.dw_value.specs.declared.kinds.Fault.TheVariants.{Range, Zero}
use Rattle.dw_value.specs.declared.values.Value.{Value}
use Rattle.dw_expr.specs.BoundTree.{BoundTree}
use Rattle.dw_expr.specs.Evaluation.{least_fault}
use Rattle.dw_query.specs.declared.filling.Target.{Target}
use Rattle.dw_query.specs.Stages.{joined, stage, single}
use Rattle.dw_query.specs.Filling.{filled_from, taken, given_value}
use Rattle.dw_query.specs.Outcomes.{Gives, so_far, came_to}

least-assoc : (a b c : Fault) → least_fault (least_fault a b) c ≡ least_fault a (least_fault b c)
least-assoc Range Range Range = refl
least-assoc Range Range Zero = refl
least-assoc Range Zero Range = refl
least-assoc Range Zero Zero = refl
least-assoc Zero Range Range = refl
least-assoc Zero Range Zero = refl
least-assoc Zero Zero Range = refl
least-assoc Zero Zero Zero = refl

pub joined-nothing : {A : Type 0} → (a : Result (List A) Fault) → joined a (Ok []) ≡ a
joined-nothing (Ok made) = ap Ok (append-nil made)
joined-nothing (Err fault) = refl

pub joined-assoc : {A : Type 0} → (a b c : Result (List A) Fault) → joined (joined a b) c ≡ joined a (joined b c)
joined-assoc (Ok a) (Ok b) (Ok c) = ap Ok (append_assoc a b c)
joined-assoc (Ok a) (Ok b) (Err f) = refl
joined-assoc (Ok a) (Err e) (Ok c) = refl
joined-assoc (Ok a) (Err e) (Err f) = refl
joined-assoc (Err d) (Ok b) (Ok c) = refl
joined-assoc (Err d) (Ok b) (Err f) = refl
joined-assoc (Err d) (Err e) (Ok c) = refl
joined-assoc (Err d) (Err e) (Err f) = ap Err (least-assoc d e f)

-- a turn: what is made for an item comes after what was made before
pub stage-turn : {A B : Type 0} → (make : A → Result (List B) Fault) (items : List A) (i : ℕ) (item : A) (before next whole : Result (List B) Fault)
    → i < length items → item ≡ get_or items i item → next ≡ joined before (make item)
    → joined before (stage make (drop i items)) ≡ whole
    → joined next (stage make (drop (i + 1) items)) ≡ whole
stage-turn make items i item before next whole within is one p =
    let rest = drop (i + 1) items in
    let split : drop i items ≡ item ∷ rest = drop_more items i item within ∙ ap (λ x. x ∷ rest) (sym is) in
    ap (λ part. joined part (stage make rest)) one
    ∙ joined-assoc before (make item) (stage make rest)
    ∙ ap (λ l. joined before (stage make l)) (sym split)
    ∙ p

-- the end: nothing is left
pub stage-end : {A B : Type 0} → (make : A → Result (List B) Fault) (items : List A) (i : ℕ) (before whole : Result (List B) Fault)
    → length items ≤ i → joined before (stage make (drop i items)) ≡ whole → before ≡ whole
stage-end make items i before whole past p =
    sym (joined-nothing before) ∙ sym (at_drop_all (λ l. joined before (stage make l)) items i past) ∙ p

-- a turn over the items of two lists side by side
pub zip-turn : {A B C : Type 0} → (make : A × B → Result (List C) Fault) (xs : List A) (ys : List B) (i : ℕ) (x : A) (y : B) (before next whole : Result (List C) Fault)
    → i < length xs → i < length ys → x ≡ get_or xs i x → y ≡ get_or ys i y → next ≡ joined before (make (x, y))
    → joined before (stage make (drop i (zip xs ys))) ≡ whole
    → joined next (stage make (drop (i + 1) (zip xs ys))) ≡ whole
zip-turn make xs ys i x y before next whole within_x within_y is_x is_y one p =
    let count : length (zip xs ys) ≡ min (length xs) (length ys) = length-zip xs ys in
    let within : i < length (zip xs ys) = omega (arith, count) in
    let pair : (x, y) ≡ (get_or xs i x, get_or ys i y) = ap (λ a. (a, y)) is_x ∙ ap (λ b. (get_or xs i x, b)) is_y in
    stage-turn make (zip xs ys) i (x, y) before next whole within (pair ∙ sym (get_or-zip xs ys i (x, y) within_x within_y)) one p

pub zip-end : {A B C : Type 0} → (make : A × B → Result (List C) Fault) (xs : List A) (ys : List B) (i : ℕ) (before whole : Result (List C) Fault)
    → min (length xs) (length ys) ≤ i → joined before (stage make (drop i (zip xs ys))) ≡ whole → before ≡ whole
zip-end make xs ys i before whole past p =
    let count : length (zip xs ys) ≡ min (length xs) (length ys) = length-zip xs ys in
    stage-end make (zip xs ys) i before whole (omega (arith, count)) p

index-within : {A : Type 0} → (xs : List A) (i : ℕ) (d e : A) → i < length xs → slice_index_or xs i d ≡ get_or xs i e
index-within [] i d e within = absurd (omega (arith, within))
index-within (x ∷ xs) zero d e within = refl
index-within (x ∷ xs) (suc i) d e within = index-within xs i d e (omega (arith, within))

-- a turn over the columns of a row
filled-turn : (exprs : List BoundTree) (values others : List Value) (targets : List Target) (i : ℕ) (target : Target) (before next whole : Result (List Value) Fault)
    → i < length targets → target ≡ get_or targets i target
    → next ≡ joined before (single (taken exprs values (given_value others i) target.kind target.place))
    → joined before (filled_from i (drop i targets) exprs values others) ≡ whole
    → joined next (filled_from (i + 1) (drop (i + 1) targets) exprs values others) ≡ whole
filled-turn exprs values others targets i target before next whole within is one p =
    let rest = drop (i + 1) targets in
    let here = single (taken exprs values (given_value others i) target.kind target.place) in
    let split : drop i targets ≡ target ∷ rest = drop_more targets i target within ∙ ap (λ x. x ∷ rest) (sym is) in
    ap (λ part. joined part (filled_from (i + 1) rest exprs values others)) one
    ∙ joined-assoc before here (filled_from (i + 1) rest exprs values others)
    ∙ ap (λ l. joined before (filled_from i l exprs values others)) (sym split)
    ∙ p

pub filled-step : (exprs : List BoundTree) (values others : List Value) (targets : List Target) (i : ℕ) (d : Target) (before next whole : Result (List Value) Fault)
    → i < length targets
    → next ≡ joined before (single (taken exprs values (given_value others i) (slice_index_or targets i d).kind (slice_index_or targets i d).place))
    → joined before (filled_from i (drop i targets) exprs values others) ≡ whole
    → joined next (filled_from (i + 1) (drop (i + 1) targets) exprs values others) ≡ whole
filled-step exprs values others targets i d before next whole within one p =
    let target = slice_index_or targets i d in
    filled-turn exprs values others targets i target before next whole within (index-within targets i d target within) one p

pub filled-end : (exprs : List BoundTree) (values others : List Value) (targets : List Target) (i : ℕ) (before whole : Result (List Value) Fault)
    → length targets ≤ i → joined before (filled_from i (drop i targets) exprs values others) ≡ whole → before ≡ whole
filled-end exprs values others targets i before whole past p =
    sym (joined-nothing before) ∙ sym (at_drop_all (λ l. joined before (filled_from i l exprs values others)) targets i past) ∙ p

-- what a stage came to is what is given
pub came-to-gives : {A : Type 0} → (made : List A) (least : Option Fault) (whole : Result (List A) Fault)
    → so_far made least ≡ whole → Gives whole (came_to made least)
came-to-gives made None whole p = sym p
came-to-gives made (Some fault) whole p = sym p
