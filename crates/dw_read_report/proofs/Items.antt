-- Items that stand one after another, each after a label: what the loops over them keep.
use Rattle.std.proofs.Common.{◌≡◌, ℕ, suc, ◌+◌, ◌-◌, ◌<◌, List, [], ◌∷◌, ◌++◌, Option, Some, None, refl, sym, ◌∙◌, arith, append_assoc}
use Rattle.std.proofs.lemmas.List.{append-nil}
use Rattle.dw_read_report.specs.Reading.{Reading, after_label, items_at, with_front}

pub front_joins : {A : Type 0} (front more : List A) (read : Option (List A × List ℕ))
    → with_front front (with_front more read) ≡ with_front (front ++ more) read
front_joins front more None = refl
front_joins front more (Some x) = simp append_assoc

left_over : (most i : ℕ) → i < most → most - i ≡ suc (most - (i + 1))
left_over most i below = omega arith

-- one more item was read
pub items_go_on : {A : Type 0} (front : List A) (most i : ℕ) (label rest after next : List ℕ) (item : Reading A) (x : A)
    (whole : Option (List A × List ℕ)) → i < most → after_label label rest ≡ Some after → item after ≡ Some (x, next)
    → with_front front (items_at (most - i) label item rest) ≡ whole
    → with_front (front ++ x ∷ []) (items_at (most - (i + 1)) label item next) ≡ whole
items_go_on front most i label rest after next item x whole below there is so_far =
    sym (front_joins front (x ∷ []) (items_at (most - (i + 1)) label item next)) ∙ step ∙ so_far
  where
    step : with_front front (with_front (x ∷ []) (items_at (most - (i + 1)) label item next)) ≡ with_front front (items_at (most - i) label item rest)
    step = rw (left_over most i below, there, is) refl

-- no item is there after a label
pub items_fail : {A : Type 0} (front : List A) (most i : ℕ) (label rest after : List ℕ) (item : Reading A)
    (whole : Option (List A × List ℕ)) → i < most → after_label label rest ≡ Some after → item after ≡ None
    → with_front front (items_at (most - i) label item rest) ≡ whole → whole ≡ None
items_fail front most i label rest after item whole below there none so_far = sym so_far ∙ step
  where
    step : with_front front (items_at (most - i) label item rest) ≡ None
    step = rw (left_over most i below, there, none) refl

-- no label is there
pub items_end : {A : Type 0} (front : List A) (most i : ℕ) (label rest : List ℕ) (item : Reading A)
    (whole : Option (List A × List ℕ)) → i < most → after_label label rest ≡ None
    → with_front front (items_at (most - i) label item rest) ≡ whole → whole ≡ Some (front, rest)
items_end front most i label rest item whole below none so_far = sym so_far ∙ step
  where
    step : with_front front (items_at (most - i) label item rest) ≡ Some (front, rest)
    step = rw (left_over most i below, none) (simp append-nil)

-- no more items can be there
pub items_are_all : {A : Type 0} (front : List A) (most i : ℕ) (label rest : List ℕ) (item : Reading A)
    (whole : Option (List A × List ℕ)) → ¬ (i < most)
    → with_front front (items_at (most - i) label item rest) ≡ whole → whole ≡ Some (front, rest)
items_are_all front most i label rest item whole past so_far = sym so_far ∙ step
  where
    none : most - i ≡ 0
    none = omega arith

    step : with_front front (items_at (most - i) label item rest) ≡ Some (front, rest)
    step = rw none (simp append-nil)
