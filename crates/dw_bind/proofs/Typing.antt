-- Lists of expressions with their kinds, one after another.
use Rattle.std.proofs.Common.{◌≡◌, List, [], ◌∷◌, ◌++◌, Option, Some, None, refl, ap, append_assoc}
use Rattle.std.proofs.lemmas.List.{append-nil}
use Rattle.dw_expr.specs.Binding.{with_both, some_first}
use Rattle.dw_bind.specs.Steps.{after}

pub after_nothing : {A : Type 0} (items : Option (List A)) → after [] items ≡ items
after_nothing None = refl
after_nothing (Some items) = refl

pub after_end : {A : Type 0} (before : List A) → after before (Some []) ≡ Some before
after_end before = ap Some (append-nil before)

pub after_more : {A : Type 0} (before : List A) (a : A) (rest : Option (List A)) → after (before ++ a ∷ []) rest ≡ after before (with_both some_first (Some a) rest)
after_more before a None = refl
after_more before a (Some items) = ap Some (append_assoc before (a ∷ []) items)
