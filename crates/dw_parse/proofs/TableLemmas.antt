-- The last of what is said, and folds of parts, with one more at the end.
use Rattle.std.proofs.Common.{◌≡◌, Option, Some, None, List, [], ◌∷◌, ◌++◌, refl, sym, ◌∙◌, ap}
use Rattle.dw_parse.specs.Tables.{later, last_of}

later-assoc : {A : Type 0} (a b c : Option A) → later a (later b c) ≡ later (later a b) c
later-assoc a b None = refl
later-assoc a b (Some c) = refl

pub later_none : {A : Type 0} (a : Option A) → later None a ≡ a
later_none None = refl
later_none (Some a) = refl

-- the last of what is said with one more
pub last_of_push : {A B : Type 0} (said : A → Option B) (xs : List A) (x : A) → last_of said (xs ++ x ∷ []) ≡ later (last_of said xs) (said x)
last_of_push said [] x = sym (later_none (said x))
last_of_push said (a ∷ xs) x = ap (later (said a)) (last_of_push said xs x) ∙ later-assoc (said a) (last_of said xs) (said x)

-- what the last of several says of a thing, and one more after them
pub one_more : {A B : Type 0} (said : A → Option B) (xs : List A) (x : A) (start before after : Option B) → before ≡ later start (last_of said xs) → after ≡ later before (said x) → after ≡ later start (last_of said (xs ++ x ∷ []))
one_more said xs x start before after is_before is_after =
    is_after ∙ ap (λ o. later o (said x)) is_before ∙ sym (ap (later start) (last_of_push said xs x) ∙ later-assoc start (last_of said xs) (said x))
