-- Unknown names in two parts of a text.
use Rattle.std.proofs.Common.{◌≡◌, ℕ, List, [], ◌∷◌, ◌++◌, Bool, true, false, cond, Option, Some, is_some, refl}
use Rattle.dw_expr.specs.Sight.{Sight, Reference, meant, first_unknown}
use Rattle.dw_bind.specs.Steps.{first_name}

unless_known : (known : Bool) (name : List ℕ) (first whole : Option (List ℕ)) (second : Option (List ℕ)) → whole ≡ first_name first second → cond known whole (Some name) ≡ first_name (cond known first (Some name)) second
unless_known true name first whole second p = p
unless_known false name first whole second p = refl

pub first_unknown_append : (sight : Sight) (xs ys : List Reference) → first_unknown sight (xs ++ ys) ≡ first_name (first_unknown sight xs) (first_unknown sight ys)
first_unknown_append sight [] ys = refl
first_unknown_append sight (reference ∷ rest) ys =
    unless_known (is_some (meant sight reference)) reference.name (first_unknown sight rest) (first_unknown sight (rest ++ ys)) (first_unknown sight ys) (first_unknown_append sight rest ys)
