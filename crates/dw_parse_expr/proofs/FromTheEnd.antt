-- Rows that are made from their ends.
use Rattle.std.proofs.Common.{◌≡◌, List, [], ◌∷◌, ◌++◌, refl, sym, ◌∙◌, ap}
use Rattle.dw_expr.specs.Tree.{Tree, Trees, Branches, none, more, no_branch, branch}
use Rattle.dw_parse_expr.specs.Reading.{trees, branches}

-- expressions before a row of them, and branches before others
abbrev pub trees_before : List Tree → Trees → Trees
trees_before [] row = row
trees_before (a ∷ rest) row = more a (trees_before rest row)

abbrev pub branches_before : List (Tree × Tree) → Branches → Branches
branches_before [] row = row
branches_before (arm ∷ rest) row = branch arm.0 arm.1 (branches_before rest row)

pub trees-alone : (list : List Tree) → trees_before list none ≡ trees list
trees-alone [] = refl
trees-alone (a ∷ rest) = ap (more a) (trees-alone rest)

pub branches-alone : (list : List (Tree × Tree)) → branches_before list no_branch ≡ branches list
branches-alone [] = refl
branches-alone (arm ∷ rest) = ap (branch arm.0 arm.1) (branches-alone rest)

pub trees-last : (list : List Tree) (a : Tree) (row : Trees) → trees_before (list ++ a ∷ []) row ≡ trees_before list (more a row)
trees-last [] a row = refl
trees-last (b ∷ rest) a row = ap (more b) (trees-last rest a row)

pub branches-last : (list : List (Tree × Tree)) (arm : Tree × Tree) (row : Branches) → branches_before (list ++ arm ∷ []) row ≡ branches_before list (branch arm.0 arm.1 row)
branches-last [] arm row = refl
branches-last (b ∷ rest) arm row = ap (branch b.0 b.1) (branches-last rest arm row)

-- one turn, which takes the last of those that are left
pub trees-turn : (before list : List Tree) (a : Tree) (row next whole : Trees) → before ≡ list ++ a ∷ [] → next ≡ more a row
    → trees_before before row ≡ whole → trees_before list next ≡ whole
trees-turn before list a row next whole split made p =
    ap (trees_before list) made ∙ sym (trees-last list a row) ∙ ap (λ l. trees_before l row) (sym split) ∙ p

pub branches-turn : (before list : List (Tree × Tree)) (arm : Tree × Tree) (row next whole : Branches) → before ≡ list ++ arm ∷ [] → next ≡ branch arm.0 arm.1 row
    → branches_before before row ≡ whole → branches_before list next ≡ whole
branches-turn before list arm row next whole split made p =
    ap (branches_before list) made ∙ sym (branches-last list arm row) ∙ ap (λ l. branches_before l row) (sym split) ∙ p
