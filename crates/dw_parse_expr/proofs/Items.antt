-- Trees and branches in a row, as lists.
use Rattle.std.proofs.Common.{◌≡◌, ℕ, zero, suc, ◌+◌, ◌<◌, max, true, false, Option, Some, List, [], ◌∷◌, ◌++◌, refl, ap, arith}
use Rattle.dw_lex.specs.declared.token.Token.{Token}
use Rattle.dw_expr.specs.Tree as t
use Rattle.dw_expr.specs.Tree.{Tree, Trees, Branches}
use Rattle.dw_parse_expr.specs.declared.marks.Mark.TheVariants as mark
use Rattle.dw_parse_expr.specs.Marks.{marked}
use Rattle.dw_parse_expr.specs.Reading.{Found, Several, Arms, Reader, below, trees, branches, listed, arm_at, armed}

abbrev pub items_of : Trees → List Tree
items_of t.none = []
items_of (t.more a rest) = a ∷ items_of rest

pub trees_items : (all : Trees) → trees (items_of all) ≡ all
trees_items t.none = refl
trees_items (t.more a rest) = ap (t.more a) (trees_items rest)

abbrev pub arms_of : Branches → List (Tree × Tree)
arms_of t.no_branch = []
arms_of (t.branch a b rest) = (a, b) ∷ arms_of rest

pub branches_items : (all : Branches) → branches (arms_of all) ≡ all
branches_items t.no_branch = refl
branches_items (t.branch a b rest) = ap (t.branch a b) (branches_items rest)

pub below_limit : (limit i j count : ℕ) → count < limit + i → i < j → count < below limit + (j + 1)
below_limit zero i j count big after = omega arith
below_limit (suc limit) i j count big after = omega arith

module _ (tokens : List Token) where
  pub listed_last : (x : ℕ → Option Found) (limit d i : ℕ) (done : List Tree) (a : Found) → 0 < limit → x i ≡ Some a
      → marked tokens mark.Comma a.2 ≡ false → listed tokens x limit done d i ≡ Some (done ++ a.0 ∷ [], max d a.1, a.2)
  listed_last x zero d i done a some e ends = absurd (omega arith)
  listed_last x (suc limit) d i done a some e ends = rw (e, ends) refl

  pub listed_more : (x : ℕ → Option Found) (limit d i : ℕ) (done : List Tree) (a : Found) → 0 < limit → x i ≡ Some a
      → marked tokens mark.Comma a.2 ≡ true
      → listed tokens x limit done d i ≡ listed tokens x (below limit) (done ++ a.0 ∷ []) (max d a.1) (a.2 + 1)
  listed_more x zero d i done a some e on = absurd (omega arith)
  listed_more x (suc limit) d i done a some e on = rw (e, on) refl

  pub armed_last : (inner : Reader) (limit d i : ℕ) (done : List (Tree × Tree)) (one : (Tree × Tree) × ℕ × ℕ) → 0 < limit → arm_at tokens inner i ≡ Some one
      → marked tokens mark.When one.2 ≡ false → armed tokens inner limit done d i ≡ Some (done ++ one.0 ∷ [], max d one.1, one.2)
  armed_last inner zero d i done one some e ends = absurd (omega arith)
  armed_last inner (suc limit) d i done one some e ends = rw (e, ends) refl

  pub armed_more : (inner : Reader) (limit d i : ℕ) (done : List (Tree × Tree)) (one : (Tree × Tree) × ℕ × ℕ) → 0 < limit → arm_at tokens inner i ≡ Some one
      → marked tokens mark.When one.2 ≡ true
      → armed tokens inner limit done d i ≡ armed tokens inner (below limit) (done ++ one.0 ∷ []) (max d one.1) (one.2 + 1)
  armed_more inner zero d i done one some e on = absurd (omega arith)
  armed_more inner (suc limit) d i done one some e on = rw (e, on) refl

pub same_several : {m n : List Tree} {d e : ℕ} (j : ℕ) → m ≡ n → d ≡ e → ◌≡◌ {A = Option Several} (Some (m, d, j)) (Some (n, e, j))
same_several j x y = cc

pub same_arms : {m n : List (Tree × Tree)} {d e : ℕ} (j : ℕ) → m ≡ n → d ≡ e → ◌≡◌ {A = Option Arms} (Some (m, d, j)) (Some (n, e, j))
same_arms j x y = cc

-- the same expression at the same place
pub same_found : {a b : Tree} {d e j l : ℕ} → a ≡ b → d ≡ e → j ≡ l → ◌≡◌ {A = Option Found} (Some (a, d, j)) (Some (b, e, l))
same_found x y z = cc
