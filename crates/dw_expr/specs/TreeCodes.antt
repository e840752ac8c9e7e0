-- How the logic stores a tree: as a tree of numbers, one to one.
use Rattle.std.proofs.Common.{◌≡◌, refl, ap, arith}
use Rattle.std.specs.Coded.{Coded, coded_ℕ, coded_bool, coded_list, coded_option}
use base.Stored.{Gv, gnil, gnum, gcons}
use Rattle.dw_value.specs.contracts.kinds.Op as op_row
use Rattle.dw_value.specs.contracts.kinds.Comparison as comparison_row
use Rattle.dw_value.specs.contracts.kinds.Kind as kind_row
use Rattle.dw_expr.specs.contracts.trees.Aggregate as aggregate_row
use Rattle.dw_expr.specs.contracts.trees.Literal as literal_row
use Rattle.dw_expr.specs.Tree.{Tree, Trees, Branches, column, literal, negative, arithmetic, joined, compared, both, either, opposite, is_null, between, in_list, like, choice, choice_else, cast, coalesce, count_rows, aggregate, none, more, no_branch, branch}
use Rattle.dw_expr.specs.Stored.{head, tail, tag}

abbrev mutual
  pub tree_code : Tree → Gv
  tree_code (column a0 a1) =
      gcons (gnum 0) (gcons ((coded_option (coded_list coded_ℕ)).code a0) ((coded_list coded_ℕ).code a1))
  tree_code (literal a0) = gcons (gnum 1) (literal_row.the_row.coded.code a0)
  tree_code (negative a0) = gcons (gnum 2) (tree_code a0)
  tree_code (arithmetic a0 a1 a2) =
      gcons (gnum 3) (gcons (op_row.the_row.coded.code a0) (gcons (tree_code a1) (tree_code a2)))
  tree_code (joined a0 a1) = gcons (gnum 4) (gcons (tree_code a0) (tree_code a1))
  tree_code (compared a0 a1 a2) =
      gcons (gnum 5) (gcons (comparison_row.the_row.coded.code a0) (gcons (tree_code a1) (tree_code a2)))
  tree_code (both a0 a1) = gcons (gnum 6) (gcons (tree_code a0) (tree_code a1))
  tree_code (either a0 a1) = gcons (gnum 7) (gcons (tree_code a0) (tree_code a1))
  tree_code (opposite a0) = gcons (gnum 8) (tree_code a0)
  tree_code (is_null a0 a1) = gcons (gnum 9) (gcons (coded_bool.code a0) (tree_code a1))
  tree_code (between a0 a1 a2 a3) =
      gcons (gnum 10) (gcons (coded_bool.code a0) (gcons (tree_code a1) (gcons (tree_code a2) (tree_code a3))))
  tree_code (in_list a0 a1 a2) = gcons (gnum 11) (gcons (coded_bool.code a0) (gcons (tree_code a1) (trees_code a2)))
  tree_code (like a0 a1 a2) = gcons (gnum 12) (gcons (coded_bool.code a0) (gcons (tree_code a1) (tree_code a2)))
  tree_code (choice a0) = gcons (gnum 13) (branches_code a0)
  tree_code (choice_else a0 a1) = gcons (gnum 14) (gcons (branches_code a0) (tree_code a1))
  tree_code (cast a0 a1) = gcons (gnum 15) (gcons (tree_code a0) (kind_row.the_row.coded.code a1))
  tree_code (coalesce a0) = gcons (gnum 16) (trees_code a0)
  tree_code count_rows = gcons (gnum 17) gnil
  tree_code (aggregate a0 a1) = gcons (gnum 18) (gcons (aggregate_row.the_row.coded.code a0) (tree_code a1))

  pub trees_code : Trees → Gv
  trees_code none = gcons (gnum 0) gnil
  trees_code (more a0 a1) = gcons (gnum 1) (gcons (tree_code a0) (trees_code a1))

  pub branches_code : Branches → Gv
  branches_code no_branch = gcons (gnum 0) gnil
  branches_code (branch a0 a1 a2) = gcons (gnum 1) (gcons (tree_code a0) (gcons (tree_code a1) (branches_code a2)))

mutual
  pub tree_inj : (x y : Tree) → tree_code x ≡ tree_code y → x ≡ y
  tree_inj (column a0 a1) (column b0 b1) p = λ i. column
      ((coded_option (coded_list coded_ℕ)).inj a0 b0 (ap (λ g. head (tail g)) p) i)
      ((coded_list coded_ℕ).inj a1 b1 (ap (λ g. tail (tail g)) p) i)
  tree_inj (literal a0) (literal b0) p = λ i. literal (literal_row.the_row.coded.inj a0 b0 (ap (λ g. tail g) p) i)
  tree_inj (negative a0) (negative b0) p = λ i. negative (tree_inj a0 b0 (ap (λ g. tail g) p) i)
  tree_inj (arithmetic a0 a1 a2) (arithmetic b0 b1 b2) p = λ i. arithmetic
      (op_row.the_row.coded.inj a0 b0 (ap (λ g. head (tail g)) p) i)
      (tree_inj a1 b1 (ap (λ g. head (tail (tail g))) p) i)
      (tree_inj a2 b2 (ap (λ g. tail (tail (tail g))) p) i)
  tree_inj (joined a0 a1) (joined b0 b1) p = λ i. joined
      (tree_inj a0 b0 (ap (λ g. head (tail g)) p) i)
      (tree_inj a1 b1 (ap (λ g. tail (tail g)) p) i)
  tree_inj (compared a0 a1 a2) (compared b0 b1 b2) p = λ i. compared
      (comparison_row.the_row.coded.inj a0 b0 (ap (λ g. head (tail g)) p) i)
      (tree_inj a1 b1 (ap (λ g. head (tail (tail g))) p) i)
      (tree_inj a2 b2 (ap (λ g. tail (tail (tail g))) p) i)
  tree_inj (both a0 a1) (both b0 b1) p = λ i. both
      (tree_inj a0 b0 (ap (λ g. head (tail g)) p) i)
      (tree_inj a1 b1 (ap (λ g. tail (tail g)) p) i)
  tree_inj (either a0 a1) (either b0 b1) p = λ i. either
      (tree_inj a0 b0 (ap (λ g. head (tail g)) p) i)
      (tree_inj a1 b1 (ap (λ g. tail (tail g)) p) i)
  tree_inj (opposite a0) (opposite b0) p = λ i. opposite (tree_inj a0 b0 (ap (λ g. tail g) p) i)
  tree_inj (is_null a0 a1) (is_null b0 b1) p = λ i. is_null
      (coded_bool.inj a0 b0 (ap (λ g. head (tail g)) p) i)
      (tree_inj a1 b1 (ap (λ g. tail (tail g)) p) i)
  tree_inj (between a0 a1 a2 a3) (between b0 b1 b2 b3) p = λ i. between
      (coded_bool.inj a0 b0 (ap (λ g. head (tail g)) p) i)
      (tree_inj a1 b1 (ap (λ g. head (tail (tail g))) p) i)
      (tree_inj a2 b2 (ap (λ g. head (tail (tail (tail g)))) p) i)
      (tree_inj a3 b3 (ap (λ g. tail (tail (tail (tail g)))) p) i)
  tree_inj (in_list a0 a1 a2) (in_list b0 b1 b2) p = λ i. in_list
      (coded_bool.inj a0 b0 (ap (λ g. head (tail g)) p) i)
      (tree_inj a1 b1 (ap (λ g. head (tail (tail g))) p) i)
      (trees_inj a2 b2 (ap (λ g. tail (tail (tail g))) p) i)
  tree_inj (like a0 a1 a2) (like b0 b1 b2) p = λ i. like
      (coded_bool.inj a0 b0 (ap (λ g. head (tail g)) p) i)
      (tree_inj a1 b1 (ap (λ g. head (tail (tail g))) p) i)
      (tree_inj a2 b2 (ap (λ g. tail (tail (tail g))) p) i)
  tree_inj (choice a0) (choice b0) p = λ i. choice (branches_inj a0 b0 (ap (λ g. tail g) p) i)
  tree_inj (choice_else a0 a1) (choice_else b0 b1) p = λ i. choice_else
      (branches_inj a0 b0 (ap (λ g. head (tail g)) p) i)
      (tree_inj a1 b1 (ap (λ g. tail (tail g)) p) i)
  tree_inj (cast a0 a1) (cast b0 b1) p = λ i. cast
      (tree_inj a0 b0 (ap (λ g. head (tail g)) p) i)
      (kind_row.the_row.coded.inj a1 b1 (ap (λ g. tail (tail g)) p) i)
  tree_inj (coalesce a0) (coalesce b0) p = λ i. coalesce (trees_inj a0 b0 (ap (λ g. tail g) p) i)
  tree_inj count_rows count_rows p = refl
  tree_inj (aggregate a0 a1) (aggregate b0 b1) p = λ i. aggregate
      (aggregate_row.the_row.coded.inj a0 b0 (ap (λ g. head (tail g)) p) i)
      (tree_inj a1 b1 (ap (λ g. tail (tail g)) p) i)
  tree_inj _ _ p = absurd (omega (arith, ap tag p))

  pub trees_inj : (x y : Trees) → trees_code x ≡ trees_code y → x ≡ y
  trees_inj none none p = refl
  trees_inj (more a0 a1) (more b0 b1) p = λ i. more
      (tree_inj a0 b0 (ap (λ g. head (tail g)) p) i)
      (trees_inj a1 b1 (ap (λ g. tail (tail g)) p) i)
  trees_inj _ _ p = absurd (omega (arith, ap tag p))

  pub branches_inj : (x y : Branches) → branches_code x ≡ branches_code y → x ≡ y
  branches_inj no_branch no_branch p = refl
  branches_inj (branch a0 a1 a2) (branch b0 b1 b2) p = λ i. branch
      (tree_inj a0 b0 (ap (λ g. head (tail g)) p) i)
      (tree_inj a1 b1 (ap (λ g. head (tail (tail g))) p) i)
      (branches_inj a2 b2 (ap (λ g. tail (tail (tail g))) p) i)
  branches_inj _ _ p = absurd (omega (arith, ap tag p))

abbrev pub coded_tree : Coded Tree
coded_tree = record { code = tree_code; inj = tree_inj }

abbrev pub coded_trees : Coded Trees
coded_trees = record { code = trees_code; inj = trees_inj }

abbrev pub coded_branches : Coded Branches
coded_branches = record { code = branches_code; inj = branches_inj }
