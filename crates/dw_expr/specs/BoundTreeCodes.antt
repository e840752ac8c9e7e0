-- How the logic stores a tree: as a tree of numbers, one to one.
use Rattle.std.proofs.Common.{◌≡◌, refl, ap, arith}
use Rattle.std.specs.Coded.{Coded, coded_ℕ, coded_bool}
use base.Stored.{Gv, gnil, gnum, gcons}
use Rattle.dw_value.specs.contracts.kinds.Op as op_row
use Rattle.dw_value.specs.contracts.kinds.Comparison as comparison_row
use Rattle.dw_value.specs.contracts.kinds.Kind as kind_row
use Rattle.dw_value.specs.contracts.values.Value as value_row
use Rattle.dw_expr.specs.contracts.trees.Aggregate as aggregate_row
use Rattle.dw_expr.specs.BoundTree.{BoundTree, BoundTrees, BoundBranches, column, literal, arithmetic, joined, compared, both, either, opposite, is_null, between, in_list, like, choice, choice_else, cast, coalesce, count_rows, aggregate, none, more, no_branch, branch}
use Rattle.dw_expr.specs.Stored.{head, tail, tag}

abbrev mutual
  pub bound_code : BoundTree → Gv
  bound_code (column a0 a1 a2) =
      gcons (gnum 0) (gcons (coded_ℕ.code a0) (gcons (coded_ℕ.code a1) (kind_row.the_row.coded.code a2)))
  bound_code (literal a0 a1) =
      gcons (gnum 1) (gcons (value_row.the_row.coded.code a0) (kind_row.the_row.coded.code a1))
  bound_code (arithmetic a0 a1 a2 a3) =
      gcons (gnum 2) (gcons (op_row.the_row.coded.code a0) (gcons (bound_code a1) (gcons (bound_code a2) (kind_row.the_row.coded.code a3))))
  bound_code (joined a0 a1) = gcons (gnum 3) (gcons (bound_code a0) (bound_code a1))
  bound_code (compared a0 a1 a2) =
      gcons (gnum 4) (gcons (comparison_row.the_row.coded.code a0) (gcons (bound_code a1) (bound_code a2)))
  bound_code (both a0 a1) = gcons (gnum 5) (gcons (bound_code a0) (bound_code a1))
  bound_code (either a0 a1) = gcons (gnum 6) (gcons (bound_code a0) (bound_code a1))
  bound_code (opposite a0) = gcons (gnum 7) (bound_code a0)
  bound_code (is_null a0 a1) = gcons (gnum 8) (gcons (coded_bool.code a0) (bound_code a1))
  bound_code (between a0 a1 a2 a3) =
      gcons (gnum 9) (gcons (coded_bool.code a0) (gcons (bound_code a1) (gcons (bound_code a2) (bound_code a3))))
  bound_code (in_list a0 a1 a2) =
      gcons (gnum 10) (gcons (coded_bool.code a0) (gcons (bound_code a1) (bounds_code a2)))
  bound_code (like a0 a1 a2) = gcons (gnum 11) (gcons (coded_bool.code a0) (gcons (bound_code a1) (bound_code a2)))
  bound_code (choice a0 a1) = gcons (gnum 12) (gcons (arms_code a0) (kind_row.the_row.coded.code a1))
  bound_code (choice_else a0 a1 a2) =
      gcons (gnum 13) (gcons (arms_code a0) (gcons (bound_code a1) (kind_row.the_row.coded.code a2)))
  bound_code (cast a0 a1) = gcons (gnum 14) (gcons (bound_code a0) (kind_row.the_row.coded.code a1))
  bound_code (coalesce a0 a1) = gcons (gnum 15) (gcons (bounds_code a0) (kind_row.the_row.coded.code a1))
  bound_code count_rows = gcons (gnum 16) gnil
  bound_code (aggregate a0 a1 a2) =
      gcons (gnum 17) (gcons (aggregate_row.the_row.coded.code a0) (gcons (bound_code a1) (kind_row.the_row.coded.code a2)))

  pub bounds_code : BoundTrees → Gv
  bounds_code none = gcons (gnum 0) gnil
  bounds_code (more a0 a1) = gcons (gnum 1) (gcons (bound_code a0) (bounds_code a1))

  pub arms_code : BoundBranches → Gv
  arms_code no_branch = gcons (gnum 0) gnil
  arms_code (branch a0 a1 a2) = gcons (gnum 1) (gcons (bound_code a0) (gcons (bound_code a1) (arms_code a2)))

mutual
  pub bound_inj : (x y : BoundTree) → bound_code x ≡ bound_code y → x ≡ y
  bound_inj (column a0 a1 a2) (column b0 b1 b2) p = λ i. column
      (coded_ℕ.inj a0 b0 (ap (λ g. head (tail g)) p) i)
      (coded_ℕ.inj a1 b1 (ap (λ g. head (tail (tail g))) p) i)
      (kind_row.the_row.coded.inj a2 b2 (ap (λ g. tail (tail (tail g))) p) i)
  bound_inj (literal a0 a1) (literal b0 b1) p = λ i. literal
      (value_row.the_row.coded.inj a0 b0 (ap (λ g. head (tail g)) p) i)
      (kind_row.the_row.coded.inj a1 b1 (ap (λ g. tail (tail g)) p) i)
  bound_inj (arithmetic a0 a1 a2 a3) (arithmetic b0 b1 b2 b3) p = λ i. arithmetic
      (op_row.the_row.coded.inj a0 b0 (ap (λ g. head (tail g)) p) i)
      (bound_inj a1 b1 (ap (λ g. head (tail (tail g))) p) i)
      (bound_inj a2 b2 (ap (λ g. head (tail (tail (tail g)))) p) i)
      (kind_row.the_row.coded.inj a3 b3 (ap (λ g. tail (tail (tail (tail g)))) p) i)
  bound_inj (joined a0 a1) (joined b0 b1) p = λ i. joined
      (bound_inj a0 b0 (ap (λ g. head (tail g)) p) i)
      (bound_inj a1 b1 (ap (λ g. tail (tail g)) p) i)
  bound_inj (compared a0 a1 a2) (compared b0 b1 b2) p = λ i. compared
      (comparison_row.the_row.coded.inj a0 b0 (ap (λ g. head (tail g)) p) i)
      (bound_inj a1 b1 (ap (λ g. head (tail (tail g))) p) i)
      (bound_inj a2 b2 (ap (λ g. tail (tail (tail g))) p) i)
  bound_inj (both a0 a1) (both b0 b1) p = λ i. both
      (bound_inj a0 b0 (ap (λ g. head (tail g)) p) i)
      (bound_inj a1 b1 (ap (λ g. tail (tail g)) p) i)
  bound_inj (either a0 a1) (either b0 b1) p = λ i. either
      (bound_inj a0 b0 (ap (λ g. head (tail g)) p) i)
      (bound_inj a1 b1 (ap (λ g. tail (tail g)) p) i)
  bound_inj (opposite a0) (opposite b0) p = λ i. opposite (bound_inj a0 b0 (ap (λ g. tail g) p) i)
  bound_inj (is_null a0 a1) (is_null b0 b1) p = λ i. is_null
      (coded_bool.inj a0 b0 (ap (λ g. head (tail g)) p) i)
      (bound_inj a1 b1 (ap (λ g. tail (tail g)) p) i)
  bound_inj (between a0 a1 a2 a3) (between b0 b1 b2 b3) p = λ i. between
      (coded_bool.inj a0 b0 (ap (λ g. head (tail g)) p) i)
      (bound_inj a1 b1 (ap (λ g. head (tail (tail g))) p) i)
      (bound_inj a2 b2 (ap (λ g. head (tail (tail (tail g)))) p) i)
      (bound_inj a3 b3 (ap (λ g. tail (tail (tail (tail g)))) p) i)
  bound_inj (in_list a0 a1 a2) (in_list b0 b1 b2) p = λ i. in_list
      (coded_bool.inj a0 b0 (ap (λ g. head (tail g)) p) i)
      (bound_inj a1 b1 (ap (λ g. head (tail (tail g))) p) i)
      (bounds_inj a2 b2 (ap (λ g. tail (tail (tail g))) p) i)
  bound_inj (like a0 a1 a2) (like b0 b1 b2) p = λ i. like
      (coded_bool.inj a0 b0 (ap (λ g. head (tail g)) p) i)
      (bound_inj a1 b1 (ap (λ g. head (tail (tail g))) p) i)
      (bound_inj a2 b2 (ap (λ g. tail (tail (tail g))) p) i)
  bound_inj (choice a0 a1) (choice b0 b1) p = λ i. choice
      (arms_inj a0 b0 (ap (λ g. head (tail g)) p) i)
      (kind_row.the_row.coded.inj a1 b1 (ap (λ g. tail (tail g)) p) i)
  bound_inj (choice_else a0 a1 a2) (choice_else b0 b1 b2) p = λ i. choice_else
      (arms_inj a0 b0 (ap (λ g. head (tail g)) p) i)
      (bound_inj a1 b1 (ap (λ g. head (tail (tail g))) p) i)
      (kind_row.the_row.coded.inj a2 b2 (ap (λ g. tail (tail (tail g))) p) i)
  bound_inj (cast a0 a1) (cast b0 b1) p = λ i. cast
      (bound_inj a0 b0 (ap (λ g. head (tail g)) p) i)
      (kind_row.the_row.coded.inj a1 b1 (ap (λ g. tail (tail g)) p) i)
  bound_inj (coalesce a0 a1) (coalesce b0 b1) p = λ i. coalesce
      (bounds_inj a0 b0 (ap (λ g. head (tail g)) p) i)
      (kind_row.the_row.coded.inj a1 b1 (ap (λ g. tail (tail g)) p) i)
  bound_inj count_rows count_rows p = refl
  bound_inj (aggregate a0 a1 a2) (aggregate b0 b1 b2) p = λ i. aggregate
      (aggregate_row.the_row.coded.inj a0 b0 (ap (λ g. head (tail g)) p) i)
      (bound_inj a1 b1 (ap (λ g. head (tail (tail g))) p) i)
      (kind_row.the_row.coded.inj a2 b2 (ap (λ g. tail (tail (tail g))) p) i)
  bound_inj _ _ p = absurd (omega (arith, ap tag p))

  pub bounds_inj : (x y : BoundTrees) → bounds_code x ≡ bounds_code y → x ≡ y
  bounds_inj none none p = refl
  bounds_inj (more a0 a1) (more b0 b1) p = λ i. more
      (bound_inj a0 b0 (ap (λ g. head (tail g)) p) i)
      (bounds_inj a1 b1 (ap (λ g. tail (tail g)) p) i)
  bounds_inj _ _ p = absurd (omega (arith, ap tag p))

  pub arms_inj : (x y : BoundBranches) → arms_code x ≡ arms_code y → x ≡ y
  arms_inj no_branch no_branch p = refl
  arms_inj (branch a0 a1 a2) (branch b0 b1 b2) p = λ i. branch
      (bound_inj a0 b0 (ap (λ g. head (tail g)) p) i)
      (bound_inj a1 b1 (ap (λ g. head (tail (tail g))) p) i)
      (arms_inj a2 b2 (ap (λ g. tail (tail (tail g))) p) i)
  arms_inj _ _ p = absurd (omega (arith, ap tag p))

abbrev pub coded_bound : Coded BoundTree
coded_bound = record { code = bound_code; inj = bound_inj }

abbrev pub coded_bounds : Coded BoundTrees
coded_bounds = record { code = bounds_code; inj = bounds_inj }

abbrev pub coded_arms : Coded BoundBranches
coded_arms = record { code = arms_code; inj = arms_inj }
