-- An expression that reads no column is evaluated alike on any rows.
use Rattle.std.proofs.Common.{◌≡◌, true, ◌&&◌, List, refl}
use Rattle.std.proofs.lemmas.Bool.{and_parts}
use Rattle.dw_value.specs.declared.kinds.Kind.{Kind}
use Rattle.dw_value.specs.declared.values.Value.{Value}
use Rattle.dw_expr.specs.BoundTree as t
use Rattle.dw_expr.specs.BoundTree.{BoundTree, BoundTrees, BoundBranches, kind_of}
use Rattle.dw_expr.specs.Evaluation.{Outcome, value, any_equal, chosen, first_known}
use Rattle.dw_expr.specs.Safety.{reads_nothing, all_read_nothing, branches_read_nothing}

mutual
  pub alike : (row other : List Value) (a : BoundTree) → reads_nothing a ≡ true → value row a ≡ value other a
  alike row other (t.column source place kind) p = cc
  alike row other (t.literal x kind) p = refl
  alike row other (t.arithmetic op a b kind) p =
      let each = and_parts (reads_nothing a) (reads_nothing b) p in
      simp (alike row other a each.0, alike row other b each.1)
  alike row other (t.joined a b) p =
      let each = and_parts (reads_nothing a) (reads_nothing b) p in
      simp (alike row other a each.0, alike row other b each.1)
  alike row other (t.compared comparison a b) p =
      let each = and_parts (reads_nothing a) (reads_nothing b) p in
      simp (alike row other a each.0, alike row other b each.1)
  alike row other (t.both a b) p =
      let each = and_parts (reads_nothing a) (reads_nothing b) p in
      simp (alike row other a each.0, alike row other b each.1)
  alike row other (t.either a b) p =
      let each = and_parts (reads_nothing a) (reads_nothing b) p in
      simp (alike row other a each.0, alike row other b each.1)
  alike row other (t.opposite a) p = simp (alike row other a p)
  alike row other (t.is_null negated a) p = simp (alike row other a p)
  alike row other (t.between negated a low high) p =
      let each = and_parts (reads_nothing a) (reads_nothing low && reads_nothing high) p in
      let sides = and_parts (reads_nothing low) (reads_nothing high) each.1 in
      simp (alike row other a each.0, alike row other low sides.0, alike row other high sides.1)
  alike row other (t.in_list negated a list) p =
      let each = and_parts (reads_nothing a) (all_read_nothing list) p in
      simp (alike row other a each.0, equal_alike row other (kind_of a) (value other a) list each.1)
  alike row other (t.like negated a pattern) p =
      let each = and_parts (reads_nothing a) (reads_nothing pattern) p in
      simp (alike row other a each.0, alike row other pattern each.1)
  alike row other (t.choice branches kind) p = chosen_alike row other kind branches _ p
  alike row other (t.choice_else branches default kind) p =
      let each = and_parts (branches_read_nothing branches) (reads_nothing default) p in
      simp (alike row other default each.1) (chosen_alike row other kind branches _ each.0)
  alike row other (t.cast a kind) p = simp (alike row other a p)
  alike row other (t.coalesce list kind) p = known_alike row other kind list p
  alike row other t.count_rows p = refl
  alike row other (t.aggregate function a kind) p = refl

  equal_alike : (row other : List Value) (kind : Kind) (operand : Outcome) (list : BoundTrees)
      → all_read_nothing list ≡ true → any_equal row kind operand list ≡ any_equal other kind operand list
  equal_alike row other kind operand t.none p = refl
  equal_alike row other kind operand (t.more a rest) p =
      let each = and_parts (reads_nothing a) (all_read_nothing rest) p in
      simp (alike row other a each.0, equal_alike row other kind operand rest each.1)

  chosen_alike : (row other : List Value) (kind : Kind) (branches : BoundBranches) (default : Outcome)
      → branches_read_nothing branches ≡ true → chosen row kind branches default ≡ chosen other kind branches default
  chosen_alike row other kind t.no_branch default p = refl
  chosen_alike row other kind (t.branch condition result rest) default p =
      let each = and_parts (reads_nothing condition) (reads_nothing result && branches_read_nothing rest) p in
      let after = and_parts (reads_nothing result) (branches_read_nothing rest) each.1 in
      let first = alike row other condition each.0 in
      simp (first, alike row other result after.0, chosen_alike row other kind rest default after.1)

  known_alike : (row other : List Value) (kind : Kind) (list : BoundTrees)
      → all_read_nothing list ≡ true → first_known row kind list ≡ first_known other kind list
  known_alike row other kind t.none p = refl
  known_alike row other kind (t.more a rest) p =
      let each = and_parts (reads_nothing a) (all_read_nothing rest) p in
      simp (alike row other a each.0, known_alike row other kind rest each.1)
