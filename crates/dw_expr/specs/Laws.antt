-- What laws about expressions say beside the definitions.
use Rattle.std.specs.Prelude.{false}
use Rattle.dw_value.specs.declared.kinds.Comparison.TheVariants.{Equal}
use Rattle.dw_value.specs.declared.kinds.Kind.TheVariants.{Bool as Boolean}
use Rattle.dw_value.specs.declared.values.Value.TheVariants.{Truth as Logical}
use Rattle.dw_expr.specs.BoundTree.{BoundTree, BoundTrees, literal, compared, either, none, more}

-- an operand equals the first of these, or the second, and so on; false where there is none
abbrev pub equalities : BoundTree → BoundTrees → BoundTree
equalities a none = literal (Logical false) Boolean
equalities a (more b rest) = either (compared Equal a b) (equalities a rest)
