-- What worked examples speak of: two sources with a row each, and what an expression over them prints or is refused
-- for.
use Rattle.std.specs.Prelude.{ℕ, pos, negsuc, true, List, [], ◌∷◌, ◌++◌, codes, Some, None, Result, Ok, Err}
use Rattle.dw_value.specs.declared.kinds.Op.TheVariants.{Add, Divide}
use Rattle.dw_value.specs.declared.kinds.Comparison.TheVariants.{Equal}
use Rattle.dw_value.specs.declared.kinds.Kind.{Kind}
use Rattle.dw_value.specs.declared.kinds.Kind.TheVariants.{Small, Int, Big, Decimal, Char, Varchar, Date, Bool as Boolean}
use Rattle.dw_value.specs.declared.kinds.Fault.TheVariants.{Range, Zero}
use Rattle.dw_value.specs.declared.values.Value.{Value}
use Rattle.dw_value.specs.declared.values.Value.TheVariants.{Number, Words, Day, Truth as Logical, Null}
use Rattle.dw_value.specs.declared.values.Field.{Field}
use Rattle.dw_value.specs.declared.values.Field.TheVariants.{Shown, Null as NoText}
use Rattle.dw_value.specs.Printed.{shown}
use Rattle.dw_expr.specs.declared.faults.BindFault.{BindFault}
use Rattle.dw_expr.specs.declared.faults.BindFault.TheVariants.{Unknown, Clash, Memory}
use Rattle.dw_expr.specs.declared.sight.NamedColumn.{NamedColumn}
use Rattle.dw_expr.specs.declared.trees.Literal.TheVariants as literals
use Rattle.dw_expr.specs.declared.typed.Wanted.TheVariants.{Anything}
use Rattle.dw_expr.specs.Tree as written
use Rattle.dw_expr.specs.Tree.{Tree}
use Rattle.dw_expr.specs.BoundTree.{BoundTree, kind_of}
use Rattle.dw_expr.specs.Sight.{Sight}
use Rattle.dw_expr.specs.Binding.{bound}
use Rattle.dw_expr.specs.Evaluation.{Outcome, value}

-- a whole number; one with so many digits after its point; a text; NULL
abbrev pub whole : ℕ → Tree
whole n = written.literal (literals.Number (pos n) 0)

abbrev pub part : ℕ → ℕ → Tree
part n scale = written.literal (literals.Number (pos n) scale)

abbrev pub text : List ℕ → Tree
text bytes = written.literal (literals.Words bytes)

abbrev pub unknown : Tree
unknown = written.literal literals.Null

-- a column by its name, and by its source's name and its own
abbrev pub name : List ℕ → Tree
name bytes = written.column None bytes

abbrev pub of_source : List ℕ → List ℕ → Tree
of_source source bytes = written.column (Some source) bytes

-- 1 / 0; 1 / 0 = 1; 2147483647 + 1
abbrev pub by_zero : Tree
by_zero = written.arithmetic Divide (whole 1) (whole 0)

abbrev pub fails : Tree
fails = written.compared Equal by_zero (whole 1)

abbrev pub past_integer : Tree
past_integer = written.arithmetic Add (whole 2147483647) (whole 1)

abbrev named : List ℕ → Kind → NamedColumn
named column kind = record { name = column; kind = kind }

-- a table under the alias x, and one under u
abbrev pub sight : Sight
sight =
    record {
      alias = codes "x";
      columns = named (codes "s") Small
          ∷ named (codes "i") Int
          ∷ named (codes "b") Big
          ∷ named (codes "d") (Decimal 5 2)
          ∷ named (codes "c") (Char 5)
          ∷ named (codes "v") (Varchar 20)
          ∷ named (codes "dt") Date
          ∷ named (codes "bo") Boolean
          ∷ named (codes "n") Int
          ∷ named (codes "k") Int ∷ [];
    }
    ∷ record {
      alias = codes "u";
      columns = named (codes "k") Int
          ∷ named (codes "w") (Varchar 3) ∷ [];
    } ∷ []

-- a joined row of these: 32767, -2147483648, 5, 1.50, 'ab', 'abc', 2024-02-29, true, NULL and 7; 8 and 'xyz'
abbrev pub row : List Value
row = Number (pos 32767) ∷ Number (negsuc 2147483647) ∷ Number (pos 5) ∷ Number (pos 150) ∷ Words (codes "ab")
    ∷ Words (codes "abc") ∷ Day (pos 19782) ∷ Logical true ∷ Null ∷ Number (pos 7)
    ∷ Number (pos 8) ∷ Words (codes "xyz") ∷ []

-- \N, which NULL is printed as
abbrev pub null_text : List ℕ
null_text = 92 ∷ 78 ∷ []

abbrev field_text : Field → List ℕ
field_text (Shown shown) = shown
field_text NoText = null_text

abbrev outcome_text : Kind → Outcome → List ℕ
outcome_text kind (Ok x) = field_text (shown kind x)
outcome_text kind (Err Range) = codes "5 range"
outcome_text kind (Err Zero) = codes "6 zero"

abbrev fault_text : BindFault → List ℕ
fault_text (Unknown column) = codes "2 unknown " ++ column
fault_text Clash = codes "4 clash"
fault_text Memory = codes "memory"

abbrev bound_text : Result BoundTree BindFault → List ℕ
bound_text (Ok a) = outcome_text (kind_of a) (value row a)
bound_text (Err fault) = fault_text fault

-- what an expression prints on that row, or why it is refused
abbrev pub told : Tree → List ℕ
told tree = bound_text (bound sight true Anything tree)

abbrev kind_in : Result BoundTree BindFault → Result Kind BindFault
kind_in (Ok a) = Ok (kind_of a)
kind_in (Err fault) = Err fault

-- the kind of an expression
abbrev pub kind_told : Tree → Result Kind BindFault
kind_told tree = kind_in (bound sight true Anything tree)
