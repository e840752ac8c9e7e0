-- What the token at a place is to the grammar of expressions, and how tightly operators bind. Places are counted in
-- tokens, from 0. The levels are those of the Amazon Redshift guide (operators), in this project's profile.
use Rattle.std.specs.Prelude.{ℕ, ◌+◌, ◌==◌, ◌||◌, Bool, true, false, Option, Some, None, List, [], ◌∷◌, slice_get, codes, if◌then◌else◌}
use Rattle.std.specs.Option.{option_and_then}
use Rattle.dw_lex.specs.declared.signs.Sign.{Sign}
use Rattle.dw_lex.specs.declared.signs.Sign.TheVariants as sign
use Rattle.dw_lex.specs.declared.token.Form.{Form}
use Rattle.dw_lex.specs.declared.token.Form.TheVariants as form
use Rattle.dw_lex.specs.declared.token.Token.{Token}
use Rattle.dw_value.specs.declared.kinds.Comparison.TheVariants as comparison
use Rattle.dw_value.specs.declared.kinds.Op.TheVariants as op
use Rattle.dw_expr.specs.declared.trees.Aggregate.{Aggregate}
use Rattle.dw_expr.specs.declared.trees.Aggregate.TheVariants as function
use Rattle.dw_expr.specs.Tree as t
use Rattle.dw_expr.specs.Tree.{Tree}
use Rattle.dw_parse_words.specs.Words.{meant, meant_at}
use Rattle.dw_parse_expr.specs.declared.marks.Mark.{Mark}
use Rattle.dw_parse_expr.specs.declared.marks.Mark.TheVariants.{Or, And, Not, Is, Null, True, False, Between, In, Like, Case, When, Then, Else, End, As, Distinct, Compared, Plus, Minus, Join, Star, Slash, Percent, Cast, Open, Close, Comma, Dot, Text}
use Rattle.dw_parse_expr.specs.declared.marks.Operator.{Operator}
use Rattle.dw_parse_expr.specs.declared.marks.Operator.TheVariants as operator

-- the words of the grammar, all of them reserved
abbrev pub mark_words : List (List ℕ × Mark)
mark_words =
    (codes "or", Or) ∷ (codes "and", And) ∷ (codes "not", Not) ∷ (codes "is", Is) ∷ (codes "null", Null)
    ∷ (codes "true", True) ∷ (codes "false", False) ∷ (codes "between", Between) ∷ (codes "in", In)
    ∷ (codes "like", Like) ∷ (codes "case", Case) ∷ (codes "when", When) ∷ (codes "then", Then)
    ∷ (codes "else", Else) ∷ (codes "end", End) ∷ (codes "as", As) ∷ (codes "distinct", Distinct) ∷ []

abbrev pub sign_mark : Sign → Mark
sign_mark sign.Open = Open
sign_mark sign.Close = Close
sign_mark sign.Comma = Comma
sign_mark sign.Dot = Dot
sign_mark sign.Plus = Plus
sign_mark sign.Minus = Minus
sign_mark sign.Star = Star
sign_mark sign.Slash = Slash
sign_mark sign.Percent = Percent
sign_mark sign.Equal = Compared comparison.Equal
sign_mark sign.Unequal = Compared comparison.Unequal
sign_mark sign.Less = Compared comparison.Less
sign_mark sign.AtMost = Compared comparison.AtMost
sign_mark sign.Greater = Compared comparison.Greater
sign_mark sign.AtLeast = Compared comparison.AtLeast
sign_mark sign.Join = Join
sign_mark sign.Cast = Cast

-- by the form of a token; a quoted name is no word of the grammar
abbrev pub mark_by : Form → Token → Option Mark
mark_by form.Name token = meant mark_words token
mark_by form.Quoted token = None
mark_by form.Number token = None
mark_by form.Words token = Some Text
mark_by (form.Sign sign) token = Some (sign_mark sign)

abbrev pub mark_of : Token → Option Mark
mark_of token = mark_by token.form token

abbrev pub mark_at : List Token → ℕ → Option Mark
mark_at tokens i = option_and_then mark_of (slice_get tokens i)

-- the aggregates with one argument; these words are names where no parenthesis comes after them
abbrev pub aggregate_words : List (List ℕ × Aggregate)
aggregate_words =
    (codes "count", function.Count) ∷ (codes "sum", function.Sum) ∷ (codes "min", function.Min)
    ∷ (codes "max", function.Max) ∷ []

abbrev pub aggregate_at : List Token → ℕ → Option Aggregate
aggregate_at tokens i = meant_at aggregate_words tokens i

-- `[not]`
abbrev pub is_not : Option Mark → Bool
is_not (Some Not) = true
is_not _ = false

abbrev pub not_at : List Token → ℕ → Bool
not_at tokens i = is_not (mark_at tokens i)

abbrev pub past_not : List Token → ℕ → ℕ
past_not tokens i = if not_at tokens i then i + 1 else i

-- The levels, the tightest first: 0 an atom, 1 `::`, 2 a minus before an expression, 3 `* / %`, 4 `+ - ||`, 5 comparisons
-- and tests, 6 `not`, 7 `and`, 8 `or`. This is the level at which a mark after an expression goes on with it; what never
-- does has 10.
abbrev pub level_of : Option Mark → ℕ
level_of (Some Or) = 8
level_of (Some And) = 7
level_of (Some (Compared c)) = 5
level_of (Some Is) = 5
level_of (Some Not) = 5
level_of (Some Between) = 5
level_of (Some In) = 5
level_of (Some Like) = 5
level_of (Some Plus) = 4
level_of (Some Minus) = 4
level_of (Some Join) = 4
level_of (Some Star) = 3
level_of (Some Slash) = 3
level_of (Some Percent) = 3
level_of (Some Cast) = 1
level_of (Some Open) = 0
level_of (Some Dot) = 0
level_of (Some Text) = 0
level_of _ = 10

-- the operator between two expressions
abbrev pub operator_of : Option Mark → Option Operator
operator_of (Some Or) = Some operator.Or
operator_of (Some And) = Some operator.And
operator_of (Some (Compared c)) = Some (operator.Compared c)
operator_of (Some Plus) = Some (operator.Arithmetic op.Add)
operator_of (Some Minus) = Some (operator.Arithmetic op.Subtract)
operator_of (Some Join) = Some operator.Joined
operator_of (Some Star) = Some (operator.Arithmetic op.Multiply)
operator_of (Some Slash) = Some (operator.Arithmetic op.Divide)
operator_of (Some Percent) = Some (operator.Arithmetic op.Remainder)
operator_of _ = None

abbrev pub made : Operator → Tree → Tree → Tree
made operator.Or a b = t.either a b
made operator.And a b = t.both a b
made (operator.Compared c) a b = t.compared c a b
made (operator.Arithmetic o) a b = t.arithmetic o a b
made operator.Joined a b = t.joined a b

-- the levels at which operators group to the left
abbrev pub groups : ℕ → Bool
groups k = (k == 1) || (k == 3) || (k == 4) || (k == 7) || (k == 8)

-- the level of an operator before an expression, or 0
abbrev pub prefix_level : Option Mark → ℕ
prefix_level (Some Not) = 6
prefix_level (Some Minus) = 2
prefix_level _ = 0

abbrev pub prefix_made : Option Mark → Tree → Tree
prefix_made (Some Not) a = t.opposite a
prefix_made _ a = t.negative a

-- a mark's number in the order of its type; the comparisons share one
abbrev pub rank : Mark → ℕ
rank Or = 0
rank And = 1
rank Not = 2
rank Is = 3
rank Null = 4
rank True = 5
rank False = 6
rank Between = 7
rank In = 8
rank Like = 9
rank Case = 10
rank When = 11
rank Then = 12
rank Else = 13
rank End = 14
rank As = 15
rank Distinct = 16
rank (Compared c) = 17
rank Plus = 18
rank Minus = 19
rank Join = 20
rank Star = 21
rank Slash = 22
rank Percent = 23
rank Cast = 24
rank Open = 25
rank Close = 26
rank Comma = 27
rank Dot = 28
rank Text = 29

abbrev pub is_mark : Mark → Option Mark → Bool
is_mark m None = false
is_mark m (Some n) = rank n == rank m

abbrev pub marked : List Token → Mark → ℕ → Bool
marked tokens m i = is_mark m (mark_at tokens i)
