-- The reading of expressions: what a parser that looks a token ahead makes of them, at most so deep. Each reading gives
-- what it found at a place, how deep that is, and the place after it.
use Rattle.std.specs.Prelude.{ℕ, zero, suc, ◌+◌, ◌==◌, max, true, false, ◌&&◌, nat_lt, pos, if◌then◌else◌, Option, Some, None, List, [], ◌∷◌, ◌++◌, length, codes}
use Rattle.std.specs.Option.{option_map, option_and_then}
use Rattle.dw_lex.specs.declared.token.Token.{Token}
use Rattle.dw_value.specs.declared.kinds.Kind.{Kind}
use Rattle.dw_expr.specs.declared.trees.Aggregate.{Aggregate}
use Rattle.dw_expr.specs.declared.trees.Aggregate.TheVariants.{CountDistinct}
use Rattle.dw_expr.specs.declared.trees.Literal.TheVariants as l
use Rattle.dw_expr.specs.Tree as t
use Rattle.dw_expr.specs.Tree.{Tree, Trees, Branches}
use Rattle.dw_parse_words.specs.Words.{word_at, name_at}
use Rattle.dw_parse_words.specs.Literals.{digits_at, text_at}
use Rattle.dw_parse_words.specs.KindReading.{kind_at}
use Rattle.dw_parse_expr.specs.declared.marks.Mark.{Mark}
use Rattle.dw_parse_expr.specs.declared.marks.Mark.TheVariants as mark
use Rattle.dw_parse_expr.specs.declared.marks.Operator.{Operator}
use Rattle.dw_parse_expr.specs.Marks.{marked, mark_at, aggregate_at, not_at, past_not, level_of, operator_of, made, groups, prefix_level, prefix_made}

-- an expression, its depth, and the place after it
abbrev pub Found : Type 0
Found = Tree × ℕ × ℕ

-- several, the depth of the deepest, and the place after them
abbrev pub Several : Type 0
Several = List Tree × ℕ × ℕ

-- branches of CASE as conditions and results, the depth of the deepest, and the place after them
abbrev pub Arms : Type 0
Arms = List (Tree × Tree) × ℕ × ℕ

-- a reading of a level from a place on
abbrev pub Reader : Type 0
Reader = ℕ → ℕ → Option Found

abbrev pub trees : List Tree → Trees
trees [] = t.none
trees (a ∷ rest) = t.more a (trees rest)

abbrev pub branches : List (Tree × Tree) → Branches
branches [] = t.no_branch
branches (arm ∷ rest) = t.branch arm.0 arm.1 (branches rest)

abbrev pub below : ℕ → ℕ
below zero = zero
below (suc k) = k

-- an atom of one token or more, which is 1 deep
abbrev pub atom : Tree → ℕ → Option Found
atom tree j = Some (tree, 1, j)

-- what was found, one deeper, where this mark closes it
abbrev pub closed : List Token → Mark → (Tree → Tree) → Found → Option Found
closed tokens mark make a = if marked tokens mark a.2 then Some (make a.0, suc a.1, a.2 + 1) else None

-- `a {, a}`: one after the other as long as a comma stands between, at most so many
abbrev pub listed : List Token → (ℕ → Option Found) → ℕ → List Tree → ℕ → ℕ → Option Several
listed tokens x zero done d i = None
listed tokens x (suc limit) done d i =
    option_and_then (λ (one : Found). if marked tokens mark.Comma one.2
    then listed tokens x limit (done ++ one.0 ∷ []) (max d one.1) (one.2 + 1)
    else Some (done ++ one.0 ∷ [], max d one.1, one.2)) (x i)

abbrev pub listed_at : List Token → Reader → ℕ → Option Several
listed_at tokens inner i = listed tokens (inner 8) (length tokens) [] 0 i

-- `a then b`
abbrev pub arm_result : List Token → Reader → Found → Option ((Tree × Tree) × ℕ × ℕ)
arm_result tokens inner a =
    if marked tokens mark.Then a.2
    then option_map (λ (b : Found). ((a.0, b.0), max a.1 b.1, b.2)) (inner 8 (a.2 + 1)) else None

abbrev pub arm_at : List Token → Reader → ℕ → Option ((Tree × Tree) × ℕ × ℕ)
arm_at tokens inner i = option_and_then (arm_result tokens inner) (inner 8 i)

-- `a then b {when a then b}`
abbrev pub armed : List Token → Reader → ℕ → List (Tree × Tree) → ℕ → ℕ → Option Arms
armed tokens inner zero done d i = None
armed tokens inner (suc limit) done d i =
    option_and_then (λ (one : (Tree × Tree) × ℕ × ℕ). if marked tokens mark.When one.2
    then armed tokens inner limit (done ++ one.0 ∷ []) (max d one.1) (one.2 + 1)
    else Some (done ++ one.0 ∷ [], max d one.1, one.2)) (arm_at tokens inner i)

-- CASE from its first condition on
abbrev pub otherwise : List Token → Arms → Found → Option Found
otherwise tokens arms c =
    if marked tokens mark.End c.2 then Some (t.choice_else (branches arms.0) c.0, suc (max arms.1 c.1), c.2 + 1) else None

abbrev pub case_after : List Token → Reader → Arms → Option Found
case_after tokens inner arms =
    if marked tokens mark.End arms.2 then Some (t.choice (branches arms.0), suc arms.1, arms.2 + 1)
    else if marked tokens mark.Else arms.2 then option_and_then (otherwise tokens arms) (inner 8 (arms.2 + 1))
    else None

abbrev pub case_at : List Token → Reader → ℕ → Option Found
case_at tokens inner i =
    if marked tokens mark.When (i + 1)
    then option_and_then (case_after tokens inner) (armed tokens inner (length tokens) [] 0 (i + 2)) else None

-- CAST after its expression
abbrev pub cast_closed : List Token → Found → Kind × ℕ → Option Found
cast_closed tokens a kind =
    if marked tokens mark.Close kind.1 then Some (t.cast a.0 kind.0, suc a.1, kind.1 + 1) else None

abbrev pub as_kind : List Token → Found → Option Found
as_kind tokens a =
    if marked tokens mark.As a.2 then option_and_then (cast_closed tokens a) (kind_at tokens (a.2 + 1)) else None

-- COALESCE after its arguments
abbrev pub coalesced : List Token → Several → Option Found
coalesced tokens all =
    if marked tokens mark.Close all.2 then Some (t.coalesce (trees all.0), suc all.1, all.2 + 1) else None

-- COUNT from its parenthesis on
abbrev pub rows_counted : List Token → ℕ → Option Found
rows_counted tokens i = if marked tokens mark.Close (i + 3) then Some (t.count_rows, 1, i + 4) else None

abbrev pub aggregate_of : List Token → Reader → Aggregate → ℕ → Option Found
aggregate_of tokens inner function i = option_and_then (closed tokens mark.Close (t.aggregate function)) (inner 8 i)

abbrev pub count_at : List Token → Reader → ℕ → Aggregate → Option Found
count_at tokens inner i function =
    if word_at (codes "count") tokens i && marked tokens mark.Star (i + 2) then rows_counted tokens i
    else if word_at (codes "count") tokens i && marked tokens mark.Distinct (i + 2)
    then aggregate_of tokens inner CountDistinct (i + 3)
    else aggregate_of tokens inner function (i + 2)

-- a name with a parenthesis after it
abbrev pub call_at : List Token → Reader → ℕ → Option Found
call_at tokens inner i =
    if word_at (codes "cast") tokens i then option_and_then (as_kind tokens) (inner 8 (i + 2))
    else if word_at (codes "coalesce") tokens i then option_and_then (coalesced tokens) (listed_at tokens inner (i + 2))
    else option_and_then (count_at tokens inner i) (aggregate_at tokens i)

-- `name . name`, `date 'text'`, a call, or `name`
abbrev pub date_at : List Token → ℕ → Option Found
date_at tokens i =
    if word_at (codes "date") tokens i
    then option_map (λ said. (t.literal (l.Date said), 1, i + 2)) (text_at tokens (i + 1)) else None

abbrev pub named : List Token → Reader → ℕ → List ℕ → Option Found
named tokens inner i name =
    if marked tokens mark.Dot (i + 1)
    then option_map (λ other. (t.column (Some name) other, 1, i + 3)) (name_at tokens (i + 2))
    else if marked tokens mark.Open (i + 1) then call_at tokens inner i
    else if marked tokens mark.Text (i + 1) then date_at tokens i
    else atom (t.column None name) (i + 1)

-- an atom that begins with a word of the grammar or a sign
abbrev pub marked_atom : List Token → Reader → ℕ → Option Found
marked_atom tokens inner i =
    if marked tokens mark.Null i then atom (t.literal l.Null) (i + 1)
    else if marked tokens mark.True i then atom (t.literal (l.Truth true)) (i + 1)
    else if marked tokens mark.False i then atom (t.literal (l.Truth false)) (i + 1)
    else if marked tokens mark.Open i then option_and_then (closed tokens mark.Close (λ a. a)) (inner 8 (i + 1))
    else if marked tokens mark.Case i then case_at tokens inner i
    else None

abbrev pub text_or_marked : List Token → Reader → ℕ → Option (List ℕ) → Option Found
text_or_marked tokens inner i (Some said) = atom (t.literal (l.Words said)) (i + 1)
text_or_marked tokens inner i None = marked_atom tokens inner i

abbrev pub number_or_other : List Token → Reader → ℕ → Option (ℕ × ℕ) → Option Found
number_or_other tokens inner i (Some n) = atom (t.literal (l.Number (pos n.0) n.1)) (i + 1)
number_or_other tokens inner i None = text_or_marked tokens inner i (text_at tokens i)

abbrev pub atom_by : List Token → Reader → ℕ → Option (List ℕ) → Option Found
atom_by tokens inner i (Some name) = named tokens inner i name
atom_by tokens inner i None = number_or_other tokens inner i (digits_at tokens i)

abbrev pub atom_at : List Token → Reader → ℕ → Option Found
atom_at tokens inner i = atom_by tokens inner i (name_at tokens i)

-- what goes on after `a`: a cast, a test or an operator
abbrev pub cast_after : List Token → Found → Option Found
cast_after tokens a =
    option_map (λ (kind : Kind × ℕ). (t.cast a.0 kind.0, suc a.1, kind.1)) (kind_at tokens (a.2 + 1))

abbrev pub null_test : List Token → Found → Option Found
null_test tokens a =
    if marked tokens mark.Null (past_not tokens (a.2 + 1))
    then Some (t.is_null (not_at tokens (a.2 + 1)) a.0, suc a.1, past_not tokens (a.2 + 1) + 1) else None

abbrev pub upper : List Token → Reader → ℕ → Found → Found → Option Found
upper tokens inner k a b =
    if marked tokens mark.And b.2
    then option_map (λ (c : Found). (t.between (not_at tokens a.2) a.0 b.0 c.0, suc (max a.1 (max b.1 c.1)), c.2)) (inner k (b.2 + 1))
    else None

abbrev pub among : List Token → Found → Several → Option Found
among tokens a all =
    if marked tokens mark.Close all.2
    then Some (t.in_list (not_at tokens a.2) a.0 (trees all.0), suc (max a.1 all.1), all.2 + 1) else None

abbrev pub tested : List Token → Reader → ℕ → Found → Option Found
tested tokens inner k a =
    if marked tokens mark.Between (past_not tokens a.2)
    then option_and_then (upper tokens inner k a) (inner k (past_not tokens a.2 + 1))
    else if marked tokens mark.Like (past_not tokens a.2)
    then option_map (λ (b : Found). (t.like (not_at tokens a.2) a.0 b.0, suc (max a.1 b.1), b.2)) (inner k (past_not tokens a.2 + 1))
    else if marked tokens mark.In (past_not tokens a.2) && marked tokens mark.Open (past_not tokens a.2 + 1)
    then option_and_then (among tokens a) (listed_at tokens inner (past_not tokens a.2 + 2))
    else None

abbrev pub goes_on : List Token → Reader → ℕ → Found → Option Operator → Option Found
goes_on tokens inner k a (Some op) =
    option_map (λ (b : Found). (made op a.0 b.0, suc (max a.1 b.1), b.2)) (inner k (a.2 + 1))
goes_on tokens inner k a None =
    if marked tokens mark.Is a.2 then null_test tokens a
    else if marked tokens mark.Cast a.2 then cast_after tokens a
    else tested tokens inner k a

-- as long as an operator of the level stands next, but at most so often
abbrev pub chain : List Token → Reader → ℕ → ℕ → ℕ → Found → Option Found
chain tokens inner budget k zero a = Some a
chain tokens inner budget k (suc limit) a =
    if level_of (mark_at tokens a.2) == k
    then (if nat_lt a.1 budget then option_and_then (chain tokens inner budget k limit)
    (goes_on tokens inner (below k) a (operator_of (mark_at tokens a.2))) else None)
    else Some a

-- operators that group to the left may follow one another; of the others there is one
abbrev pub steps : ℕ → ℕ → ℕ
steps k budget = if groups k then budget else 1

abbrev pub layer : List Token → Reader → (ℕ → Option Found) → ℕ → ℕ → ℕ → Option Found
layer tokens inner tighter budget k i =
    if prefix_level (mark_at tokens i) == k
    then option_map (λ (a : Found). (prefix_made (mark_at tokens i) a.0, suc a.1, a.2)) (inner k (i + 1))
    else option_and_then (chain tokens inner budget k (steps k budget)) (tighter i)

unfoldable pub read_level : List Token → Reader → ℕ → ℕ → ℕ → Option Found
read_level tokens inner budget zero i = atom_at tokens inner i
read_level tokens inner budget (suc k) i = layer tokens inner (read_level tokens inner budget k) budget (suc k) i

-- the reading of an expression of a level that is at most so deep
unfoldable pub read : List Token → ℕ → ℕ → ℕ → Option Found
read tokens zero k i = None
read tokens (suc budget) k i = read_level tokens (read tokens budget) (suc budget) k i

-- an expression of at most 64 in depth, with the place after it
abbrev pub expression_at : List Token → ℕ → Option (Tree × ℕ)
expression_at tokens i = option_map (λ (found : Found). (found.0, found.2)) (read tokens 64 8 i)
