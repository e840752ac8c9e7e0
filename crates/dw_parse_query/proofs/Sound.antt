-- What is read is derived.
use Rattle.std.proofs.Common.{◌≡◌, ℕ, ◌+◌, true, if◌then◌else◌, Some, None, Option, List, length, refl}
use Rattle.std.specs.Prelude.{codes, ◌==◌}
use Rattle.std.specs.Option.{option_map, option_and_then}
use Rattle.std.proofs.lemmas.Bool.{eqb-true}
use Rattle.dw_lex.specs.declared.signs.Sign.TheVariants as sign
use Rattle.dw_lex.specs.declared.token.Token.{Token}
use Rattle.dw_expr.specs.Tree.{Tree}
use Rattle.dw_query.specs.declared.queries.Item.{Item}
use Rattle.dw_query.specs.declared.queries.Item.TheVariants.{All}
use Rattle.dw_query.specs.declared.queries.Source.{Source}
use Rattle.dw_query.specs.declared.queries.Query.{Query}
use Rattle.dw_query.specs.declared.queries.Assignment.{Assignment}
use Rattle.dw_parse_words.specs.Words.{is_sign_at, word_at, name_at}
use Rattle.dw_parse_words.specs.Pieces.{Listed}
use Rattle.dw_parse_words.specs.PieceReading.{listed_at, table_at, closed}
use Rattle.dw_parse_words.proofs.FoundLemmas.{Sound, sound_some, sound_if, sound_when, sound_bind, sound_map}
use Rattle.dw_parse_words.proofs.PieceLemmas.{listed_at_sound, table_sound}
use Rattle.dw_parse_expr.specs.Grammar.{IsExpression}
use Rattle.dw_parse_expr.specs.Reading.{expression_at}
use Rattle.dw_parse_expr.proofs.Answered.{derived}
use Rattle.dw_parse_query.specs.Grammar.{IsAlias, no_alias, alias, as_alias, IsItem, all, one, IsSource, source, IsFrom, no_source, from, IsCondition, no_condition, where_is, IsQuery, query, IsTuple, tuple, IsTuples, tuples, IsAssignment, assignment, IsChange, change}
use Rattle.dw_parse_query.specs.Reading.{at_end, bare_alias, alias_at, item_with, item_of, item_at, source_with, source_of, source_at, some_source, from_at, last_expression_at, condition_at, query_with, query_of, query_after, query_at, tuple_at, tuples_at, assignment_with, assignment_of, assignment_at, change_with, change_of, change_at}
use Rattle.dw_parse_query.proofs.Complete.{expression_spans, item_spans, tuple_spans, assignment_spans}

expression_sound : (tokens : List Token) (i : ℕ) → Sound (λ (r : Tree × ℕ). IsExpression tokens i r.0 r.1) (expression_at tokens i)
expression_sound tokens i r e = derived tokens i r.1 r.0 e

-- what is found up to the end
ended_sound : {A : Type 0} (P : A → Type 0) (tokens : List Token) (o : Option (A × ℕ)) → ((r : A × ℕ) → o ≡ Some r → r.1 ≡ length tokens → P r.0)
    → Sound P (option_and_then (at_end tokens) o)
ended_sound P tokens o h =
    sound_bind P (at_end tokens) o
    (λ r e. sound_when P (r.1 == length tokens) (Some r.0) (λ t. sound_some P r.0 (h r e (eqb-true r.1 (length tokens) t))))

-- aliases
bare_sound : (tokens : List Token) (i : ℕ) (found : Option (List ℕ)) → name_at tokens i ≡ found → IsAlias tokens i (bare_alias i found).0 (bare_alias i found).1
bare_sound tokens i None e = no_alias
bare_sound tokens i (Some name) e = alias e

alias_sound : (tokens : List Token) (i : ℕ) → Sound (λ (r : Option (List ℕ) × ℕ). IsAlias tokens i r.0 r.1) (alias_at tokens i)
alias_sound tokens i =
    sound_if (λ (r : Option (List ℕ) × ℕ). IsAlias tokens i r.0 r.1) (word_at (codes "as") tokens i)
    (option_map (λ (name : List ℕ). (Some name, i + 2)) (name_at tokens (i + 1))) (Some (bare_alias i (name_at tokens i)))
    (λ w. sound_map (λ (r : Option (List ℕ) × ℕ). IsAlias tokens i r.0 r.1) (λ (name : List ℕ). (Some name, i + 2)) (name_at tokens (i + 1)) (λ name e. as_alias w e))
    (λ w. sound_some (λ (r : Option (List ℕ) × ℕ). IsAlias tokens i r.0 r.1) (bare_alias i (name_at tokens i)) (bare_sound tokens i (name_at tokens i) refl))

-- items
item_sound : (tokens : List Token) (i : ℕ) → Sound (λ (r : Item × ℕ). IsItem tokens i r.0 r.1) (item_at tokens i)
item_sound tokens i =
    sound_if (λ (r : Item × ℕ). IsItem tokens i r.0 r.1) (is_sign_at sign.Star tokens i) (Some (All, i + 1)) (option_and_then (item_of tokens) (expression_at tokens i))
    (λ s. sound_some (λ (r : Item × ℕ). IsItem tokens i r.0 r.1) (All, i + 1) (all s))
    (λ s. sound_bind (λ (r : Item × ℕ). IsItem tokens i r.0 r.1) (item_of tokens) (expression_at tokens i)
    (λ expr e. sound_map (λ (r : Item × ℕ). IsItem tokens i r.0 r.1) (item_with expr.0) (alias_at tokens expr.1)
    (λ name a. one (expression_sound tokens i expr e) (alias_sound tokens expr.1 name a))))

-- the source
source_sound : (tokens : List Token) (i : ℕ) → Sound (λ (r : Source × ℕ). IsSource tokens i r.0 r.1) (source_at tokens i)
source_sound tokens i =
    sound_bind (λ (r : Source × ℕ). IsSource tokens i r.0 r.1) (source_of tokens) (table_at tokens i)
    (λ table t. sound_map (λ (r : Source × ℕ). IsSource tokens i r.0 r.1) (source_with table.0) (alias_at tokens table.1)
    (λ name a. source (table_sound tokens i table t) (alias_sound tokens table.1 name a)))

from_sound : (tokens : List Token) (i : ℕ) → Sound (λ (r : Option Source × ℕ). IsFrom tokens i r.0 r.1) (from_at tokens i)
from_sound tokens i =
    sound_if (λ (r : Option Source × ℕ). IsFrom tokens i r.0 r.1) (word_at (codes "from") tokens i) (option_map some_source (source_at tokens (i + 1))) (Some (None, i))
    (λ w. sound_map (λ (r : Option Source × ℕ). IsFrom tokens i r.0 r.1) some_source (source_at tokens (i + 1)) (λ found e. from w (source_sound tokens (i + 1) found e)))
    (λ w. sound_some (λ (r : Option Source × ℕ). IsFrom tokens i r.0 r.1) (None, i) no_source)

-- the condition
condition_sound : (tokens : List Token) (i : ℕ) → Sound (IsCondition tokens i) (condition_at tokens i)
condition_sound tokens i =
    sound_if (IsCondition tokens i) (word_at (codes "where") tokens i) (option_map (λ (expr : Tree). Some expr) (last_expression_at tokens (i + 1))) (if i == length tokens then Some None else None)
    (λ w. sound_map (IsCondition tokens i) (λ (expr : Tree). Some expr) (last_expression_at tokens (i + 1)) (last w))
    (λ w. sound_when (IsCondition tokens i) (i == length tokens) (Some None) (λ e. sound_some (IsCondition tokens i) None (no_condition (eqb-true i (length tokens) e))))
  where
    last : word_at (codes "where") tokens i ≡ true → Sound (λ (expr : Tree). IsCondition tokens i (Some expr)) (last_expression_at tokens (i + 1))
    last w =
        ended_sound (λ (expr : Tree). IsCondition tokens i (Some expr)) tokens (expression_at tokens (i + 1))
        (λ r e end. where_is w (expression_sound tokens (i + 1) r e) end)

pub condition_derived : (tokens : List Token) (i : ℕ) (keep : Option Tree) → condition_at tokens i ≡ Some keep → IsCondition tokens i keep
condition_derived tokens i keep e = condition_sound tokens i keep e

-- queries
items_sound : (tokens : List Token) (i : ℕ) → Sound (λ (r : List Item × ℕ). Listed (IsItem tokens) tokens i r.0 r.1) (listed_at (item_at tokens) tokens i)
items_sound tokens i = listed_at_sound (item_at tokens) (IsItem tokens) tokens (item_spans tokens) (item_sound tokens) i

query_sound : (tokens : List Token) (i : ℕ) → Sound (IsQuery tokens i) (query_at tokens i)
query_sound tokens i =
    sound_bind (IsQuery tokens i) (query_after tokens) (listed_at (item_at tokens) tokens i)
    (λ items l. sound_bind (IsQuery tokens i) (query_of tokens items.0) (from_at tokens items.1)
    (λ found f. sound_map (IsQuery tokens i) (query_with items.0 found.0) (condition_at tokens found.1)
    (λ keep c. query (items_sound tokens i items l) (from_sound tokens items.1 found f) (condition_sound tokens found.1 keep c))))

pub query_derived : (tokens : List Token) (i : ℕ) (found : Query) → query_at tokens i ≡ Some found → IsQuery tokens i found
query_derived tokens i found e = query_sound tokens i found e

-- tuples
exprs_sound : (tokens : List Token) (i : ℕ) → Sound (λ (r : List Tree × ℕ). Listed (IsExpression tokens) tokens i r.0 r.1) (listed_at (expression_at tokens) tokens i)
exprs_sound tokens i = listed_at_sound (expression_at tokens) (IsExpression tokens) tokens (expression_spans tokens) (expression_sound tokens) i

tuple_sound : (tokens : List Token) (i : ℕ) → Sound (λ (r : List Tree × ℕ). IsTuple tokens i r.0 r.1) (tuple_at tokens i)
tuple_sound tokens i =
    sound_when (λ (r : List Tree × ℕ). IsTuple tokens i r.0 r.1) (is_sign_at sign.Open tokens i) (option_and_then (closed tokens) (listed_at (expression_at tokens) tokens (i + 1)))
    (λ o. sound_bind (λ (r : List Tree × ℕ). IsTuple tokens i r.0 r.1) (closed tokens) (listed_at (expression_at tokens) tokens (i + 1))
    (λ list e. sound_when (λ (r : List Tree × ℕ). IsTuple tokens i r.0 r.1) (is_sign_at sign.Close tokens list.1) (Some (list.0, list.1 + 1))
    (λ c. sound_some (λ (r : List Tree × ℕ). IsTuple tokens i r.0 r.1) (list.0, list.1 + 1) (tuple o (exprs_sound tokens (i + 1) list e) c))))

pub tuples_derived : (tokens : List Token) (i : ℕ) (rows : List (List Tree)) → tuples_at tokens i ≡ Some rows → IsTuples tokens i rows
tuples_derived tokens i rows e =
    ended_sound (IsTuples tokens i) tokens (listed_at (tuple_at tokens) tokens i)
    (λ r l end. tuples (listed_at_sound (tuple_at tokens) (IsTuple tokens) tokens (tuple_spans tokens) (tuple_sound tokens) i r l) end) rows e

-- changes
assignment_sound : (tokens : List Token) (i : ℕ) → Sound (λ (r : Assignment × ℕ). IsAssignment tokens i r.0 r.1) (assignment_at tokens i)
assignment_sound tokens i =
    sound_bind (λ (r : Assignment × ℕ). IsAssignment tokens i r.0 r.1) (assignment_of tokens i) (name_at tokens i)
    (λ name n. sound_when (λ (r : Assignment × ℕ). IsAssignment tokens i r.0 r.1) (is_sign_at sign.Equal tokens (i + 1)) (option_map (assignment_with name) (expression_at tokens (i + 2)))
    (λ q. sound_map (λ (r : Assignment × ℕ). IsAssignment tokens i r.0 r.1) (assignment_with name) (expression_at tokens (i + 2))
    (λ expr e. assignment n q (expression_sound tokens (i + 2) expr e))))

change_sound : (tokens : List Token) (i : ℕ) → Sound (λ (r : List Assignment × Option Tree). IsChange tokens i r.0 r.1) (change_at tokens i)
change_sound tokens i =
    sound_bind (λ (r : List Assignment × Option Tree). IsChange tokens i r.0 r.1) (change_of tokens) (listed_at (assignment_at tokens) tokens i)
    (λ sets l. sound_map (λ (r : List Assignment × Option Tree). IsChange tokens i r.0 r.1) (change_with sets.0) (condition_at tokens sets.1)
    (λ keep c. change (listed_at_sound (assignment_at tokens) (IsAssignment tokens) tokens (assignment_spans tokens) (assignment_sound tokens) i sets l) (condition_sound tokens sets.1 keep c)))

pub change_derived : (tokens : List Token) (i : ℕ) (sets : List Assignment) (keep : Option Tree) → change_at tokens i ≡ Some (sets, keep) → IsChange tokens i sets keep
change_derived tokens i sets keep e = change_sound tokens i (sets, keep) e
