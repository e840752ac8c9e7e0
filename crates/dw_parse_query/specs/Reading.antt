-- Queries, tuples and changes as tokens read. Each reading gives what it found at a place, and the place after it
-- unless it goes up to the end.
use Rattle.std.specs.Prelude.{ℕ, ◌+◌, ◌==◌, if◌then◌else◌, Option, Some, None, List, length, unwrap_or, codes}
use Rattle.std.specs.Option.{option_map, option_and_then}
use Rattle.dw_lex.specs.declared.token.Token.{Token}
use Rattle.dw_lex.specs.declared.signs.Sign.TheVariants as mark
use Rattle.dw_expr.specs.Tree.{Tree}
use Rattle.dw_query.specs.declared.queries.Item.{Item}
use Rattle.dw_query.specs.declared.queries.Item.TheVariants.{All, One}
use Rattle.dw_query.specs.declared.queries.Source.{Source}
use Rattle.dw_query.specs.declared.queries.Query.{Query}
use Rattle.dw_query.specs.declared.queries.Assignment.{Assignment}
use Rattle.dw_parse_words.specs.Words.{is_sign_at, word_at, name_at}
use Rattle.dw_parse_words.specs.PieceReading.{listed_at, table_at, closed}
use Rattle.dw_parse_expr.specs.Reading.{expression_at}

-- what is found before the end
abbrev pub at_end : {A : Type 0} → List Token → A × ℕ → Option A
at_end tokens found = if found.1 == length tokens then Some found.0 else None

-- `[[as] name]`
abbrev pub bare_alias : ℕ → Option (List ℕ) → Option (List ℕ) × ℕ
bare_alias i None = (None, i)
bare_alias i (Some name) = (Some name, i + 1)

abbrev pub alias_at : List Token → ℕ → Option (Option (List ℕ) × ℕ)
alias_at tokens i =
    if word_at (codes "as") tokens i then option_map (λ name. (Some name, i + 2)) (name_at tokens (i + 1))
    else Some (bare_alias i (name_at tokens i))

-- `*` or `expr [[as] name]`
abbrev pub item_with : Tree → Option (List ℕ) × ℕ → Item × ℕ
item_with expr name = (One expr name.0, name.1)

abbrev pub item_of : List Token → Tree × ℕ → Option (Item × ℕ)
item_of tokens expr = option_map (item_with expr.0) (alias_at tokens expr.1)

abbrev pub item_at : List Token → ℕ → Option (Item × ℕ)
item_at tokens i =
    if is_sign_at mark.Star tokens i then Some (All, i + 1)
    else option_and_then (item_of tokens) (expression_at tokens i)

-- `[public .] name [[as] name]`
abbrev pub source_with : List ℕ → Option (List ℕ) × ℕ → Source × ℕ
source_with table name = (record { table = table; alias = unwrap_or name.0 table }, name.1)

abbrev pub source_of : List Token → List ℕ × ℕ → Option (Source × ℕ)
source_of tokens table = option_map (source_with table.0) (alias_at tokens table.1)

abbrev pub source_at : List Token → ℕ → Option (Source × ℕ)
source_at tokens i = option_and_then (source_of tokens) (table_at tokens i)

-- `[from source]`
abbrev pub some_source : Source × ℕ → Option Source × ℕ
some_source source = (Some source.0, source.1)

abbrev pub from_at : List Token → ℕ → Option (Option Source × ℕ)
from_at tokens i =
    if word_at (codes "from") tokens i then option_map some_source (source_at tokens (i + 1)) else Some (None, i)

-- `[where expr]`, up to the end
abbrev pub last_expression_at : List Token → ℕ → Option Tree
last_expression_at tokens i = option_and_then (at_end tokens) (expression_at tokens i)

abbrev pub condition_at : List Token → ℕ → Option (Option Tree)
condition_at tokens i =
    if word_at (codes "where") tokens i then option_map (λ expr. Some expr) (last_expression_at tokens (i + 1)) else
    if i == length tokens then Some None else None

-- `item {, item} [from source] [where expr]`, up to the end
abbrev pub query_with : List Item → Option Source → Option Tree → Query
query_with items source keep = record { items = items; source = source; keep = keep }

abbrev pub query_of : List Token → List Item → Option Source × ℕ → Option Query
query_of tokens items source = option_map (query_with items source.0) (condition_at tokens source.1)

abbrev pub query_after : List Token → List Item × ℕ → Option Query
query_after tokens items = option_and_then (query_of tokens items.0) (from_at tokens items.1)

abbrev pub query_at : List Token → ℕ → Option Query
query_at tokens i = option_and_then (query_after tokens) (listed_at (item_at tokens) tokens i)

-- `( expr {, expr} )`
abbrev pub tuple_at : List Token → ℕ → Option (List Tree × ℕ)
tuple_at tokens i =
    if is_sign_at mark.Open tokens i
    then option_and_then (closed tokens) (listed_at (expression_at tokens) tokens (i + 1)) else None

-- `tuple {, tuple}`, up to the end
abbrev pub tuples_at : List Token → ℕ → Option (List (List Tree))
tuples_at tokens i = option_and_then (at_end tokens) (listed_at (tuple_at tokens) tokens i)

-- `name = expr`
abbrev pub assignment_with : List ℕ → Tree × ℕ → Assignment × ℕ
assignment_with name expr = (record { column = name; value = expr.0 }, expr.1)

abbrev pub assignment_of : List Token → ℕ → List ℕ → Option (Assignment × ℕ)
assignment_of tokens i name =
    if is_sign_at mark.Equal tokens (i + 1)
    then option_map (assignment_with name) (expression_at tokens (i + 2)) else None

abbrev pub assignment_at : List Token → ℕ → Option (Assignment × ℕ)
assignment_at tokens i = option_and_then (assignment_of tokens i) (name_at tokens i)

-- `name = expr {, name = expr} [where expr]`, up to the end
abbrev pub change_with : List Assignment → Option Tree → List Assignment × Option Tree
change_with sets keep = (sets, keep)

abbrev pub change_of : List Token → List Assignment × ℕ → Option (List Assignment × Option Tree)
change_of tokens sets = option_map (change_with sets.0) (condition_at tokens sets.1)

abbrev pub change_at : List Token → ℕ → Option (List Assignment × Option Tree)
change_at tokens i = option_and_then (change_of tokens) (listed_at (assignment_at tokens) tokens i)
