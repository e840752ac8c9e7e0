-- The statement that tokens read as. Each reading gives what it found at a place, and the place after it.
use Rattle.std.specs.Prelude.{ℕ, ◌+◌, ◌==◌, Bool, ◌&&◌, ◌||◌, nat_le, if◌then◌else◌, Option, Some, None, List, flat_map, length, codes}
use Rattle.std.specs.Option.{option_map, option_and_then}
use Rattle.dw_lex.specs.declared.token.Token.{Token}
use Rattle.dw_lex.specs.declared.signs.Sign.TheVariants as mark
use Rattle.dw_value.specs.declared.kinds.Comparison.{Comparison}
use Rattle.dw_model.specs.declared.statements.Literal.{Literal}
use Rattle.dw_model.specs.declared.statements.Test.{Test}
use Rattle.dw_model.specs.declared.statements.Statement.{Statement}
use Rattle.dw_model.specs.declared.statements.Statement.TheVariants.{Begin, Commit, Rollback, Create, Drop, Lock, Insert, Select}
use Rattle.dw_parse.specs.declared.parts.Part.{Part}
use Rattle.dw_parse.specs.declared.parts.Attribute.{Attribute}
use Rattle.dw_parse_words.specs.Words.{is_sign_at, comparison_of, word_at, sign_at, name_at}
use Rattle.dw_parse.specs.Tables.{columns_in, table_made}
use Rattle.dw_parse_words.specs.PieceReading.{listed_at, repeated_at, table_at, named_at, maybe_names_at, literal_at, tuple_at}
use Rattle.dw_parse.specs.CreateReading.{part_at, attribute_at}

-- `create table [public .] name ( part {, part} ) {attribute}`, of at most 1,600 columns
abbrev pub create_of : List Token → List ℕ → List Part → List Attribute × ℕ → Option Statement
create_of tokens name parts attributes =
    if (attributes.1 == length tokens) && nat_le (length (flat_map columns_in parts)) 1600
    then Some (Create (table_made name parts attributes.0)) else None

abbrev pub create_with : List Token → List ℕ → List Part × ℕ → Option Statement
create_with tokens name parts =
    if is_sign_at mark.Close tokens parts.1
    then create_of tokens name parts.0 (repeated_at (attribute_at tokens) tokens (parts.1 + 1)) else None

abbrev pub create_after : List Token → List ℕ × ℕ → Option Statement
create_after tokens table =
    if is_sign_at mark.Open tokens table.1
    then option_and_then (create_with tokens table.0) (listed_at (part_at tokens) tokens (table.1 + 1)) else None

abbrev pub read_create : List Token → Option Statement
read_create tokens =
    if word_at (codes "table") tokens 1 then option_and_then (create_after tokens) (table_at tokens 2) else None

-- `drop table [public .] name`
abbrev pub drop_after : List Token → List ℕ × ℕ → Option Statement
drop_after tokens table = if table.1 == length tokens then Some (Drop table.0) else None

abbrev pub read_drop : List Token → Option Statement
read_drop tokens =
    if word_at (codes "table") tokens 1 then option_and_then (drop_after tokens) (table_at tokens 2) else None

-- `lock [table] [public .] name {, [public .] name}`
abbrev pub lock_of : List Token → List (List ℕ) × ℕ → Option Statement
lock_of tokens names = if names.1 == length tokens then Some (Lock names.0) else None

abbrev pub lock_from : List Token → ℕ → Option Statement
lock_from tokens i = option_and_then (lock_of tokens) (listed_at (table_at tokens) tokens i)

abbrev pub read_lock : List Token → Option Statement
read_lock tokens = if word_at (codes "table") tokens 1 then lock_from tokens 2 else lock_from tokens 1

-- `insert into [public .] name [names] values tuple {, tuple}`
abbrev pub insert_of : List Token → List ℕ → List (List ℕ) → List (List Literal) × ℕ → Option Statement
insert_of tokens name columns rows = if rows.1 == length tokens then Some (Insert name columns rows.0) else None

abbrev pub insert_values : List Token → List ℕ → List (List ℕ) × ℕ → Option Statement
insert_values tokens name columns =
    if word_at (codes "values") tokens columns.1
    then option_and_then (insert_of tokens name columns.0) (listed_at (tuple_at tokens) tokens (columns.1 + 1)) else None

abbrev pub insert_after : List Token → List ℕ × ℕ → Option Statement
insert_after tokens table = option_and_then (insert_values tokens table.0) (maybe_names_at tokens table.1)

abbrev pub read_insert : List Token → Option Statement
read_insert tokens =
    if word_at (codes "into") tokens 1 then option_and_then (insert_after tokens) (table_at tokens 2) else None

-- `[where name comparison literal]`, up to the end; the word where is at the place of the test
abbrev pub test_of : List Token → List ℕ → Comparison → Literal × ℕ → Option Test
test_of tokens column comparison found =
    if found.1 == length tokens
    then Some (record { column = column; comparison = comparison; literal = found.0 }) else None

abbrev pub test_at : List Token → ℕ → Option Test
test_at tokens i =
    option_and_then (λ column. option_and_then (λ comparison. option_and_then (test_of tokens column comparison)
    (literal_at tokens (i + 3))) (comparison_of (sign_at tokens (i + 2)))) (name_at tokens (i + 1))

abbrev pub condition_at : List Token → ℕ → Option (Option Test)
condition_at tokens i =
    if word_at (codes "where") tokens i then option_map (λ test. Some test) (test_at tokens i) else
    if i == length tokens then Some None else None

-- `select name {, name} from [public .] name [where name comparison literal]`
abbrev pub select_of : List Token → List (List ℕ) → List ℕ × ℕ → Option Statement
select_of tokens items table =
    option_map (λ keep. Select (record { items = items; table = table.0; keep = keep })) (condition_at tokens table.1)

abbrev pub select_after : List Token → List (List ℕ) × ℕ → Option Statement
select_after tokens items =
    if word_at (codes "from") tokens items.1
    then option_and_then (select_of tokens items.0) (table_at tokens (items.1 + 1)) else None

abbrev pub read_select : List Token → Option Statement
read_select tokens = option_and_then (select_after tokens) (listed_at (named_at tokens) tokens 1)

-- `[transaction | work]`, up to the end
abbrev pub is_rest : List Token → ℕ → Bool
is_rest tokens i =
    (i == length tokens)
    || ((word_at (codes "transaction") tokens i || word_at (codes "work") tokens i) && (i + 1 == length tokens))

-- what the first word does to a block of statements
abbrev pub block_word : List Token → Option Statement
block_word tokens =
    if word_at (codes "begin") tokens 0 then Some Begin else
    if word_at (codes "commit") tokens 0 || word_at (codes "end") tokens 0 then Some Commit else
    if word_at (codes "rollback") tokens 0 || word_at (codes "abort") tokens 0 then Some Rollback else None

-- `begin`, `commit`, `end`, `rollback` or `abort`, each with `[transaction | work]`, or `start transaction`
abbrev pub read_block : List Token → Option Statement
read_block tokens =
    if word_at (codes "start") tokens 0
    then (if word_at (codes "transaction") tokens 1 && (length tokens == 2) then Some Begin else None)
    else (if is_rest tokens 1 then block_word tokens else None)

-- the statement that tokens read as, if there is one
abbrev pub read_statement : List Token → Option Statement
read_statement tokens =
    if word_at (codes "create") tokens 0 then read_create tokens else
    if word_at (codes "drop") tokens 0 then read_drop tokens else
    if word_at (codes "insert") tokens 0 then read_insert tokens else
    if word_at (codes "select") tokens 0 then read_select tokens else
    if word_at (codes "lock") tokens 0 then read_lock tokens else read_block tokens
