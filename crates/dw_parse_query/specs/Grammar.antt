-- The grammar of queries, of the tuples of an INSERT and of changes, over expressions: what the tokens from one place
-- up to another, or up to the end, derive. Places are counted in tokens, from 0. The rules are this project's profile
-- of the SQL of the Amazon Redshift guide (SELECT, INSERT, UPDATE, DELETE).
use Rattle.std.specs.Prelude.{◌≡◌, ℕ, ◌+◌, true, Option, Some, None, List, length, unwrap_or, codes}
use Rattle.dw_lex.specs.declared.token.Token.{Token}
use Rattle.dw_lex.specs.declared.signs.Sign.TheVariants as mark
use Rattle.dw_expr.specs.Tree.{Tree}
use Rattle.dw_query.specs.declared.queries.Item.{Item}
use Rattle.dw_query.specs.declared.queries.Item.TheVariants.{All, One}
use Rattle.dw_query.specs.declared.queries.Source.{Source}
use Rattle.dw_query.specs.declared.queries.Query.{Query}
use Rattle.dw_query.specs.declared.queries.Assignment.{Assignment}
use Rattle.dw_parse_words.specs.Words.{is_sign_at, word_at, name_at}
use Rattle.dw_parse_words.specs.Pieces.{Listed, IsTable}
use Rattle.dw_parse_expr.specs.Grammar.{IsExpression}

-- `[[as] name]`
pub data IsAlias (tokens : List Token) : ℕ → Option (List ℕ) → ℕ → Type 0 where
  no_alias : {i : ℕ} → IsAlias tokens i None i
  alias : {i : ℕ} {name : List ℕ} → name_at tokens i ≡ Some name → IsAlias tokens i (Some name) (i + 1)
  as_alias : {i : ℕ} {name : List ℕ} → word_at (codes "as") tokens i ≡ true → name_at tokens (i + 1) ≡ Some name
      → IsAlias tokens i (Some name) (i + 2)

-- `*` or `expr [[as] name]`
pub data IsItem (tokens : List Token) : ℕ → Item → ℕ → Type 0 where
  all : {i : ℕ} → is_sign_at mark.Star tokens i ≡ true → IsItem tokens i All (i + 1)
  one : {i j k : ℕ} {expr : Tree} {name : Option (List ℕ)} → IsExpression tokens i expr j → IsAlias tokens j name k
      → IsItem tokens i (One expr name) k

-- `[public .] name [[as] name]`; without an alias the alias is the table's name
pub data IsSource (tokens : List Token) : ℕ → Source → ℕ → Type 0 where
  source : {i j k : ℕ} {table : List ℕ} {name : Option (List ℕ)} → IsTable tokens i table j → IsAlias tokens j name k
      → IsSource tokens i (record { table = table; alias = unwrap_or name table }) k

-- `[from source]`
pub data IsFrom (tokens : List Token) : ℕ → Option Source → ℕ → Type 0 where
  no_source : {i : ℕ} → IsFrom tokens i None i
  from : {i j : ℕ} {source : Source} → word_at (codes "from") tokens i ≡ true → IsSource tokens (i + 1) source j
      → IsFrom tokens i (Some source) j

-- `[where expr]`, up to the end
pub data IsCondition (tokens : List Token) : ℕ → Option Tree → Type 0 where
  no_condition : {i : ℕ} → i ≡ length tokens → IsCondition tokens i None
  where_is : {i j : ℕ} {expr : Tree} → word_at (codes "where") tokens i ≡ true → IsExpression tokens (i + 1) expr j
      → j ≡ length tokens → IsCondition tokens i (Some expr)

-- what stands after the word select: `item {, item} [from source] [where expr]`, up to the end
pub data IsQuery (tokens : List Token) : ℕ → Query → Type 0 where
  query : {i j k : ℕ} {items : List Item} {source : Option Source} {keep : Option Tree}
      → Listed (IsItem tokens) tokens i items j → IsFrom tokens j source k → IsCondition tokens k keep
      → IsQuery tokens i (record { items = items; source = source; keep = keep })

-- `( expr {, expr} )`
pub data IsTuple (tokens : List Token) : ℕ → List Tree → ℕ → Type 0 where
  tuple : {i j : ℕ} {exprs : List Tree} → is_sign_at mark.Open tokens i ≡ true
      → Listed (IsExpression tokens) tokens (i + 1) exprs j → is_sign_at mark.Close tokens j ≡ true
      → IsTuple tokens i exprs (j + 1)

-- what stands after the word values: `tuple {, tuple}`, up to the end
pub data IsTuples (tokens : List Token) : ℕ → List (List Tree) → Type 0 where
  tuples : {i j : ℕ} {rows : List (List Tree)} → Listed (IsTuple tokens) tokens i rows j → j ≡ length tokens
      → IsTuples tokens i rows

-- `name = expr`
pub data IsAssignment (tokens : List Token) : ℕ → Assignment → ℕ → Type 0 where
  assignment : {i j : ℕ} {name : List ℕ} {expr : Tree} → name_at tokens i ≡ Some name
      → is_sign_at mark.Equal tokens (i + 1) ≡ true → IsExpression tokens (i + 2) expr j
      → IsAssignment tokens i (record { column = name; value = expr }) j

-- what stands after the word set: `name = expr {, name = expr} [where expr]`, up to the end
pub data IsChange (tokens : List Token) : ℕ → List Assignment → Option Tree → Type 0 where
  change : {i j : ℕ} {sets : List Assignment} {keep : Option Tree} → Listed (IsAssignment tokens) tokens i sets j
      → IsCondition tokens j keep → IsChange tokens i sets keep
