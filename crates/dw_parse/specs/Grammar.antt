-- The grammar: which statement tokens derive. Places are counted in tokens, from 0. The rules are this project's profile
-- of the SQL of the Amazon Redshift guide.
use Rattle.std.specs.Prelude.{◌≡◌, ℕ, ◌+◌, ◌≤◌, true, Option, Some, None, List, flat_map, length, codes}
use Rattle.dw_lex.specs.declared.token.Token.{Token}
use Rattle.dw_lex.specs.declared.signs.Sign.TheVariants as mark
use Rattle.dw_value.specs.declared.kinds.Comparison.{Comparison}
use Rattle.dw_model.specs.declared.statements.Literal.{Literal}
use Rattle.dw_model.specs.declared.statements.Test.{Test}
use Rattle.dw_model.specs.declared.statements.Statement.{Statement}
use Rattle.dw_model.specs.declared.statements.Statement.TheVariants.{Begin, Commit, Rollback, Create, Drop, Lock, Insert, Select}
use Rattle.dw_parse.specs.declared.parts.Part.{Part}
use Rattle.dw_parse.specs.declared.parts.Attribute.{Attribute}
use Rattle.dw_parse_words.specs.Words.{is_sign_at, comparison_of, word_at, sign_at, name_at}
use Rattle.dw_parse.specs.Tables.{columns_in, table_made}
use Rattle.dw_parse_words.specs.Pieces.{Listed, Repeated, IsNamed, IsTable, IsMaybeNames, IsLiteral, IsTuple}
use Rattle.dw_parse.specs.CreateGrammar.{IsPart, IsAttribute}

-- `[where name comparison literal]`, up to the end
pub data IsCondition (tokens : List Token) : ℕ → Option Test → Type 0 where
  absent : {i : ℕ} → i ≡ length tokens → IsCondition tokens i None
  where_is : {i j : ℕ} {name : List ℕ} {comparison : Comparison} {v : Literal} → word_at (codes "where") tokens i ≡ true
      → name_at tokens (i + 1) ≡ Some name → comparison_of (sign_at tokens (i + 2)) ≡ Some comparison
      → IsLiteral tokens (i + 3) v j → j ≡ length tokens
      → IsCondition tokens i (Some (record { column = name; comparison = comparison; literal = v }))

-- `[transaction | work]`, up to the end
pub data IsRest (tokens : List Token) : ℕ → Type 0 where
  ended : {i : ℕ} → i ≡ length tokens → IsRest tokens i
  transaction : {i : ℕ} → word_at (codes "transaction") tokens i ≡ true → i + 1 ≡ length tokens → IsRest tokens i
  work : {i : ℕ} → word_at (codes "work") tokens i ≡ true → i + 1 ≡ length tokens → IsRest tokens i

-- The statement that all of the tokens derive:
-- `begin`, `commit`, `end`, `rollback` or `abort`, each with `[transaction | work]`, and `start transaction`,
-- `create table [public .] name ( part {, part} ) {attribute}`, of at most 1,600 columns,
-- `drop table [public .] name`,
-- `lock [table] [public .] name {, [public .] name}`,
-- `insert into [public .] name [names] values tuple {, tuple}`,
-- `select name {, name} from [public .] name [where name comparison literal]`.
pub data Derives (tokens : List Token) : Statement → Type 0 where
  begin : word_at (codes "begin") tokens 0 ≡ true → IsRest tokens 1 → Derives tokens Begin
  start : word_at (codes "start") tokens 0 ≡ true → word_at (codes "transaction") tokens 1 ≡ true → length tokens ≡ 2
      → Derives tokens Begin
  commit : word_at (codes "commit") tokens 0 ≡ true → IsRest tokens 1 → Derives tokens Commit
  end : word_at (codes "end") tokens 0 ≡ true → IsRest tokens 1 → Derives tokens Commit
  rollback : word_at (codes "rollback") tokens 0 ≡ true → IsRest tokens 1 → Derives tokens Rollback
  abort : word_at (codes "abort") tokens 0 ≡ true → IsRest tokens 1 → Derives tokens Rollback
  create : {i j k : ℕ} {name : List ℕ} {parts : List Part} {attributes : List Attribute}
      → word_at (codes "create") tokens 0 ≡ true → word_at (codes "table") tokens 1 ≡ true → IsTable tokens 2 name i
      → is_sign_at mark.Open tokens i ≡ true → Listed (IsPart tokens) tokens (i + 1) parts j
      → is_sign_at mark.Close tokens j ≡ true → Repeated (IsAttribute tokens) (j + 1) attributes k → k ≡ length tokens
      → length (flat_map columns_in parts) ≤ 1600 → Derives tokens (Create (table_made name parts attributes))
  drop : {i : ℕ} {name : List ℕ} → word_at (codes "drop") tokens 0 ≡ true → word_at (codes "table") tokens 1 ≡ true
      → IsTable tokens 2 name i → i ≡ length tokens → Derives tokens (Drop name)
  lock : {i : ℕ} {names : List (List ℕ)} → word_at (codes "lock") tokens 0 ≡ true
      → Listed (IsTable tokens) tokens 1 names i → i ≡ length tokens → Derives tokens (Lock names)
  lock_table : {i : ℕ} {names : List (List ℕ)} → word_at (codes "lock") tokens 0 ≡ true
      → word_at (codes "table") tokens 1 ≡ true → Listed (IsTable tokens) tokens 2 names i → i ≡ length tokens
      → Derives tokens (Lock names)
  insert : {i j k : ℕ} {name : List ℕ} {columns : List (List ℕ)} {rows : List (List Literal)}
      → word_at (codes "insert") tokens 0 ≡ true → word_at (codes "into") tokens 1 ≡ true → IsTable tokens 2 name i
      → IsMaybeNames tokens i columns j → word_at (codes "values") tokens j ≡ true
      → Listed (IsTuple tokens) tokens (j + 1) rows k → k ≡ length tokens → Derives tokens (Insert name columns rows)
  select : {i j : ℕ} {names : List (List ℕ)} {name : List ℕ} {keep : Option Test}
      → word_at (codes "select") tokens 0 ≡ true → Listed (IsNamed tokens) tokens 1 names i
      → word_at (codes "from") tokens i ≡ true → IsTable tokens (i + 1) name j → IsCondition tokens j keep
      → Derives tokens (Select (record { items = names; table = name; keep = keep }))
