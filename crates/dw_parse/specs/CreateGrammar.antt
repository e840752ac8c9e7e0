-- The grammar of CREATE TABLE between its parentheses and after them: columns with options, constraints, attributes.
-- After the Amazon Redshift guide (CREATE TABLE).
use Rattle.std.specs.Prelude.{◌≡◌, ℕ, ◌+◌, true, ◌||◌, Some, List, codes}
use Rattle.dw_lex.specs.declared.token.Token.{Token}
use Rattle.dw_lex.specs.declared.signs.Sign.TheVariants as mark
use Rattle.dw_value.specs.declared.kinds.Encoding.{Encoding}
use Rattle.dw_value.specs.declared.kinds.Kind.{Kind}
use Rattle.dw_model.specs.declared.statements.Literal.{Literal}
use Rattle.dw_model.specs.declared.statements.StyleWord.{StyleWord}
use Rattle.dw_parse.specs.declared.parts.OptionWord.TheVariants as option_words
use Rattle.dw_parse.specs.declared.parts.ColumnOption.{ColumnOption}
use Rattle.dw_parse.specs.declared.parts.ColumnOption.TheVariants as option
use Rattle.dw_parse.specs.declared.parts.PartWord.TheVariants as part_words
use Rattle.dw_parse.specs.declared.parts.Part.{Part}
use Rattle.dw_parse.specs.declared.parts.Part.TheVariants.{Column, Constraint}
use Rattle.dw_parse.specs.declared.parts.AttributeWord.TheVariants as attribute_words
use Rattle.dw_parse.specs.declared.parts.Attribute.{Attribute}
use Rattle.dw_parse.specs.declared.parts.Attribute.TheVariants as attribute
use Rattle.dw_parse_words.specs.Words.{is_sign_at, word_at, name_at}
use Rattle.dw_parse_words.specs.Kinds.{encoding_at}
use Rattle.dw_parse_words.specs.KindGrammar.{IsKind}
use Rattle.dw_parse.specs.Tables.{option_word, part_word_at, attribute_word_at, style_word}
use Rattle.dw_parse_words.specs.Pieces.{Repeated, IsTable, IsNames, IsMaybeNames, IsLiteral}

-- `[not] null`, `default literal`, `encode encoding`, `distkey`, `sortkey`, `primary key`, `unique` or
-- `references table [names]`
pub data IsOption (tokens : List Token) : ℕ → ColumnOption → ℕ → Type 0 where
  null : {i : ℕ} → option_word tokens i ≡ Some option_words.Null → IsOption tokens i option.Null (i + 1)
  not_null : {i : ℕ} → option_word tokens i ≡ Some option_words.Not → word_at (codes "null") tokens (i + 1) ≡ true
      → IsOption tokens i option.NotNull (i + 2)
  default : {i j : ℕ} {literal : Literal} → option_word tokens i ≡ Some option_words.Default
      → IsLiteral tokens (i + 1) literal j → IsOption tokens i (option.Default literal) j
  encode : {i : ℕ} {encoding : Encoding} → option_word tokens i ≡ Some option_words.Encode
      → encoding_at tokens (i + 1) ≡ Some encoding → IsOption tokens i (option.Encode encoding) (i + 2)
  dist_key : {i : ℕ} → option_word tokens i ≡ Some option_words.DistKey → IsOption tokens i option.DistKey (i + 1)
  sort_key : {i : ℕ} → option_word tokens i ≡ Some option_words.SortKey → IsOption tokens i option.SortKey (i + 1)
  primary_key : {i : ℕ} → option_word tokens i ≡ Some option_words.Primary → word_at (codes "key") tokens (i + 1) ≡ true
      → IsOption tokens i option.Constraint (i + 2)
  unique : {i : ℕ} → option_word tokens i ≡ Some option_words.Unique → IsOption tokens i option.Constraint (i + 1)
  references : {i j k : ℕ} {table : List ℕ} {names : List (List ℕ)} → option_word tokens i ≡ Some option_words.References
      → IsTable tokens (i + 1) table j → IsMaybeNames tokens j names k → IsOption tokens i option.Constraint k

-- `name kind {option}`, `primary key names`, `unique names` or `foreign key names references table [names]`
pub data IsPart (tokens : List Token) : ℕ → Part → ℕ → Type 0 where
  column : {i j k : ℕ} {name : List ℕ} {kind : Kind} {options : List ColumnOption} → name_at tokens i ≡ Some name
      → IsKind tokens (i + 1) kind j → Repeated (IsOption tokens) j options k
      → IsPart tokens i (Column name kind options) k
  primary_key : {i j : ℕ} {names : List (List ℕ)} → part_word_at tokens i ≡ Some part_words.Primary
      → word_at (codes "key") tokens (i + 1) ≡ true → IsNames tokens (i + 2) names j
      → IsPart tokens i (Constraint names) j
  unique : {i j : ℕ} {names : List (List ℕ)} → part_word_at tokens i ≡ Some part_words.Unique
      → IsNames tokens (i + 1) names j → IsPart tokens i (Constraint names) j
  foreign_key : {i j k l : ℕ} {names others : List (List ℕ)} {table : List ℕ}
      → part_word_at tokens i ≡ Some part_words.Foreign → word_at (codes "key") tokens (i + 1) ≡ true
      → IsNames tokens (i + 2) names j → word_at (codes "references") tokens j ≡ true → IsTable tokens (j + 1) table k
      → IsMaybeNames tokens k others l → IsPart tokens i (Constraint names) l

-- `diststyle style`, `distkey ( name )`, `[compound] sortkey names`, `sortkey auto`, `encode auto` or `backup yes` or
-- `backup no`
pub data IsAttribute (tokens : List Token) : ℕ → Attribute → ℕ → Type 0 where
  style : {i : ℕ} {style : StyleWord} → attribute_word_at tokens i ≡ Some attribute_words.DistStyle
      → style_word tokens (i + 1) ≡ Some style → IsAttribute tokens i (attribute.Style style) (i + 2)
  dist_key : {i : ℕ} {name : List ℕ} → attribute_word_at tokens i ≡ Some attribute_words.DistKey
      → is_sign_at mark.Open tokens (i + 1) ≡ true → name_at tokens (i + 2) ≡ Some name
      → is_sign_at mark.Close tokens (i + 3) ≡ true → IsAttribute tokens i (attribute.DistKey name) (i + 4)
  sort_key : {i j : ℕ} {names : List (List ℕ)} → attribute_word_at tokens i ≡ Some attribute_words.SortKey
      → IsNames tokens (i + 1) names j → IsAttribute tokens i (attribute.SortKey names) j
  compound : {i j : ℕ} {names : List (List ℕ)} → attribute_word_at tokens i ≡ Some attribute_words.Compound
      → word_at (codes "sortkey") tokens (i + 1) ≡ true → IsNames tokens (i + 2) names j
      → IsAttribute tokens i (attribute.SortKey names) j
  sort_auto : {i : ℕ} → attribute_word_at tokens i ≡ Some attribute_words.SortKey
      → word_at (codes "auto") tokens (i + 1) ≡ true → IsAttribute tokens i attribute.Idle (i + 2)
  encode_auto : {i : ℕ} → attribute_word_at tokens i ≡ Some attribute_words.Encode
      → word_at (codes "auto") tokens (i + 1) ≡ true → IsAttribute tokens i attribute.Idle (i + 2)
  backup : {i : ℕ} → attribute_word_at tokens i ≡ Some attribute_words.Backup
      → word_at (codes "yes") tokens (i + 1) || word_at (codes "no") tokens (i + 1) ≡ true
      → IsAttribute tokens i attribute.Idle (i + 2)
