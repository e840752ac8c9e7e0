-- What the parts of a CREATE TABLE make of the table. Of an option or a style that is written twice the last counts; a
-- constraint says nothing but the names that it has in parentheses. The words are those of CREATE TABLE in the Amazon
-- Redshift guide; what counts is this project's own.
use Rattle.std.specs.Prelude.{ℕ, Bool, true, false, Option, Some, None, unwrap_or, List, [], ◌∷◌, ◌++◌, map, filter, flat_map, codes}
use Rattle.dw_lex.specs.declared.token.Token.{Token}
use Rattle.dw_value.specs.declared.kinds.Encoding.{Encoding}
use Rattle.dw_value.specs.declared.kinds.Kind.{Kind}
use Rattle.dw_model.specs.declared.statements.ColumnSpec.{ColumnSpec}
use Rattle.dw_model.specs.declared.statements.Literal.{Literal}
use Rattle.dw_model.specs.declared.statements.StyleWord.{StyleWord}
use Rattle.dw_model.specs.declared.statements.StyleWord.TheVariants as styles
use Rattle.dw_model.specs.declared.statements.TableSpec.{TableSpec}
use Rattle.dw_parse.specs.declared.parts.OptionWord.{OptionWord}
use Rattle.dw_parse.specs.declared.parts.OptionWord.TheVariants as word
use Rattle.dw_parse.specs.declared.parts.ColumnOption.{ColumnOption}
use Rattle.dw_parse.specs.declared.parts.ColumnOption.TheVariants as option
use Rattle.dw_parse.specs.declared.parts.PartWord.{PartWord}
use Rattle.dw_parse.specs.declared.parts.PartWord.TheVariants as part_word
use Rattle.dw_parse.specs.declared.parts.Part.{Part}
use Rattle.dw_parse.specs.declared.parts.Part.TheVariants as part
use Rattle.dw_parse.specs.declared.parts.AttributeWord.{AttributeWord}
use Rattle.dw_parse.specs.declared.parts.AttributeWord.TheVariants as attribute_word
use Rattle.dw_parse.specs.declared.parts.Attribute.{Attribute}
use Rattle.dw_parse.specs.declared.parts.Attribute.TheVariants as attribute
use Rattle.dw_parse_words.specs.Words.{meant_at}

-- the words that an option of a column begins with
abbrev pub option_words : List (List ℕ × OptionWord)
option_words =
    (codes "null", word.Null) ∷ (codes "not", word.Not) ∷ (codes "default", word.Default)
    ∷ (codes "encode", word.Encode) ∷ (codes "distkey", word.DistKey) ∷ (codes "sortkey", word.SortKey)
    ∷ (codes "primary", word.Primary) ∷ (codes "unique", word.Unique) ∷ (codes "references", word.References) ∷ []

abbrev pub option_word : List Token → ℕ → Option OptionWord
option_word tokens i = meant_at option_words tokens i

-- the words that a constraint on the table itself begins with
abbrev pub part_words : List (List ℕ × PartWord)
part_words =
    (codes "primary", part_word.Primary) ∷ (codes "unique", part_word.Unique)
    ∷ (codes "foreign", part_word.Foreign) ∷ []

abbrev pub part_word_at : List Token → ℕ → Option PartWord
part_word_at tokens i = meant_at part_words tokens i

-- the words that an attribute of the table begins with
abbrev pub attribute_words : List (List ℕ × AttributeWord)
attribute_words =
    (codes "diststyle", attribute_word.DistStyle) ∷ (codes "distkey", attribute_word.DistKey)
    ∷ (codes "compound", attribute_word.Compound) ∷ (codes "sortkey", attribute_word.SortKey)
    ∷ (codes "encode", attribute_word.Encode) ∷ (codes "backup", attribute_word.Backup) ∷ []

abbrev pub attribute_word_at : List Token → ℕ → Option AttributeWord
attribute_word_at tokens i = meant_at attribute_words tokens i

-- what stands after DISTSTYLE; AUTO is taken as EVEN
abbrev pub style_words : List (List ℕ × StyleWord)
style_words =
    (codes "even", styles.Even) ∷ (codes "key", styles.Key) ∷ (codes "all", styles.All)
    ∷ (codes "auto", styles.Even) ∷ []

abbrev pub style_word : List Token → ℕ → Option StyleWord
style_word tokens i = meant_at style_words tokens i

-- of two the later one, where there is one
abbrev pub later : {A : Type 0} → Option A → Option A → Option A
later first None = first
later first (Some second) = Some second

-- the last of what is said
abbrev pub last_of : {A B : Type 0} → (A → Option B) → List A → Option B
last_of said [] = None
last_of said (a ∷ rest) = later (said a) (last_of said rest)

-- whether an option takes NULL from a column, where it speaks of that
abbrev pub not_null_said : ColumnOption → Option Bool
not_null_said option.Null = Some false
not_null_said option.NotNull = Some true
not_null_said _ = None

abbrev pub default_said : ColumnOption → Option Literal
default_said (option.Default literal) = Some literal
default_said _ = None

abbrev pub encoding_said : ColumnOption → Option Encoding
encoding_said (option.Encode encoding) = Some encoding
encoding_said _ = None

abbrev pub is_dist_key : ColumnOption → Bool
is_dist_key option.DistKey = true
is_dist_key _ = false

abbrev pub is_sort_key : ColumnOption → Bool
is_sort_key option.SortKey = true
is_sort_key _ = false

-- the column that a name, a kind and options make
abbrev pub column_made : List ℕ → Kind → List ColumnOption → ColumnSpec
column_made name kind options = record {
  name = name;
  kind = kind;
  not_null = unwrap_or (last_of not_null_said options) false;
  default = last_of default_said options;
  encoding = last_of encoding_said options;
}

abbrev pub columns_in : Part → List ColumnSpec
columns_in (part.Column name kind options) = column_made name kind options ∷ []
columns_in (part.Constraint names) = []

-- a column's name for each DISTKEY of its options, and for each SORTKEY
abbrev pub dist_keys_in : Part → List (List ℕ)
dist_keys_in (part.Column name kind options) = map (λ key. name) (filter is_dist_key options)
dist_keys_in (part.Constraint names) = []

abbrev pub sort_keys_in : Part → List (List (List ℕ))
sort_keys_in (part.Column name kind options) = map (λ key. name ∷ []) (filter is_sort_key options)
sort_keys_in (part.Constraint names) = []

-- the names of a constraint
abbrev pub names_in : Part → List (List ℕ)
names_in (part.Column name kind options) = []
names_in (part.Constraint names) = names

-- the style of a DISTSTYLE
abbrev pub style_said : Attribute → Option StyleWord
style_said (attribute.Style style) = Some style
style_said _ = None

abbrev pub dist_keys_of : Attribute → List (List ℕ)
dist_keys_of (attribute.DistKey name) = name ∷ []
dist_keys_of _ = []

abbrev pub sort_keys_of : Attribute → List (List (List ℕ))
sort_keys_of (attribute.SortKey names) = names ∷ []
sort_keys_of _ = []

-- the names of a key that is written as an attribute
abbrev pub names_of : Attribute → List (List ℕ)
names_of (attribute.DistKey name) = name ∷ []
names_of (attribute.SortKey names) = names
names_of _ = []

-- the table that parts and attributes make
abbrev pub table_made : List ℕ → List Part → List Attribute → TableSpec
table_made name parts attributes = record {
  name = name;
  columns = flat_map columns_in parts;
  style = last_of style_said attributes;
  dist_keys = flat_map dist_keys_in parts ++ flat_map dist_keys_of attributes;
  sort_keys = flat_map sort_keys_in parts ++ flat_map sort_keys_of attributes;
  named = flat_map names_in parts ++ flat_map names_of attributes;
}
