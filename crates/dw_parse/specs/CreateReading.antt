-- CREATE TABLE between its parentheses and after them, as tokens read: columns with options, constraints, attributes.
-- Each reading gives what it found at a place, and the place after it.
use Rattle.std.specs.Prelude.{ℕ, ◌+◌, ◌||◌, if◌then◌else◌, Option, Some, None, List, codes}
use Rattle.std.specs.Option.{option_map, option_and_then}
use Rattle.dw_lex.specs.declared.token.Token.{Token}
use Rattle.dw_lex.specs.declared.signs.Sign.TheVariants as mark
use Rattle.dw_value.specs.declared.kinds.Kind.{Kind}
use Rattle.dw_parse.specs.declared.parts.OptionWord.{OptionWord}
use Rattle.dw_parse.specs.declared.parts.OptionWord.TheVariants as option_words
use Rattle.dw_parse.specs.declared.parts.ColumnOption.{ColumnOption}
use Rattle.dw_parse.specs.declared.parts.ColumnOption.TheVariants as option
use Rattle.dw_parse.specs.declared.parts.PartWord.{PartWord}
use Rattle.dw_parse.specs.declared.parts.PartWord.TheVariants as part_words
use Rattle.dw_parse.specs.declared.parts.Part.{Part}
use Rattle.dw_parse.specs.declared.parts.Part.TheVariants.{Column, Constraint}
use Rattle.dw_parse.specs.declared.parts.AttributeWord.{AttributeWord}
use Rattle.dw_parse.specs.declared.parts.AttributeWord.TheVariants as attribute_words
use Rattle.dw_parse.specs.declared.parts.Attribute.{Attribute}
use Rattle.dw_parse.specs.declared.parts.Attribute.TheVariants as attribute
use Rattle.dw_parse_words.specs.Words.{is_sign_at, word_at, name_at}
use Rattle.dw_parse_words.specs.Kinds.{encoding_at}
use Rattle.dw_parse_words.specs.KindReading.{when, kind_at}
use Rattle.dw_parse.specs.Tables.{option_word, part_word_at, attribute_word_at, style_word}
use Rattle.dw_parse_words.specs.PieceReading.{with_end, repeated_at, table_at, names_at, maybe_names_at, literal_at}

-- `references table [names]`, which says nothing of a column
abbrev pub references_after : List Token → List ℕ × ℕ → Option (ColumnOption × ℕ)
references_after tokens table = option_map (λ names. (option.Constraint, names.1)) (maybe_names_at tokens table.1)

-- an option by its first word, which is at this place
abbrev pub option_by : List Token → ℕ → OptionWord → Option (ColumnOption × ℕ)
option_by tokens i option_words.Null = Some (option.Null, i + 1)
option_by tokens i option_words.Not = when (word_at (codes "null") tokens (i + 1)) (option.NotNull, i + 2)
option_by tokens i option_words.Default =
    option_map (λ one. (option.Default one.0, one.1)) (literal_at tokens (i + 1))
option_by tokens i option_words.Encode =
    with_end (i + 2) (option_map (λ encoding. option.Encode encoding) (encoding_at tokens (i + 1)))
option_by tokens i option_words.DistKey = Some (option.DistKey, i + 1)
option_by tokens i option_words.SortKey = Some (option.SortKey, i + 1)
option_by tokens i option_words.Primary = when (word_at (codes "key") tokens (i + 1)) (option.Constraint, i + 2)
option_by tokens i option_words.Unique = Some (option.Constraint, i + 1)
option_by tokens i option_words.References = option_and_then (references_after tokens) (table_at tokens (i + 1))

abbrev pub option_at : List Token → ℕ → Option (ColumnOption × ℕ)
option_at tokens i = option_and_then (option_by tokens i) (option_word tokens i)

-- `name kind {option}`, from the kind on
abbrev pub column_with : List ℕ → Kind → List ColumnOption × ℕ → Part × ℕ
column_with name kind options = (Column name kind options.0, options.1)

abbrev pub column_at : List Token → List ℕ → ℕ → Option (Part × ℕ)
column_at tokens name i =
    option_map (λ kind. column_with name kind.0 (repeated_at (option_at tokens) tokens kind.1)) (kind_at tokens i)

-- a constraint with the names at this place
abbrev pub constraint_at : List Token → ℕ → Option (Part × ℕ)
constraint_at tokens i = option_map (λ names. (Constraint names.0, names.1)) (names_at tokens i)

-- `references table [names]` after the names of a foreign key
abbrev pub foreign_of : List Token → List (List ℕ) → List ℕ × ℕ → Option (Part × ℕ)
foreign_of tokens names table = option_map (λ others. (Constraint names, others.1)) (maybe_names_at tokens table.1)

abbrev pub foreign_after : List Token → List (List ℕ) × ℕ → Option (Part × ℕ)
foreign_after tokens names =
    if word_at (codes "references") tokens names.1
    then option_and_then (foreign_of tokens names.0) (table_at tokens (names.1 + 1)) else None

-- a constraint by its first word, which is at this place
abbrev pub constraint_by : List Token → ℕ → PartWord → Option (Part × ℕ)
constraint_by tokens i part_words.Primary =
    if word_at (codes "key") tokens (i + 1) then constraint_at tokens (i + 2) else None
constraint_by tokens i part_words.Unique = constraint_at tokens (i + 1)
constraint_by tokens i part_words.Foreign =
    if word_at (codes "key") tokens (i + 1)
    then option_and_then (foreign_after tokens) (names_at tokens (i + 2)) else None

-- a column where a name stands, else a constraint
abbrev pub part_by : List Token → ℕ → Option (List ℕ) → Option (Part × ℕ)
part_by tokens i (Some name) = column_at tokens name (i + 1)
part_by tokens i None = option_and_then (constraint_by tokens i) (part_word_at tokens i)

abbrev pub part_at : List Token → ℕ → Option (Part × ℕ)
part_at tokens i = part_by tokens i (name_at tokens i)

-- an attribute by its first word, which is at this place
abbrev pub sort_key_at : List Token → ℕ → Option (Attribute × ℕ)
sort_key_at tokens i = option_map (λ names. (attribute.SortKey names.0, names.1)) (names_at tokens i)

abbrev pub dist_key_at : List Token → ℕ → Option (Attribute × ℕ)
dist_key_at tokens i =
    if is_sign_at mark.Open tokens (i + 1)
    then option_and_then (λ name. when (is_sign_at mark.Close tokens (i + 3)) (attribute.DistKey name, i + 4))
    (name_at tokens (i + 2)) else None

abbrev pub attribute_by : List Token → ℕ → AttributeWord → Option (Attribute × ℕ)
attribute_by tokens i attribute_words.DistStyle =
    with_end (i + 2) (option_map (λ style. attribute.Style style) (style_word tokens (i + 1)))
attribute_by tokens i attribute_words.DistKey = dist_key_at tokens i
attribute_by tokens i attribute_words.Compound =
    if word_at (codes "sortkey") tokens (i + 1) then sort_key_at tokens (i + 2) else None
attribute_by tokens i attribute_words.SortKey =
    if word_at (codes "auto") tokens (i + 1) then Some (attribute.Idle, i + 2) else sort_key_at tokens (i + 1)
attribute_by tokens i attribute_words.Encode = when (word_at (codes "auto") tokens (i + 1)) (attribute.Idle, i + 2)
attribute_by tokens i attribute_words.Backup =
    when (word_at (codes "yes") tokens (i + 1) || word_at (codes "no") tokens (i + 1)) (attribute.Idle, i + 2)

abbrev pub attribute_at : List Token → ℕ → Option (Attribute × ℕ)
attribute_at tokens i = option_and_then (attribute_by tokens i) (attribute_word_at tokens i)
