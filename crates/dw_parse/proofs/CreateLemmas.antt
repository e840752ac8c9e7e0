-- The grammar and the reading of CREATE TABLE between its parentheses and after them agree.
use Rattle.std.proofs.Common.{◌≡◌, ℕ, ◌+◌, ◌≤◌, ◌⊎◌, inl, inr, true, false, ◌||◌, Option, Some, None, List, length, refl, arith}
use Rattle.std.specs.Prelude.{codes}
use Rattle.std.specs.Option.{option_map, option_and_then}
use Rattle.std.specs.List.{list_all}
use Rattle.dw_lex.specs.Meaning.{folded}
use Rattle.dw_lex.specs.declared.signs.Sign.TheVariants as mark
use Rattle.dw_lex.specs.declared.token.Token.{Token}
use Rattle.dw_value.specs.declared.kinds.Encoding.{Encoding}
use Rattle.dw_value.specs.declared.kinds.Kind.{Kind}
use Rattle.dw_model.specs.declared.statements.Literal.{Literal}
use Rattle.dw_model.specs.declared.statements.StyleWord.{StyleWord}
use Rattle.dw_parse.specs.declared.parts.OptionWord.{OptionWord}
use Rattle.dw_parse.specs.declared.parts.OptionWord.TheVariants as o
use Rattle.dw_parse.specs.declared.parts.ColumnOption.{ColumnOption}
use Rattle.dw_parse.specs.declared.parts.ColumnOption.TheVariants as option
use Rattle.dw_parse.specs.declared.parts.PartWord.{PartWord}
use Rattle.dw_parse.specs.declared.parts.PartWord.TheVariants as p
use Rattle.dw_parse.specs.declared.parts.Part.{Part}
use Rattle.dw_parse.specs.declared.parts.Part.TheVariants.{Constraint}
use Rattle.dw_parse.specs.declared.parts.AttributeWord.{AttributeWord}
use Rattle.dw_parse.specs.declared.parts.AttributeWord.TheVariants as a
use Rattle.dw_parse.specs.declared.parts.Attribute.{Attribute}
use Rattle.dw_parse.specs.declared.parts.Attribute.TheVariants as attribute
use Rattle.dw_parse_words.specs.Words.{is_sign, is_sign_at, is_reserved, word_at, sign_at, name_at}
use Rattle.dw_parse_words.specs.Kinds.{encoding_words, encoding_at}
use Rattle.dw_parse_words.specs.KindReading.{when, kind_at}
use Rattle.dw_parse.specs.Tables.{option_words, option_word, part_words, part_word_at, attribute_words, attribute_word_at, style_words, style_word}
use Rattle.dw_parse_words.specs.Pieces.{Listed, Repeated, IsNames, names}
use Rattle.dw_parse_words.specs.PieceReading.{listed_at, repeated_at, table_at, names_at, maybe_names_at, literal_at}
use Rattle.dw_parse.specs.CreateReading.{references_after, option_by, option_at, column_with, column_at, constraint_at, foreign_of, foreign_after, constraint_by, part_by, part_at, sort_key_at, attribute_by, attribute_at}
use Rattle.dw_parse.specs.CreateGrammar.{IsOption, IsPart, IsAttribute}
use Rattle.dw_parse.specs.CreateGrammar as g
use Rattle.dw_parse_words.proofs.FoundLemmas.{word_within, meant_within, Spans, or_either, sign_no_meant, sign_no_word, meant_no_sign, meant_no_name, past_meant, close_comma, close_open, close_dot, comma_open, comma_dot, Sound, sound_some, sound_if, sound_when, sound_bind, sound_map}
use Rattle.dw_parse_words.proofs.KindLemmas.{close_within, kind_spans, kind_complete, kind_sound}
use Rattle.dw_parse_words.proofs.PieceLemmas.{Anything, listed_at_complete, listed_at_sound, repeated_spans, repeated_starts, repeated_at_complete, repeated_at_sound, table_spans, table_complete, table_sound, names_spans, names_complete, names_sound, maybe_names_spans, maybe_names_complete, maybe_names_dot, maybe_names_sound, literal_spans, literal_complete, literal_sound}

-- what may come after a kind or an option: no `(` and no `.`
pub record Ends (tokens : List Token) (j : ℕ) : Type 0 where
  pub no_open : is_sign_at mark.Open tokens j ≡ false
  pub no_dot : is_sign_at mark.Dot tokens j ≡ false

-- what may come after a part: no option either
pub record Stops (tokens : List Token) (j : ℕ) : Type 0 where
  pub ends : Ends tokens j
  pub no_option : option_word tokens j ≡ None

pub comma_stops : (tokens : List Token) (j : ℕ) → is_sign_at mark.Comma tokens j ≡ true → Stops tokens j
comma_stops tokens j e = record {
  ends = record {
    no_open = comma_open (sign_at tokens j) e;
    no_dot = comma_dot (sign_at tokens j) e;
  };
  no_option = sign_no_meant option_words (is_sign mark.Comma) tokens j refl e;
}

pub close_stops : (tokens : List Token) (j : ℕ) → is_sign_at mark.Close tokens j ≡ true → Stops tokens j
close_stops tokens j e = record {
  ends = record {
    no_open = close_open (sign_at tokens j) e;
    no_dot = close_dot (sign_at tokens j) e;
  };
  no_option = sign_no_meant option_words (is_sign mark.Close) tokens j refl e;
}

option_ends : (tokens : List Token) (j : ℕ) (w : OptionWord) → option_word tokens j ≡ Some w → Ends tokens j
option_ends tokens j w e = record {
  no_open = meant_no_sign option_words (is_sign mark.Open) tokens j w e refl;
  no_dot = meant_no_sign option_words (is_sign mark.Dot) tokens j w e refl;
}

option_spans : (tokens : List Token) (i j : ℕ) (one : ColumnOption) → IsOption tokens i one j → Spans tokens i j
option_spans tokens i j one (g.null w) = let h = meant_within option_words tokens i o.Null w in (omega arith, omega arith)
option_spans tokens i j one (g.not_null w n) = let h = word_within (codes "null") tokens (i + 1) n in (omega arith, omega arith)
option_spans tokens i j one (g.default {literal = v} w l) = let s = literal_spans tokens (i + 1) j v l in (omega arith, s.1)
option_spans tokens i j one (g.encode {encoding = e} w n) = let h = meant_within encoding_words tokens (i + 1) e n in (omega arith, omega arith)
option_spans tokens i j one (g.dist_key w) = let h = meant_within option_words tokens i o.DistKey w in (omega arith, omega arith)
option_spans tokens i j one (g.sort_key w) = let h = meant_within option_words tokens i o.SortKey w in (omega arith, omega arith)
option_spans tokens i j one (g.primary_key w n) = let h = word_within (codes "key") tokens (i + 1) n in (omega arith, omega arith)
option_spans tokens i j one (g.unique w) = let h = meant_within option_words tokens i o.Unique w in (omega arith, omega arith)
option_spans tokens i j one (g.references w t n) =
    let s = table_spans tokens t in let m = maybe_names_spans tokens n s.1 in (omega arith, m.1)

option_starts : (tokens : List Token) (i j : ℕ) (one : ColumnOption) → IsOption tokens i one j → Ends tokens i
option_starts tokens i j one (g.null w) = option_ends tokens i o.Null w
option_starts tokens i j one (g.not_null w n) = option_ends tokens i o.Not w
option_starts tokens i j one (g.default w l) = option_ends tokens i o.Default w
option_starts tokens i j one (g.encode w n) = option_ends tokens i o.Encode w
option_starts tokens i j one (g.dist_key w) = option_ends tokens i o.DistKey w
option_starts tokens i j one (g.sort_key w) = option_ends tokens i o.SortKey w
option_starts tokens i j one (g.primary_key w n) = option_ends tokens i o.Primary w
option_starts tokens i j one (g.unique w) = option_ends tokens i o.Unique w
option_starts tokens i j one (g.references w t n) = option_ends tokens i o.References w

option_complete : (tokens : List Token) (i j : ℕ) (one : ColumnOption) → IsOption tokens i one j → Ends tokens j → option_at tokens i ≡ Some (one, j)
option_complete tokens i j one (g.null w) ends = rw w refl
option_complete tokens i j one (g.not_null w n) ends = rw (w, n) refl
option_complete tokens i j one (g.default {literal = v} w l) ends = let e = literal_complete tokens (i + 1) j v l tt in rw (w, e) refl
option_complete tokens i j one (g.encode w n) ends = rw (w, n) refl
option_complete tokens i j one (g.dist_key w) ends = rw w refl
option_complete tokens i j one (g.sort_key w) ends = rw w refl
option_complete tokens i j one (g.primary_key w n) ends = rw (w, n) refl
option_complete tokens i j one (g.unique w) ends = rw w refl
option_complete tokens i j one (g.references w t n) ends =
    let e = table_complete tokens t (maybe_names_dot tokens n ends.no_dot) in
    let f = maybe_names_complete tokens n ends.no_open in
    rw (w, e, f) refl

option_by_sound : (tokens : List Token) (i : ℕ) (w : OptionWord) → option_word tokens i ≡ Some w → Sound (λ (r : ColumnOption × ℕ). IsOption tokens i r.0 r.1) (option_by tokens i w)
option_by_sound tokens i o.Null is = sound_some (λ (r : ColumnOption × ℕ). IsOption tokens i r.0 r.1) (option.Null, i + 1) (g.null is)
option_by_sound tokens i o.Not is =
    sound_when (λ (r : ColumnOption × ℕ). IsOption tokens i r.0 r.1) (word_at (codes "null") tokens (i + 1)) (Some (option.NotNull, i + 2))
    (λ n. sound_some (λ (r : ColumnOption × ℕ). IsOption tokens i r.0 r.1) (option.NotNull, i + 2) (g.not_null is n))
option_by_sound tokens i o.Default is =
    sound_map (λ (r : ColumnOption × ℕ). IsOption tokens i r.0 r.1) (λ (one : Literal × ℕ). (option.Default one.0, one.1)) (literal_at tokens (i + 1))
    (λ one e. g.default is (literal_sound tokens (i + 1) one e))
option_by_sound tokens i o.Encode is =
    sound_map (λ (r : ColumnOption × ℕ). IsOption tokens i r.0 r.1) (λ (one : ColumnOption). (one, i + 2)) (option_map (λ (encoding : Encoding). option.Encode encoding) (encoding_at tokens (i + 1)))
    (sound_map (λ (one : ColumnOption). IsOption tokens i one (i + 2)) (λ (encoding : Encoding). option.Encode encoding) (encoding_at tokens (i + 1)) (λ encoding e. g.encode is e))
option_by_sound tokens i o.DistKey is = sound_some (λ (r : ColumnOption × ℕ). IsOption tokens i r.0 r.1) (option.DistKey, i + 1) (g.dist_key is)
option_by_sound tokens i o.SortKey is = sound_some (λ (r : ColumnOption × ℕ). IsOption tokens i r.0 r.1) (option.SortKey, i + 1) (g.sort_key is)
option_by_sound tokens i o.Primary is =
    sound_when (λ (r : ColumnOption × ℕ). IsOption tokens i r.0 r.1) (word_at (codes "key") tokens (i + 1)) (Some (option.Constraint, i + 2))
    (λ n. sound_some (λ (r : ColumnOption × ℕ). IsOption tokens i r.0 r.1) (option.Constraint, i + 2) (g.primary_key is n))
option_by_sound tokens i o.Unique is = sound_some (λ (r : ColumnOption × ℕ). IsOption tokens i r.0 r.1) (option.Constraint, i + 1) (g.unique is)
option_by_sound tokens i o.References is =
    sound_bind (λ (r : ColumnOption × ℕ). IsOption tokens i r.0 r.1) (references_after tokens) (table_at tokens (i + 1))
    (λ table t. sound_map (λ (r : ColumnOption × ℕ). IsOption tokens i r.0 r.1) (λ (those : List (List ℕ) × ℕ). (option.Constraint, those.1)) (maybe_names_at tokens table.1)
    (λ those n. g.references is (table_sound tokens (i + 1) table t) (maybe_names_sound tokens table.1 those n)))

option_sound : (tokens : List Token) (i : ℕ) → Sound (λ (r : ColumnOption × ℕ). IsOption tokens i r.0 r.1) (option_at tokens i)
option_sound tokens i = sound_bind (λ (r : ColumnOption × ℕ). IsOption tokens i r.0 r.1) (option_by tokens i) (option_word tokens i) (λ w e. option_by_sound tokens i w e)

-- parts
part_spans : (tokens : List Token) (i j : ℕ) (one : Part) → IsPart tokens i one j → Spans tokens i j
part_spans tokens i j one (g.column n kind options) =
    let s = kind_spans tokens kind in
    let t = repeated_spans (option_at tokens) (IsOption tokens) tokens (option_spans tokens) options s.1 in
    (omega arith, t.1)
part_spans tokens i j one (g.primary_key w n those) = let s = names_spans tokens those in (omega arith, s.1)
part_spans tokens i j one (g.unique w those) = let s = names_spans tokens those in (omega arith, s.1)
part_spans tokens i j one (g.foreign_key w n those r t others) =
    let s = names_spans tokens those in
    let u = table_spans tokens t in
    let m = maybe_names_spans tokens others u.1 in
    (omega arith, m.1)

all_reserved : list_all (λ (entry : List ℕ × PartWord). is_reserved (folded entry.0)) part_words ≡ true
unfolding is_reserved
all_reserved = refl

part_complete : (tokens : List Token) (i j : ℕ) (one : Part) → IsPart tokens i one j → Stops tokens j → part_at tokens i ≡ Some (one, j)
part_complete tokens i j one (g.column n kind options) stops =
    let s = kind_spans tokens kind in
    let begins = repeated_starts (option_at tokens) (IsOption tokens) tokens (option_spans tokens) (Ends tokens) (option_starts tokens) (option_complete tokens) options stops.ends in
    let e = kind_complete tokens kind begins.no_open in
    let no_option = stops.no_option in
    let none : option_at tokens j ≡ None = rw no_option refl in
    let f = repeated_at_complete (option_at tokens) (IsOption tokens) tokens (option_spans tokens) (Ends tokens) (option_starts tokens) (option_complete tokens) options stops.ends none s.1 in
    rw (n, e, f) refl
part_complete tokens i j one (g.primary_key w n those) stops =
    let none = meant_no_name part_words tokens i p.Primary all_reserved w in
    let e = names_complete tokens those in
    rw (none, w, n, e) refl
part_complete tokens i j one (g.unique w those) stops =
    let none = meant_no_name part_words tokens i p.Unique all_reserved w in
    let e = names_complete tokens those in
    rw (none, w, e) refl
part_complete tokens i j one (g.foreign_key w n those r t others) stops =
    let none = meant_no_name part_words tokens i p.Foreign all_reserved w in
    let e = names_complete tokens those in
    let f = table_complete tokens t (maybe_names_dot tokens others stops.ends.no_dot) in
    let m = maybe_names_complete tokens others stops.ends.no_open in
    rw (none, w, n, e, r, f, m) refl

column_sound : (tokens : List Token) (i : ℕ) (name : List ℕ) → name_at tokens i ≡ Some name → Sound (λ (r : Part × ℕ). IsPart tokens i r.0 r.1) (column_at tokens name (i + 1))
column_sound tokens i name is =
    sound_map (λ (r : Part × ℕ). IsPart tokens i r.0 r.1) (λ (kind : Kind × ℕ). column_with name kind.0 (repeated_at (option_at tokens) tokens kind.1)) (kind_at tokens (i + 1))
    (λ kind e. g.column is (kind_sound tokens (i + 1) kind e) (repeated_at_sound (option_at tokens) (IsOption tokens) tokens (option_spans tokens) (option_sound tokens) kind.1))

constraint_sound : (tokens : List Token) (i j : ℕ) → ((those : List (List ℕ)) (l : ℕ) → IsNames tokens j those l → IsPart tokens i (Constraint those) l) → Sound (λ (r : Part × ℕ). IsPart tokens i r.0 r.1) (constraint_at tokens j)
constraint_sound tokens i j rule =
    sound_map (λ (r : Part × ℕ). IsPart tokens i r.0 r.1) (λ (those : List (List ℕ) × ℕ). (Constraint those.0, those.1)) (names_at tokens j)
    (λ those e. rule those.0 those.1 (names_sound tokens j those e))

foreign_sound : (tokens : List Token) (i : ℕ) → part_word_at tokens i ≡ Some p.Foreign → word_at (codes "key") tokens (i + 1) ≡ true → (those : List (List ℕ) × ℕ) → IsNames tokens (i + 2) those.0 those.1
    → Sound (λ (r : Part × ℕ). IsPart tokens i r.0 r.1) (foreign_after tokens those)
foreign_sound tokens i is n those h =
    sound_when (λ (r : Part × ℕ). IsPart tokens i r.0 r.1) (word_at (codes "references") tokens those.1) (option_and_then (foreign_of tokens those.0) (table_at tokens (those.1 + 1)))
    (λ w. sound_bind (λ (r : Part × ℕ). IsPart tokens i r.0 r.1) (foreign_of tokens those.0) (table_at tokens (those.1 + 1))
    (λ table t. sound_map (λ (r : Part × ℕ). IsPart tokens i r.0 r.1) (λ (others : List (List ℕ) × ℕ). (Constraint those.0, others.1)) (maybe_names_at tokens table.1)
    (λ others m. g.foreign_key is n h w (table_sound tokens (those.1 + 1) table t) (maybe_names_sound tokens table.1 others m))))

constraint_by_sound : (tokens : List Token) (i : ℕ) (w : PartWord) → part_word_at tokens i ≡ Some w → Sound (λ (r : Part × ℕ). IsPart tokens i r.0 r.1) (constraint_by tokens i w)
constraint_by_sound tokens i p.Primary is =
    sound_when (λ (r : Part × ℕ). IsPart tokens i r.0 r.1) (word_at (codes "key") tokens (i + 1)) (constraint_at tokens (i + 2))
    (λ n. constraint_sound tokens i (i + 2) (λ those l h. g.primary_key is n h))
constraint_by_sound tokens i p.Unique is = constraint_sound tokens i (i + 1) (λ those l h. g.unique is h)
constraint_by_sound tokens i p.Foreign is =
    sound_when (λ (r : Part × ℕ). IsPart tokens i r.0 r.1) (word_at (codes "key") tokens (i + 1)) (option_and_then (foreign_after tokens) (names_at tokens (i + 2)))
    (λ n. sound_bind (λ (r : Part × ℕ). IsPart tokens i r.0 r.1) (foreign_after tokens) (names_at tokens (i + 2))
    (λ those e. foreign_sound tokens i is n those (names_sound tokens (i + 2) those e)))

part_by_sound : (tokens : List Token) (i : ℕ) (name : Option (List ℕ)) → name_at tokens i ≡ name → Sound (λ (r : Part × ℕ). IsPart tokens i r.0 r.1) (part_by tokens i name)
part_by_sound tokens i (Some name) is = column_sound tokens i name is
part_by_sound tokens i None is =
    sound_bind (λ (r : Part × ℕ). IsPart tokens i r.0 r.1) (constraint_by tokens i) (part_word_at tokens i) (λ w e. constraint_by_sound tokens i w e)

part_sound : (tokens : List Token) (i : ℕ) → Sound (λ (r : Part × ℕ). IsPart tokens i r.0 r.1) (part_at tokens i)
part_sound tokens i = part_by_sound tokens i (name_at tokens i) refl

pub parts_complete : (tokens : List Token) {i j : ℕ} {parts : List Part} → Listed (IsPart tokens) tokens i parts j → is_sign_at mark.Close tokens j ≡ true → listed_at (part_at tokens) tokens i ≡ Some (parts, j)
parts_complete tokens {j = j} d c =
    listed_at_complete (part_at tokens) (IsPart tokens) tokens (part_spans tokens) (Stops tokens) (comma_stops tokens) (part_complete tokens) d (close_stops tokens j c) (close_comma (sign_at tokens j) c)

pub parts_sound : (tokens : List Token) (i : ℕ) → Sound (λ (r : List Part × ℕ). Listed (IsPart tokens) tokens i r.0 r.1) (listed_at (part_at tokens) tokens i)
parts_sound tokens i = listed_at_sound (part_at tokens) (IsPart tokens) tokens (part_spans tokens) (part_sound tokens) i

-- attributes
attribute_spans : (tokens : List Token) (i j : ℕ) (one : Attribute) → IsAttribute tokens i one j → Spans tokens i j
attribute_spans tokens i j one (g.style {style = s} w n) = let h = meant_within style_words tokens (i + 1) s n in (omega arith, omega arith)
attribute_spans tokens i j one (g.dist_key w b n c) = let h = close_within tokens (i + 3) c in (omega arith, omega arith)
attribute_spans tokens i j one (g.sort_key w those) = let s = names_spans tokens those in (omega arith, s.1)
attribute_spans tokens i j one (g.compound w n those) = let s = names_spans tokens those in (omega arith, s.1)
attribute_spans tokens i j one (g.sort_auto w n) = let h = word_within (codes "auto") tokens (i + 1) n in (omega arith, omega arith)
attribute_spans tokens i j one (g.encode_auto w n) = let h = word_within (codes "auto") tokens (i + 1) n in (omega arith, omega arith)
attribute_spans tokens i j one (g.backup w n) = on (or_either (word_at (codes "yes") tokens (i + 1)) (word_at (codes "no") tokens (i + 1)) n)
  where
    on : (word_at (codes "yes") tokens (i + 1) ≡ true) ⊎ (word_at (codes "no") tokens (i + 1) ≡ true) → Spans tokens i (i + 2)
    on (inl e) = let h = word_within (codes "yes") tokens (i + 1) e in (omega arith, omega arith)
    on (inr e) = let h = word_within (codes "no") tokens (i + 1) e in (omega arith, omega arith)

names_auto : (tokens : List Token) {i j : ℕ} {those : List (List ℕ)} → IsNames tokens i those j → word_at (codes "auto") tokens i ≡ false
names_auto tokens (names {i} b list c) = sign_no_word (codes "auto") (is_sign mark.Open) tokens i refl b

attribute_starts : (tokens : List Token) (i j : ℕ) (one : Attribute) → IsAttribute tokens i one j → Anything i
attribute_starts tokens i j one h = tt

attribute_complete : (tokens : List Token) (i j : ℕ) (one : Attribute) → IsAttribute tokens i one j → Anything j → attribute_at tokens i ≡ Some (one, j)
attribute_complete tokens i j one (g.style w n) after = rw (w, n) refl
attribute_complete tokens i j one (g.dist_key w b n c) after = rw (w, b, n, c) refl
attribute_complete tokens i j one (g.sort_key w those) after =
    let n = names_auto tokens those in let e = names_complete tokens those in rw (w, n, e) refl
attribute_complete tokens i j one (g.compound w n those) after = let e = names_complete tokens those in rw (w, n, e) refl
attribute_complete tokens i j one (g.sort_auto w n) after = rw (w, n) refl
attribute_complete tokens i j one (g.encode_auto w n) after = rw (w, n) refl
attribute_complete tokens i j one (g.backup w n) after = rw (w, n) refl

sort_key_sound : (tokens : List Token) (i j : ℕ) → ((those : List (List ℕ)) (l : ℕ) → IsNames tokens j those l → IsAttribute tokens i (attribute.SortKey those) l) → Sound (λ (r : Attribute × ℕ). IsAttribute tokens i r.0 r.1) (sort_key_at tokens j)
sort_key_sound tokens i j rule =
    sound_map (λ (r : Attribute × ℕ). IsAttribute tokens i r.0 r.1) (λ (those : List (List ℕ) × ℕ). (attribute.SortKey those.0, those.1)) (names_at tokens j)
    (λ those e. rule those.0 those.1 (names_sound tokens j those e))

attribute_by_sound : (tokens : List Token) (i : ℕ) (w : AttributeWord) → attribute_word_at tokens i ≡ Some w → Sound (λ (r : Attribute × ℕ). IsAttribute tokens i r.0 r.1) (attribute_by tokens i w)
attribute_by_sound tokens i a.DistStyle is =
    sound_map (λ (r : Attribute × ℕ). IsAttribute tokens i r.0 r.1) (λ (one : Attribute). (one, i + 2)) (option_map (λ (style : StyleWord). attribute.Style style) (style_word tokens (i + 1)))
    (sound_map (λ (one : Attribute). IsAttribute tokens i one (i + 2)) (λ (style : StyleWord). attribute.Style style) (style_word tokens (i + 1)) (λ style e. g.style is e))
attribute_by_sound tokens i a.DistKey is =
    sound_when (λ (r : Attribute × ℕ). IsAttribute tokens i r.0 r.1) (is_sign_at mark.Open tokens (i + 1))
    (option_and_then (λ (name : List ℕ). when (is_sign_at mark.Close tokens (i + 3)) (attribute.DistKey name, i + 4)) (name_at tokens (i + 2)))
    (λ b. sound_bind (λ (r : Attribute × ℕ). IsAttribute tokens i r.0 r.1) (λ (name : List ℕ). when (is_sign_at mark.Close tokens (i + 3)) (attribute.DistKey name, i + 4)) (name_at tokens (i + 2))
    (λ name n. sound_when (λ (r : Attribute × ℕ). IsAttribute tokens i r.0 r.1) (is_sign_at mark.Close tokens (i + 3)) (Some (attribute.DistKey name, i + 4))
    (λ c. sound_some (λ (r : Attribute × ℕ). IsAttribute tokens i r.0 r.1) (attribute.DistKey name, i + 4) (g.dist_key is b n c))))
attribute_by_sound tokens i a.Compound is =
    sound_when (λ (r : Attribute × ℕ). IsAttribute tokens i r.0 r.1) (word_at (codes "sortkey") tokens (i + 1)) (sort_key_at tokens (i + 2))
    (λ n. sort_key_sound tokens i (i + 2) (λ those l h. g.compound is n h))
attribute_by_sound tokens i a.SortKey is =
    sound_if (λ (r : Attribute × ℕ). IsAttribute tokens i r.0 r.1) (word_at (codes "auto") tokens (i + 1)) (Some (attribute.Idle, i + 2)) (sort_key_at tokens (i + 1))
    (λ n. sound_some (λ (r : Attribute × ℕ). IsAttribute tokens i r.0 r.1) (attribute.Idle, i + 2) (g.sort_auto is n))
    (λ n. sort_key_sound tokens i (i + 1) (λ those l h. g.sort_key is h))
attribute_by_sound tokens i a.Encode is =
    sound_when (λ (r : Attribute × ℕ). IsAttribute tokens i r.0 r.1) (word_at (codes "auto") tokens (i + 1)) (Some (attribute.Idle, i + 2))
    (λ n. sound_some (λ (r : Attribute × ℕ). IsAttribute tokens i r.0 r.1) (attribute.Idle, i + 2) (g.encode_auto is n))
attribute_by_sound tokens i a.Backup is =
    sound_when (λ (r : Attribute × ℕ). IsAttribute tokens i r.0 r.1) (word_at (codes "yes") tokens (i + 1) || word_at (codes "no") tokens (i + 1)) (Some (attribute.Idle, i + 2))
    (λ n. sound_some (λ (r : Attribute × ℕ). IsAttribute tokens i r.0 r.1) (attribute.Idle, i + 2) (g.backup is n))

attribute_sound : (tokens : List Token) (i : ℕ) → Sound (λ (r : Attribute × ℕ). IsAttribute tokens i r.0 r.1) (attribute_at tokens i)
attribute_sound tokens i =
    sound_bind (λ (r : Attribute × ℕ). IsAttribute tokens i r.0 r.1) (attribute_by tokens i) (attribute_word_at tokens i) (λ w e. attribute_by_sound tokens i w e)

pub attributes_complete : (tokens : List Token) {i j : ℕ} {attributes : List Attribute} → Repeated (IsAttribute tokens) i attributes j → j ≡ length tokens → i ≤ length tokens → repeated_at (attribute_at tokens) tokens i ≡ (attributes, j)
attributes_complete tokens {j = j} d last within =
    let past = past_meant attribute_words tokens j last in
    let none : attribute_at tokens j ≡ None = rw past refl in
    repeated_at_complete (attribute_at tokens) (IsAttribute tokens) tokens (attribute_spans tokens) Anything (attribute_starts tokens) (attribute_complete tokens) d tt none within

pub attributes_sound : (tokens : List Token) (i : ℕ) → Repeated (IsAttribute tokens) i (repeated_at (attribute_at tokens) tokens i).0 (repeated_at (attribute_at tokens) tokens i).1
attributes_sound tokens i = repeated_at_sound (attribute_at tokens) (IsAttribute tokens) tokens (attribute_spans tokens) (attribute_sound tokens) i
