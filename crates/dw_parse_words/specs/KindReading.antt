-- Kinds, as tokens read. Each reading gives what it found at a place, and the place after it.
use Rattle.std.specs.Prelude.{ℕ, ◌+◌, Bool, if◌then◌else◌, Option, Some, None, List, codes}
use Rattle.std.specs.Option.{option_map, option_and_then}
use Rattle.dw_lex.specs.declared.token.Token.{Token}
use Rattle.dw_lex.specs.declared.signs.Sign.TheVariants as mark
use Rattle.dw_value.specs.declared.kinds.Kind.{Kind}
use Rattle.dw_value.specs.declared.kinds.Kind.TheVariants as kinds
use Rattle.dw_parse_words.specs.declared.parts.KindWord.{KindWord}
use Rattle.dw_parse_words.specs.declared.parts.KindWord.TheVariants as kind_words
use Rattle.dw_parse_words.specs.Words.{is_sign_at, word_at}
use Rattle.dw_parse_words.specs.Kinds.{kind_word, length_in, precision_at, scale_at}

-- this, where the test is passed
abbrev pub when : {A : Type 0} → Bool → A → Option A
when test found = if test then Some found else None

-- `[( n )]` or `[( max )]`
abbrev pub length_at : ℕ → ℕ → List Token → ℕ → Option (ℕ × ℕ)
length_at limit unwritten tokens i =
    if is_sign_at mark.Open tokens i
    then option_and_then (λ n. when (is_sign_at mark.Close tokens (i + 2)) (n, i + 3)) (length_in limit tokens (i + 1))
    else Some (unwritten, i)

-- `[( p )]` or `[( p , s )]`
abbrev pub scaled_at : List Token → ℕ → ℕ → Option ((ℕ × ℕ) × ℕ)
scaled_at tokens i p =
    option_and_then (λ s. when (is_sign_at mark.Close tokens (i + 4)) ((p, s), i + 5)) (scale_at p tokens (i + 3))

abbrev pub precise_at : List Token → ℕ → ℕ → Option ((ℕ × ℕ) × ℕ)
precise_at tokens i p =
    if is_sign_at mark.Comma tokens (i + 2)
    then scaled_at tokens i p else when (is_sign_at mark.Close tokens (i + 2)) ((p, 0), i + 3)

abbrev pub precision_and_scale_at : List Token → ℕ → Option ((ℕ × ℕ) × ℕ)
precision_and_scale_at tokens i =
    if is_sign_at mark.Open tokens i
    then option_and_then (precise_at tokens i) (precision_at tokens (i + 1)) else Some ((18, 0), i)

-- a kind by its first word, which is at this place
abbrev pub char_at : List Token → ℕ → Option (Kind × ℕ)
char_at tokens i = option_map (λ n. (kinds.Char n.0, n.1)) (length_at 4096 1 tokens i)

abbrev pub varchar_at : List Token → ℕ → Option (Kind × ℕ)
varchar_at tokens i = option_map (λ n. (kinds.Varchar n.0, n.1)) (length_at 65535 256 tokens i)

abbrev pub decimal_at : List Token → ℕ → Option (Kind × ℕ)
decimal_at tokens i = option_map (λ d. (kinds.Decimal d.0.0 d.0.1, d.1)) (precision_and_scale_at tokens i)

abbrev pub kind_by : List Token → ℕ → KindWord → Option (Kind × ℕ)
kind_by tokens i (kind_words.Plain kind) = Some (kind, i + 1)
kind_by tokens i kind_words.Decimal = decimal_at tokens (i + 1)
kind_by tokens i kind_words.Char = char_at tokens (i + 1)
kind_by tokens i kind_words.Character =
    if word_at (codes "varying") tokens (i + 1) then varchar_at tokens (i + 2) else char_at tokens (i + 1)
kind_by tokens i kind_words.Varchar = varchar_at tokens (i + 1)

abbrev pub kind_at : List Token → ℕ → Option (Kind × ℕ)
kind_at tokens i = option_and_then (kind_by tokens i) (kind_word tokens i)
