-- The grammar of kinds. After the Amazon Redshift guide (data types).
use Rattle.std.specs.Prelude.{◌≡◌, ℕ, ◌+◌, true, false, Some, List, codes}
use Rattle.dw_lex.specs.declared.token.Token.{Token}
use Rattle.dw_lex.specs.declared.signs.Sign.TheVariants as mark
use Rattle.dw_value.specs.declared.kinds.Kind.{Kind}
use Rattle.dw_value.specs.declared.kinds.Kind.TheVariants as kinds
use Rattle.dw_parse_words.specs.declared.parts.KindWord.TheVariants as kind_words
use Rattle.dw_parse_words.specs.Words.{is_sign_at, word_at}
use Rattle.dw_parse_words.specs.Kinds.{kind_word, length_in, precision_at, scale_at}

-- `[( n )]` or `[( max )]`: how many bytes a text may have, where so many are the most, and where none are written
pub data IsLength (limit unwritten : ℕ) (tokens : List Token) : ℕ → ℕ → ℕ → Type 0 where
  absent : {i : ℕ} → IsLength limit unwritten tokens i unwritten i
  present : {i n : ℕ} → is_sign_at mark.Open tokens i ≡ true → length_in limit tokens (i + 1) ≡ Some n
      → is_sign_at mark.Close tokens (i + 2) ≡ true → IsLength limit unwritten tokens i n (i + 3)

-- `[( p )]` or `[( p , s )]`: how many digits a DECIMAL has, and how many of them after the point
pub data IsDigits (tokens : List Token) : ℕ → ℕ × ℕ → ℕ → Type 0 where
  absent : {i : ℕ} → IsDigits tokens i (18, 0) i
  whole : {i p : ℕ} → is_sign_at mark.Open tokens i ≡ true → precision_at tokens (i + 1) ≡ Some p
      → is_sign_at mark.Close tokens (i + 2) ≡ true → IsDigits tokens i (p, 0) (i + 3)
  scaled : {i p s : ℕ} → is_sign_at mark.Open tokens i ≡ true → precision_at tokens (i + 1) ≡ Some p
      → is_sign_at mark.Comma tokens (i + 2) ≡ true → scale_at p tokens (i + 3) ≡ Some s
      → is_sign_at mark.Close tokens (i + 4) ≡ true → IsDigits tokens i (p, s) (i + 5)

-- a kind: one word; `decimal` or `numeric` with its digits; `char`, `character`, `varchar` or `character varying` with
-- its length
pub data IsKind (tokens : List Token) : ℕ → Kind → ℕ → Type 0 where
  plain : {i : ℕ} {kind : Kind} → kind_word tokens i ≡ Some (kind_words.Plain kind) → IsKind tokens i kind (i + 1)
  decimal : {i j : ℕ} {digits : ℕ × ℕ} → kind_word tokens i ≡ Some kind_words.Decimal
      → IsDigits tokens (i + 1) digits j → IsKind tokens i (kinds.Decimal digits.0 digits.1) j
  char : {i j n : ℕ} → kind_word tokens i ≡ Some kind_words.Char → IsLength 4096 1 tokens (i + 1) n j
      → IsKind tokens i (kinds.Char n) j
  character : {i j n : ℕ} → kind_word tokens i ≡ Some kind_words.Character
      → word_at (codes "varying") tokens (i + 1) ≡ false → IsLength 4096 1 tokens (i + 1) n j
      → IsKind tokens i (kinds.Char n) j
  varchar : {i j n : ℕ} → kind_word tokens i ≡ Some kind_words.Varchar → IsLength 65535 256 tokens (i + 1) n j
      → IsKind tokens i (kinds.Varchar n) j
  varying : {i j n : ℕ} → kind_word tokens i ≡ Some kind_words.Character → word_at (codes "varying") tokens (i + 1) ≡ true
      → IsLength 65535 256 tokens (i + 2) n j → IsKind tokens i (kinds.Varchar n) j
