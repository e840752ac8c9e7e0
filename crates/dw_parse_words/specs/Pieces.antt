-- The grammar of what statements are made of: lists, names, literals. Places are counted in tokens, from 0, and each rule
-- says what the tokens from one place up to another derive. The rules are this project's profile of the SQL of the
-- Amazon Redshift guide.
use Rattle.std.specs.Prelude.{◌≡◌, ℕ, ◌+◌, true, false, Some, List, [], ◌∷◌, codes}
use Rattle.dw_lex.specs.declared.token.Token.{Token}
use Rattle.dw_lex.specs.declared.signs.Sign.TheVariants as mark
use Rattle.dw_model.specs.declared.statements.Literal.{Literal}
use Rattle.dw_model.specs.declared.statements.Literal.TheVariants.{Null, Words, Date, Truth}
use Rattle.dw_parse_words.specs.declared.parts.LiteralWord.TheVariants as word
use Rattle.dw_parse_words.specs.Words.{is_sign_at, word_at, name_at}
use Rattle.dw_parse_words.specs.Literals.{literal_word, digits_at, text_at, number_of_digits, negative_of_digits}

-- `x {, x}`
pub data Listed {A : Type 0} (X : ℕ → A → ℕ → Type 0) (tokens : List Token) : ℕ → List A → ℕ → Type 0 where
  one : {i j : ℕ} {a : A} → X i a j → Listed X tokens i (a ∷ []) j
  more : {i j k : ℕ} {a : A} {xs : List A} → X i a j → is_sign_at mark.Comma tokens j ≡ true
      → Listed X tokens (j + 1) xs k → Listed X tokens i (a ∷ xs) k

-- `{x}`
pub data Repeated {A : Type 0} (X : ℕ → A → ℕ → Type 0) : ℕ → List A → ℕ → Type 0 where
  nothing : {i : ℕ} → Repeated X i [] i
  next : {i j k : ℕ} {a : A} {xs : List A} → X i a j → Repeated X j xs k → Repeated X i (a ∷ xs) k

-- `name`
pub data IsNamed (tokens : List Token) : ℕ → List ℕ → ℕ → Type 0 where
  named : {i : ℕ} {name : List ℕ} → name_at tokens i ≡ Some name → IsNamed tokens i name (i + 1)

-- `[public .] name`
pub data IsTable (tokens : List Token) : ℕ → List ℕ → ℕ → Type 0 where
  alone : {i : ℕ} {name : List ℕ} → name_at tokens i ≡ Some name → IsTable tokens i name (i + 1)
  public : {i : ℕ} {name : List ℕ} → word_at (codes "public") tokens i ≡ true
      → is_sign_at mark.Dot tokens (i + 1) ≡ true → name_at tokens (i + 2) ≡ Some name → IsTable tokens i name (i + 3)

-- `( name {, name} )`
pub data IsNames (tokens : List Token) : ℕ → List (List ℕ) → ℕ → Type 0 where
  names : {i j : ℕ} {those : List (List ℕ)} → is_sign_at mark.Open tokens i ≡ true
      → Listed (IsNamed tokens) tokens (i + 1) those j → is_sign_at mark.Close tokens j ≡ true
      → IsNames tokens i those (j + 1)

-- `[names]`
pub data IsMaybeNames (tokens : List Token) : ℕ → List (List ℕ) → ℕ → Type 0 where
  none : {i : ℕ} → IsMaybeNames tokens i [] i
  some : {i j : ℕ} {those : List (List ℕ)} → IsNames tokens i those j → IsMaybeNames tokens i those j

-- `[-] number`, a text, `date` and a text, `true`, `false` or `null`
pub data IsLiteral (tokens : List Token) : ℕ → Literal → ℕ → Type 0 where
  number : {i : ℕ} {n : ℕ × ℕ} → digits_at tokens i ≡ Some n → IsLiteral tokens i (number_of_digits n) (i + 1)
  negative : {i : ℕ} {n : ℕ × ℕ} → is_sign_at mark.Minus tokens i ≡ true → digits_at tokens (i + 1) ≡ Some n
      → IsLiteral tokens i (negative_of_digits n) (i + 2)
  text : {i : ℕ} {said : List ℕ} → text_at tokens i ≡ Some said → IsLiteral tokens i (Words said) (i + 1)
  date : {i : ℕ} {said : List ℕ} → literal_word tokens i ≡ Some word.Date → text_at tokens (i + 1) ≡ Some said
      → IsLiteral tokens i (Date said) (i + 2)
  true_word : {i : ℕ} → literal_word tokens i ≡ Some word.True → IsLiteral tokens i (Truth true) (i + 1)
  false_word : {i : ℕ} → literal_word tokens i ≡ Some word.False → IsLiteral tokens i (Truth false) (i + 1)
  null_word : {i : ℕ} → literal_word tokens i ≡ Some word.Null → IsLiteral tokens i Null (i + 1)

-- `( literal {, literal} )`
pub data IsTuple (tokens : List Token) : ℕ → List Literal → ℕ → Type 0 where
  tuple : {i j : ℕ} {literals : List Literal} → is_sign_at mark.Open tokens i ≡ true
      → Listed (IsLiteral tokens) tokens (i + 1) literals j → is_sign_at mark.Close tokens j ≡ true
      → IsTuple tokens i literals (j + 1)
