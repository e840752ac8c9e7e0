-- What statements are made of, as tokens read: lists, names, literals. Each reading gives what it found at a place, and the
-- place after it.
use Rattle.std.specs.Prelude.{ℕ, zero, suc, ◌+◌, Bool, true, false, ◌&&◌, if◌then◌else◌, Option, Some, None, List, [], ◌∷◌, length, codes}
use Rattle.std.specs.Option.{option_map, option_and_then}
use Rattle.dw_lex.specs.declared.token.Token.{Token}
use Rattle.dw_lex.specs.declared.signs.Sign.TheVariants as mark
use Rattle.dw_model.specs.declared.statements.Literal.{Literal}
use Rattle.dw_model.specs.declared.statements.Literal.TheVariants.{Null, Words, Date, Truth}
use Rattle.dw_parse_words.specs.declared.parts.LiteralWord.{LiteralWord}
use Rattle.dw_parse_words.specs.declared.parts.LiteralWord.TheVariants as word
use Rattle.dw_parse_words.specs.Words.{is_sign_at, word_at, name_at}
use Rattle.dw_parse_words.specs.Literals.{literal_word, digits_at, text_at, number_of_digits, negative_of_digits}

-- what was found, with the place after it
abbrev pub with_end : {A : Type 0} → ℕ → Option A → Option (A × ℕ)
with_end j found = option_map (λ a. (a, j)) found

-- `x {, x}`: one after the other as long as a comma stands between; there are at most as many as `limit`
abbrev pub first_and_more : {A : Type 0} → Option (A × ℕ) → (ℕ → Bool) → (ℕ → Option (List A × ℕ)) → Option (List A × ℕ)
first_and_more None comma more = None
first_and_more (Some one) comma more =
    if comma one.1 then option_map (λ rest. (one.0 ∷ rest.0, rest.1)) (more (one.1 + 1)) else Some (one.0 ∷ [], one.1)

abbrev pub listed_within : {A : Type 0} → (ℕ → Option (A × ℕ)) → List Token → ℕ → ℕ → Option (List A × ℕ)
listed_within x tokens zero i = None
listed_within x tokens (suc limit) i =
    first_and_more (x i) (λ j. is_sign_at mark.Comma tokens j) (listed_within x tokens limit)

abbrev pub listed_at : {A : Type 0} → (ℕ → Option (A × ℕ)) → List Token → ℕ → Option (List A × ℕ)
listed_at x tokens i = listed_within x tokens (suc (length tokens)) i

-- `{x}`: one after the other as long as there is one
abbrev pub first_and_rest : {A : Type 0} → ℕ → Option (A × ℕ) → (ℕ → List A × ℕ) → List A × ℕ
first_and_rest i None rest = ([], i)
first_and_rest i (Some one) rest = (one.0 ∷ (rest one.1).0, (rest one.1).1)

abbrev pub repeated_within : {A : Type 0} → (ℕ → Option (A × ℕ)) → ℕ → ℕ → List A × ℕ
repeated_within x zero i = ([], i)
repeated_within x (suc limit) i = first_and_rest i (x i) (repeated_within x limit)

abbrev pub repeated_at : {A : Type 0} → (ℕ → Option (A × ℕ)) → List Token → ℕ → List A × ℕ
repeated_at x tokens i = repeated_within x (suc (length tokens)) i

-- `[public .] name`
abbrev pub table_at : List Token → ℕ → Option (List ℕ × ℕ)
table_at tokens i =
    if word_at (codes "public") tokens i && is_sign_at mark.Dot tokens (i + 1)
    then with_end (i + 3) (name_at tokens (i + 2)) else with_end (i + 1) (name_at tokens i)

-- `name`
abbrev pub named_at : List Token → ℕ → Option (List ℕ × ℕ)
named_at tokens i = with_end (i + 1) (name_at tokens i)

-- what is found before a `)`
abbrev pub closed : {A : Type 0} → List Token → A × ℕ → Option (A × ℕ)
closed tokens found = if is_sign_at mark.Close tokens found.1 then Some (found.0, found.1 + 1) else None

-- `( name {, name} )`
abbrev pub names_at : List Token → ℕ → Option (List (List ℕ) × ℕ)
names_at tokens i =
    if is_sign_at mark.Open tokens i
    then option_and_then (closed tokens) (listed_at (named_at tokens) tokens (i + 1)) else None

-- `[names]`
abbrev pub maybe_names_at : List Token → ℕ → Option (List (List ℕ) × ℕ)
maybe_names_at tokens i = if is_sign_at mark.Open tokens i then names_at tokens i else Some ([], i)

-- `number` or a text
abbrev pub plain_of : ℕ → Option (ℕ × ℕ) → Option (List ℕ) → Option (Literal × ℕ)
plain_of i (Some n) said = Some (number_of_digits n, i + 1)
plain_of i None said = with_end (i + 1) (option_map (λ text. Words text) said)

-- a literal by the word at its place
abbrev pub literal_by : List Token → ℕ → Option LiteralWord → Option (Literal × ℕ)
literal_by tokens i (Some word.Null) = Some (Null, i + 1)
literal_by tokens i (Some word.True) = Some (Truth true, i + 1)
literal_by tokens i (Some word.False) = Some (Truth false, i + 1)
literal_by tokens i (Some word.Date) = with_end (i + 2) (option_map (λ text. Date text) (text_at tokens (i + 1)))
literal_by tokens i None = plain_of i (digits_at tokens i) (text_at tokens i)

-- `[-] number`, a text, `date` and a text, `true`, `false` or `null`
abbrev pub literal_at : List Token → ℕ → Option (Literal × ℕ)
literal_at tokens i =
    if is_sign_at mark.Minus tokens i
    then with_end (i + 2) (option_map (λ n. negative_of_digits n) (digits_at tokens (i + 1)))
    else literal_by tokens i (literal_word tokens i)

-- `( literal {, literal} )`
abbrev pub tuple_at : List Token → ℕ → Option (List Literal × ℕ)
tuple_at tokens i =
    if is_sign_at mark.Open tokens i
    then option_and_then (closed tokens) (listed_at (literal_at tokens) tokens (i + 1)) else None
