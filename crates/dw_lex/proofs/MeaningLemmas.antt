-- What a token says is UTF-8, and is the number that its digits write.
use Rattle.std.proofs.Common.{◌≡◌, ℕ, ◌+◌, ◌<◌, ◌^◌, Bool, true, false, eqb, Some, Result, Ok, Err, List, [], ◌∷◌, ◌++◌, length, take, drop, get_or, refl, ap, subst, append_assoc, arith, rules}
use Rattle.std.specs.Char.{is_ascii_digit}
use Rattle.std.specs.List.{list_all}
use Rattle.std.specs.Result.{OkIff, result_ok}
use Rattle.std.specs.Str.{IsUtf8}
use Rattle.std.specs.Str.Parse.{ParsesUnsigned, digits_value}
use Rattle.std.proofs.lemmas.Bool.{lt-ltb}
use Rattle.std.proofs.lemmas.Bool.Decides.{nat_tests}
use Rattle.std.proofs.lemmas.Str.{IsUtf8-take, IsUtf8-drop, IsUtf8-append, IsCharBoundary-before_ascii, IsCharBoundary-after_ascii}
use Rattle.std.proofs.lemmas.Str.Parse.{IsNumeralModel, numerals_by_value, parse_digits}
use Rattle.std.proofs.lemmas.List.{take_at, length-append}
use Rattle.std.proofs.Math.Seq.{get_or-append_seam, drop-append-add}
use Rattle.dw_lex.specs.Characters.{quote}
use Rattle.dw_lex.specs.Meaning.{said_after, said_by, number_of_digits}

-- a text stays UTF-8 without one of its ASCII characters
IsUtf8-without : (xs bs : List ℕ) (b : ℕ) → b < 128 → IsUtf8 (xs ++ b ∷ bs) → IsUtf8 (xs ++ bs)
IsUtf8-without xs bs b small u =
    let whole : List ℕ = xs ++ b ∷ bs in
    let at : get_or whole (length xs) 0 ≡ b = get_or-append_seam xs b bs 0 in
    let long : length xs < length whole = omega (arith, length-append xs (b ∷ bs)) in
    let ascii : get_or whole (length xs) 0 < 128 = omega arith in
    let front = IsUtf8-take whole (length xs) u (IsCharBoundary-before_ascii whole (length xs) long ascii) in
    let back = IsUtf8-drop whole (length xs + 1) u (IsCharBoundary-after_ascii whole (length xs) u long ascii) in
    let taken : take (length xs) whole ≡ xs = take_at xs (b ∷ bs) (length xs) refl in
    let dropped : drop (length xs + 1) whole ≡ bs = drop-append-add xs (b ∷ bs) 1 in
    IsUtf8-append xs bs (subst IsUtf8 taken front) (subst IsUtf8 dropped back)

-- one byte of a text, by what is said after it
said_after-byte : (xs bs : List ℕ) (b : ℕ) (pending is_quote : Bool) → eqb b quote ≡ is_quote → IsUtf8 (xs ++ b ∷ said_after bs false)
    → (is_quote ≡ true → IsUtf8 (xs ++ said_after bs true)) → IsUtf8 (xs ++ said_after (b ∷ bs) pending)
said_after-byte xs bs b true true e kept left = rw e kept
said_after-byte xs bs b false true e kept left = rw e (left refl)
said_after-byte xs bs b pending false e kept left = rw e kept

quote_is_ascii : (b : ℕ) → eqb b quote ≡ true → b < 128
quote_is_ascii b e = grind (arith, nat_tests)

IsUtf8-said_after : (xs bs : List ℕ) (pending : Bool) → IsUtf8 (xs ++ bs) → IsUtf8 (xs ++ said_after bs pending)
IsUtf8-said_after xs [] pending u = u
IsUtf8-said_after xs (b ∷ bs) pending u =
    said_after-byte xs bs b pending (eqb b quote) refl
    (rw append_assoc at (IsUtf8-said_after (xs ++ b ∷ []) bs false (rw append_assoc u)))
    (λ e. IsUtf8-said_after xs bs true (IsUtf8-without xs bs b (quote_is_ascii b e) u))

said_by-byte : (bs : List ℕ) (b : ℕ) (is_quote : Bool) → eqb b quote ≡ is_quote → IsUtf8 (said_after (b ∷ bs) false)
    → (is_quote ≡ true → IsUtf8 (said_after bs false)) → IsUtf8 (said_by (b ∷ bs))
said_by-byte bs b true e kept left = rw e (left refl)
said_by-byte bs b false e kept left = rw e (rw e at kept)

pub IsUtf8-said_by : (bs : List ℕ) → IsUtf8 bs → IsUtf8 (said_by bs)
IsUtf8-said_by [] u = u
IsUtf8-said_by (b ∷ bs) u =
    said_by-byte bs b (eqb b quote) refl (IsUtf8-said_after [] (b ∷ bs) false u)
    (λ e. IsUtf8-said_after [] bs false (IsUtf8-without [] bs b (quote_is_ascii b e) u))

digits : IsNumeralModel (λ ds. list_all is_ascii_digit ds ≡ true) (digits_value 10)
digits = numerals_by_value _ (search rules)

parsed : {E : Type 0} (text : List ℕ) (r : Result ℕ E) → OkIff r ((0 < length text) × (digits_value 10 text < 2 ^ 128)) (digits_value 10 text)
    → list_all is_ascii_digit text ≡ true → result_ok r ≡ number_of_digits text
parsed text (Ok x) h all =
    let long = lt-ltb 0 (length text) h.0.0 in
    let small = lt-ltb (digits_value 10 text) (2 ^ 128) h.0.1 in
    rw (all, long, small) (ap Some h.1)
parsed text (Err e) h all = grind (arith, nat_tests)

pub parsed_digits : {E : Type 0} (text : List ℕ) (r : Result ℕ E) → ParsesUnsigned 128 10 text r → list_all is_ascii_digit text ≡ true → result_ok r ≡ number_of_digits text
parsed_digits text r h all = parsed text r (parse_digits digits 128 text r h all) all
