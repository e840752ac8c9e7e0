-- Numbers, fields, items one after another and the first line are read again.
use Rattle.std.proofs.Common.{◌≡◌, ℕ, zero, suc, ◌≤◌, ◌<◌, ◌^◌, Bool, true, false, cond, List, [], ◌∷◌, ◌++◌, length, Some, None, ltb, get_or, refl, ◌∙◌, ap, subst, arith, append_assoc, codes, inl, inr}
use Rattle.std.specs.Option.{option_map_or}
use Rattle.std.specs.Prelude.{decimal, flat_map}
use Rattle.std.specs.Char.{is_ascii_digit}
use Rattle.std.specs.List.{list_all, AllByRecursion}
use Rattle.std.specs.Str.{IsUtf8, is_utf8}
use Rattle.std.specs.Str.Parse.{digits_value}
use Rattle.std.proofs.lemmas.Bool.{and_parts}
use Rattle.std.proofs.lemmas.Bool.Decides.{eqb_tells, nat_tests}
use Rattle.std.proofs.lemmas.List.{length-append}
use Rattle.std.proofs.lemmas.Str.{is_utf8-from_IsUtf8}
use Rattle.std.proofs.lemmas.Fmt.{decimal_digit, decimal_nonempty, digits_decimal, digits_value-decimal, first_decimal}
use Rattle.dw_value.specs.declared.values.Field.{Field}
use Rattle.dw_value.specs.declared.values.Field.TheVariants.{Null, Shown}
use Rattle.dw_print.specs.Fields.{escape, field, shown_field, barred, numbers_text}
use Rattle.dw_print.specs.Rows.{names_line, fields_line}
use Rattle.dw_print.specs.Typed.{IsLong, IsShort, IsTypedField}
use Rattle.dw_read_report.specs.Readable.{AreReadable, IsFromTo, IsWithinLimits}
use Rattle.dw_print.specs.Report.{header}
use Rattle.dw_read_report.specs.ReportReading.{shape_at, shape_of}
use Rattle.dw_read_report.specs.Reading.{Reading, ◌>>=◌, after_digits, after_label, all_items, barred_at, digits_at, ends_field, field_after, field_at, has_zero_first, items_at, long_number, meaning, names_at, number_at, number_of, row_at, sessions_at, short_number, shown_at, statement_at, text_at, with_front, word_at}
use Rattle.dw_read_report.proofs.Numbers.{numerals}
use Rattle.dw_read_report.proofs.TakenParts.{header_is, place_text}
use Rattle.dw_read_report.proofs.Again.{Again, Anything, again_after, again_before, again_both, label_again, meant_again, next_is, no_word, second_again}

-- numbers
abbrev pub begins_with_digit : List ℕ → Bool
begins_with_digit [] = false
begins_with_digit (byte ∷ bytes) = is_ascii_digit byte

abbrev pub IsAfterNumber : List ℕ → Type 0
IsAfterNumber rest = begins_with_digit rest ≡ false

digits_again : (digits rest : List ℕ) → list_all is_ascii_digit digits ≡ true → IsAfterNumber rest
    → (digits_at (digits ++ rest) ≡ digits) × (after_digits (digits ++ rest) ≡ rest)
digits_again [] [] all ends = (refl, refl)
digits_again [] (byte ∷ rest) all ends = (rw ends refl, rw ends refl)
digits_again (digit ∷ digits) rest all ends =
    let parts = and_parts (is_ascii_digit digit) (list_all is_ascii_digit digits) all in
    let later = digits_again digits rest parts.1 ends in
    (rw parts.0 (ap (λ more. digit ∷ more) later.0), rw parts.0 later.1)

no_zero : (digits : List ℕ) → (get_or digits 0 0 ≡ 48 → ⊥) → has_zero_first digits ≡ false
no_zero [] none = refl
no_zero (digit ∷ []) none = refl
no_zero (digit ∷ next ∷ digits) none = elim (eqb_tells digit 48) [ inl a ↦ absurd (none a.1) | inr a ↦ a.0 ]

no_zero_printed : (n : ℕ) → n < 2 ^ 64 → has_zero_first (decimal n) ≡ false
no_zero_printed zero small = ap has_zero_first (decimal_digit 0 (omega arith))
no_zero_printed (suc n) small = no_zero (decimal (suc n)) (λ is. omega (arith, first_decimal (suc n) (omega arith) small, is))

value_again : (digits : List ℕ) (n : ℕ) → 0 < length digits → has_zero_first digits ≡ false → digits_value 10 digits ≡ n
    → ltb n (2 ^ 64) ≡ true → number_of digits ≡ Some n
value_again [] n some plain is small = absurd (omega arith)
value_again (digit ∷ digits) n some plain is small = rw (plain, is, small) refl

is_less : (a b : ℕ) → a < b → ltb a b ≡ true
is_less a b less = grind (arith, nat_tests, less)

is_not_less : (a b : ℕ) → b ≤ a → ltb a b ≡ false
is_not_less a b above = grind (arith, nat_tests, above)

pub again_number : (least most : ℕ) → most < 2 ^ 64 → Again decimal (IsFromTo least most) IsAfterNumber (number_at least most)
unfolding number_at
again_number least most fits_64 = record {
  whole = λ n rest fits ends.
      let at_most : n ≤ most = fits.1 in
      let small : n < 2 ^ 64 = omega arith in
      let read = digits_again (decimal n) rest (digits_decimal numerals n small) ends in
      next_is (number_of (digits_at (decimal n ++ rest))) n
      (λ value. cond (ltb value least) None (cond (ltb most value) None (Some (value, after_digits (decimal n ++ rest))))) (Some (n, rest))
      (ap number_of read.0
      ∙ value_again (decimal n) n (decimal_nonempty n small) (no_zero_printed n small) (digits_value-decimal numerals n small) (is_less n (2 ^ 64) small))
      (rw (is_not_less n least fits.0, is_not_less most n fits.1, read.1) refl);
}

pub again_short : Again decimal IsShort IsAfterNumber short_number
again_short = record { whole = λ n rest fits ends. (again_number 0 4294967295 (omega arith)).whole n rest (omega arith, fits) ends }

pub again_long : Again decimal IsLong IsAfterNumber long_number
again_long = record { whole = λ n rest fits ends. (again_number 0 18446744073709551615 (omega arith)).whole n rest (omega arith, fits) ends }

pub again_statement : Again place_text (λ x. IsShort x.0 × IsShort x.1) IsAfterNumber statement_at
unfolding statement_at
again_statement = again_both again_short (again_after (codes " ") again_short) (λ b rest fits. refl)

-- fields
abbrev pub ends_fields : List ℕ → Bool
ends_fields [] = true
ends_fields (byte ∷ bytes) = ends_field byte

abbrev pub IsAfterField : List ℕ → Type 0
IsAfterField rest = ends_fields rest ≡ true

byte_again : (byte : ℕ) (bytes rest text : List ℕ) → field_after false bytes ≡ Some (text, rest)
    → field_after false (escape byte ++ bytes) ≡ Some (byte ∷ text, rest)
byte_again byte bytes rest text later =
    elim (eqb_tells byte 92) [
      | inl is ↦ rw is.1 (rw later refl)
      | inr a ↦ elim (eqb_tells byte 124) [
        | inl is ↦ rw is.1 (rw later refl)
        | inr b ↦ elim (eqb_tells byte 10) [
          | inl is ↦ rw is.1 (rw later refl)
          | inr c ↦ elim (eqb_tells byte 13) [
            | inl is ↦ rw is.1 (rw later refl)
            | inr d ↦ simp (a.0, b.0, c.0, d.0, later)
          ]
        ]
      ]
    ]

field_goes : (text rest : List ℕ) → IsAfterField rest → field_after false (field text ++ rest) ≡ Some (text, rest)
field_goes [] [] ends = refl
field_goes [] (byte ∷ rest) ends = rw ends refl
field_goes (byte ∷ text) rest ends =
    ap (field_after false) (append_assoc (escape byte) (field text) rest) ∙ byte_again byte (field text ++ rest) rest text (field_goes text rest ends)

pub field_again : (text rest : List ℕ) → IsAfterField rest → field_at (field text ++ rest) ≡ Some (text, rest)
unfolding field_at
field_again text rest ends = field_goes text rest ends

pub again_text : Again field IsUtf8 IsAfterField text_at
unfolding text_at
again_text = record {
  whole = λ text rest fits ends.
      next_is (field_at (field text ++ rest)) (text, rest) (λ x. cond (is_utf8 x.0) (Some x) None) (Some (text, rest)) (field_again text rest ends)
      (rw (is_utf8-from_IsUtf8 text fits) refl);
}

-- no field is printed as what stands for NULL
null_is_none : (text rest : List ℕ) → IsAfterField rest → after_label (codes "\\N") (field text ++ rest) ≡ None
null_is_none [] [] ends = refl
null_is_none [] (byte ∷ rest) ends = elim (eqb_tells byte 92) [ inl a ↦ absurd (cc (rw a.1 at ends)) | inr a ↦ rw a.0 refl ]
null_is_none (byte ∷ text) rest ends =
    elim (eqb_tells byte 92) [
      | inl is ↦ rw is.1 refl
      | inr a ↦ elim (eqb_tells byte 124) [
        | inl is ↦ rw is.1 refl
        | inr b ↦ elim (eqb_tells byte 10) [
          | inl is ↦ rw is.1 refl
          | inr c ↦ elim (eqb_tells byte 13) [
            | inl is ↦ rw is.1 refl
            | inr d ↦ simp (a.0, b.0, c.0, d.0)
          ]
        ]
      ]
    ]

shown_again : (shown : Field) (rest : List ℕ) → IsTypedField shown → IsAfterField rest → shown_at (shown_field shown ++ rest) ≡ Some (shown, rest)
unfolding shown_at
shown_again Null rest fits ends = refl
shown_again (Shown text) rest fits ends =
    second_again (word_at (codes "\\N") Null) (meaning Shown text_at) (field text ++ rest) (Some (Shown text, rest))
    (no_word (codes "\\N") Null (field text ++ rest) (null_is_none text rest ends))
    (meant_again Shown again_text text rest (field text) fits ends refl)

pub again_shown : Again shown_field IsTypedField IsAfterField shown_at
again_shown = record { whole = shown_again }

-- items
items_go_on : {A : Type 0} (text : A → List ℕ) (MayFollow : List ℕ → Type 0) (label : List ℕ) → ((more : List ℕ) → MayFollow (label ++ more))
    → (items : List A) (rest : List ℕ) → MayFollow rest → MayFollow (flat_map (λ a. label ++ text a) items ++ rest)
items_go_on text MayFollow label goes_on [] rest ends = ends
items_go_on text MayFollow label goes_on (a ∷ items) rest ends =
    let others : List ℕ = flat_map (λ a. label ++ text a) items in
    let same : label ++ (text a ++ (others ++ rest)) ≡ ((label ++ text a) ++ others) ++ rest = simp append_assoc in
    subst MayFollow same (goes_on (text a ++ (others ++ rest)))

items_again : {A : Type 0} (text : A → List ℕ) (Fits : A → Type 0) (MayFollow : List ℕ → Type 0) (label : List ℕ) (item : Reading A)
    → Again text Fits MayFollow item → ((more : List ℕ) → MayFollow (label ++ more)) → (most : ℕ) (items : List A) (rest : List ℕ) → length items ≤ most
    → AllByRecursion Fits items → after_label label rest ≡ None → MayFollow rest
    → items_at most label item (flat_map (λ a. label ++ text a) items ++ rest) ≡ Some (items, rest)
items_again text Fits MayFollow label item one goes_on zero [] rest few fits none ends = refl
items_again text Fits MayFollow label item one goes_on zero (a ∷ items) rest few fits none ends = absurd (omega arith)
items_again text Fits MayFollow label item one goes_on (suc most) [] rest few fits none ends = rw none refl
items_again text Fits MayFollow label item one goes_on (suc most) (a ∷ items) rest few fits none ends =
    let others : List ℕ = flat_map (λ a. label ++ text a) items in
    let same : ((label ++ text a) ++ others) ++ rest ≡ label ++ (text a ++ (others ++ rest)) = simp append_assoc in
    let fewer : length items ≤ most = omega arith in
    ap (items_at (suc most) label item) same
    ∙ ap (λ found. option_map_or (λ more. item more >>= λ first. with_front (first.0 ∷ []) (items_at most label item first.1)) found
    (Some ([], label ++ (text a ++ (others ++ rest))))) (label_again label (text a ++ (others ++ rest)))
    ∙ next_is (item (text a ++ (others ++ rest))) (a, others ++ rest) (λ first. with_front (first.0 ∷ []) (items_at most label item first.1)) (Some (a ∷ items, rest))
    (one.whole a (others ++ rest) fits.0 (items_go_on text MayFollow label goes_on items rest ends))
    (ap (with_front (a ∷ [])) (items_again text Fits MayFollow label item one goes_on most items rest fewer fits.1 none ends))

items_are_few : {A : Type 0} (text : A → List ℕ) (label : List ℕ) → 0 < length label → (items : List A) (rest : List ℕ)
    → length items ≤ length (flat_map (λ a. label ++ text a) items ++ rest)
items_are_few text label some [] rest = omega arith
items_are_few text label some (a ∷ items) rest =
    let others : List ℕ = flat_map (λ a. label ++ text a) items in
    let later : length items ≤ length (others ++ rest) = items_are_few text label some items rest in
    omega (arith, later, length-append others rest, length-append ((label ++ text a) ++ others) rest, length-append (label ++ text a) others, length-append label (text a))

-- what may stand after items, each after a label
abbrev pub IsAfterItems : List ℕ → (List ℕ → Type 0) → List ℕ → Type 0
IsAfterItems label MayFollow rest = (after_label label rest ≡ None) × MayFollow rest

pub again_items : {A : Type 0} {text : A → List ℕ} {Fits : A → Type 0} {MayFollow : List ℕ → Type 0} {item : Reading A} (label : List ℕ)
    → 0 < length label → Again text Fits MayFollow item → ((more : List ℕ) → MayFollow (label ++ more))
    → Again (flat_map (λ a. label ++ text a)) (AllByRecursion Fits) (IsAfterItems label MayFollow) (all_items label item)
again_items {text = text} {Fits = Fits} {MayFollow = MayFollow} {item = item} label some one goes_on = record {
  whole = λ items rest fits ends.
      items_again text Fits MayFollow label item one goes_on (length (flat_map (λ a. label ++ text a) items ++ rest)) items rest
      (items_are_few text label some items rest) fits ends.0 ends.1;
}

pub again_sessions : Again numbers_text (AllByRecursion IsShort) (IsAfterItems (codes " ") IsAfterNumber) sessions_at
unfolding sessions_at
again_sessions = again_items (codes " ") (omega arith) again_short (λ more. refl)

barred_again : {A : Type 0} (text : A → List ℕ) (Fits : A → Type 0) (MayFollow : List ℕ → Type 0) (item : Reading A) → Again text Fits MayFollow item
    → ((more : List ℕ) → MayFollow (codes "|" ++ more)) → (items : List A) (rest : List ℕ) → AreReadable Fits items
    → IsAfterItems (codes "|") MayFollow rest → barred_at item (barred text items ++ rest) ≡ Some (items, rest)
barred_again text Fits MayFollow item one goes_on [] rest fits ends = absurd fits
barred_again text Fits MayFollow item one goes_on (a ∷ items) rest fits ends =
    let others : List ℕ = flat_map (λ a. codes "|" ++ text a) items in
    ap (barred_at item) (append_assoc (text a) others rest)
    ∙ next_is (item (text a ++ (others ++ rest))) (a, others ++ rest) (λ first. with_front (first.0 ∷ []) (all_items (codes "|") item first.1)) (Some (a ∷ items, rest))
    (one.whole a (others ++ rest) fits.0 (items_go_on text MayFollow (codes "|") goes_on items rest ends.1))
    (ap (with_front (a ∷ [])) ((again_items (codes "|") (omega arith) one goes_on).whole items rest fits.1 ends))

pub again_barred : {A : Type 0} {text : A → List ℕ} {Fits : A → Type 0} {MayFollow : List ℕ → Type 0} {item : Reading A} → Again text Fits MayFollow item
    → ((more : List ℕ) → MayFollow (codes "|" ++ more)) → Again (barred text) (AreReadable Fits) (IsAfterItems (codes "|") MayFollow) (barred_at item)
again_barred {text = text} {Fits = Fits} {MayFollow = MayFollow} {item = item} one goes_on = record { whole = barred_again text Fits MayFollow item one goes_on }

pub again_names : Again names_line (AreReadable IsUtf8) Anything names_at
unfolding names_at
again_names = record {
  whole = λ names rest fits any.
      meant_again (λ (x : List (List ℕ)). x) (again_before (codes "\n") (again_after (codes "= ") (again_barred again_text (λ more. refl))) (λ more. (refl, refl)))
      names rest (names_line names) fits tt (simp append_assoc);
}

pub again_row : Again fields_line (AreReadable IsTypedField) Anything row_at
unfolding row_at
again_row = record {
  whole = λ fields rest fits any.
      meant_again (λ (x : List Field). x) (again_before (codes "\n") (again_after (codes "- ") (again_barred again_shown (λ more. refl))) (λ more. (refl, refl)))
      fields rest (fields_line fields) fits tt (simp append_assoc);
}

pub again_shape : Again header IsWithinLimits Anything shape_at
unfolding shape_at
again_shape = record {
  whole = λ shape rest fits any.
      let x : (((ℕ × ℕ) × ℕ) × ℕ) × ℕ = ((((shape.nodes, shape.slices), shape.clusters), shape.slots), shape.sessions) in
      meant_again shape_of (again_before (codes "\n") (again_both (again_both (again_both (again_both
      (again_after (codes "warehouse nodes ") (again_number 1 16 (omega arith))) (again_after (codes " slices ") (again_number 1 16 (omega arith))) (λ b more fit. refl))
      (again_after (codes " clusters ") (again_number 0 9 (omega arith))) (λ b more fit. refl)) (again_after (codes " slots ") (again_number 1 50 (omega arith))) (λ b more fit. refl))
      (again_after (codes " sessions ") (again_number 1 64 (omega arith))) (λ b more fit. refl)) (λ more. refl))
      x rest (header shape) ((((fits.0, fits.1), fits.2), fits.3), fits.4) tt (header_is x);
}
