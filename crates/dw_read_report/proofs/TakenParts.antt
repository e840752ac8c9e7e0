-- Numbers, fields, and items one after another: what is read stands there as it is printed.
use Rattle.std.proofs.Common.{◌≡◌, ℕ, zero, suc, ◌≤◌, ◌<◌, ◌^◌, Bool, true, false, cond, List, [], ◌∷◌, ◌++◌, length, Option, Some, None, eqb, ltb, refl, sym, ◌∙◌, ap, arith, append_assoc, codes, inl, inr}
use Rattle.std.specs.Option.{option_map_or}
use Rattle.std.specs.Prelude.{decimal, flat_map}
use Rattle.std.specs.Char.{is_ascii_digit}
use Rattle.std.specs.List.{list_all, AllByRecursion}
use Rattle.std.specs.Str.{IsUtf8, is_utf8}
use Rattle.std.specs.Str.Parse.{digits_value}
use Rattle.std.proofs.lemmas.Bool.Decides.{eqb_tells, nat_tests}
use Rattle.std.proofs.lemmas.Str.{IsUtf8-from_is_utf8}
use Rattle.std.proofs.lemmas.Fmt.{decimal-digits_value}
use Rattle.dw_value.specs.declared.values.Field.TheVariants.{Null, Shown}
use Rattle.dw_print.specs.Fields.{escape, field, shown_field, barred, numbers_text}
use Rattle.dw_print.specs.Rows.{names_line, fields_line}
use Rattle.dw_print.specs.Typed.{IsLong, IsShort, IsTypedField}
use Rattle.dw_read_report.specs.Readable.{AreReadable, IsFromTo, IsWithinLimits}
use Rattle.dw_print.specs.Report.{header}
use Rattle.dw_read_report.specs.ReportReading.{shape_at, shape_of}
use Rattle.dw_read_report.specs.Reading.{Reading, ◌>>=◌, after_digits, after_label, all_items, barred_at, digits_at, ends_field, field_after, field_at, has_zero_first, items_at, long_number, names_at, number_at, number_of, row_at, sessions_at, short_number, shown_at, statement_at, text_at, unescaped, with_byte, with_front}
use Rattle.dw_read_report.proofs.Numbers.{numerals}
use Rattle.dw_read_report.proofs.Taking.{Takes, moved, bind_some, some_is, chosen, label_is_taken, takes_after, takes_before, takes_both, takes_meaning, takes_otherwise, takes_word}

one_before : (test : Bool) (byte : ℕ) (bytes digits rest : List ℕ) → bytes ≡ digits ++ rest
    → byte ∷ bytes ≡ cond test (byte ∷ digits) [] ++ cond test rest (byte ∷ bytes)
one_before true byte bytes digits rest same = ap (λ more. byte ∷ more) same
one_before false byte bytes digits rest same = refl

digits_before : (bytes : List ℕ) → bytes ≡ digits_at bytes ++ after_digits bytes
digits_before [] = refl
digits_before (byte ∷ bytes) =
    one_before (is_ascii_digit byte) byte bytes (digits_at bytes) (after_digits bytes) (digits_before bytes)

one_digit : (test : Bool) (byte : ℕ) (digits : List ℕ) → is_ascii_digit byte ≡ test → list_all is_ascii_digit digits ≡ true
    → list_all is_ascii_digit (cond test (byte ∷ digits) []) ≡ true
one_digit true byte digits is all = rw (is, all) refl
one_digit false byte digits is all = refl

all_digits : (bytes : List ℕ) → list_all is_ascii_digit (digits_at bytes) ≡ true
all_digits [] = refl
all_digits (byte ∷ bytes) = one_digit (is_ascii_digit byte) byte (digits_at bytes) refl (all_digits bytes)

no_zero_first : (digit : ℕ) (digits : List ℕ) → has_zero_first (digit ∷ digits) ≡ false → digit ≡ 48 → length (digit ∷ digits) ≡ 1
no_zero_first digit [] plain zero_is = refl
no_zero_first digit (next ∷ digits) plain zero_is = absurd (cc (rw zero_is at plain))

small_is : (a b : ℕ) → ltb a b ≡ true → a < b
small_is a b is = grind (arith, nat_tests, is)

number_is : (digits : List ℕ) (value : ℕ) → list_all is_ascii_digit digits ≡ true → number_of digits ≡ Some value → decimal value ≡ digits
number_is [] value all is = absurd (cc is)
number_is (digit ∷ digits) value all is =
    let v = digits_value 10 (digit ∷ digits) in
    elim (chosen (has_zero_first (digit ∷ digits)) None (cond (ltb v (2 ^ 64)) (Some v) None) (Some value) is) [
      | inl a ↦ absurd (cc a.1)
      | inr a ↦ elim (chosen (ltb v (2 ^ 64)) (Some v) None (Some value) a.1) [
        | inl b ↦
            let same : v ≡ value = some_is v value b.1 in
            rw (← same) (decimal-digits_value numerals (digit ∷ digits) all (omega arith) (no_zero_first digit digits a.0) (small_is v (2 ^ 64) b.0))
        | inr b ↦ absurd (cc b.1)
      ]
    ]

not_less : (a b : ℕ) → ltb a b ≡ false → b ≤ a
not_less a b is = grind (arith, nat_tests, is)

pub takes_number : (least most : ℕ) → Takes decimal (IsFromTo least most) (number_at least most)
unfolding number_at
takes_number least most = record {
  whole = λ bytes rest n is.
      let step = bind_some (number_of (digits_at bytes)) (λ value. cond (ltb value least) None (cond (ltb most value) None (Some (value, after_digits bytes)))) (n, rest) is in
      elim (chosen (ltb step.0 least) None (cond (ltb most step.0) None (Some (step.0, after_digits bytes))) (Some (n, rest)) step.2) [
        | inl a ↦ absurd (cc a.1)
        | inr a ↦ elim (chosen (ltb most step.0) None (Some (step.0, after_digits bytes)) (Some (n, rest)) a.1) [
          | inl b ↦ absurd (cc b.1)
          | inr b ↦
              moved decimal (IsFromTo least most) bytes (after_digits bytes) rest step.0 n b.1
              (digits_before bytes ∙ ap (λ digits. digits ++ after_digits bytes) (sym (number_is (digits_at bytes) step.0 (all_digits bytes) step.1)))
              (not_less step.0 least a.0, not_less most step.0 b.0)
        ]
      ];
}

pub takes_short : Takes decimal IsShort short_number
takes_short = record { whole = λ bytes rest n is. let here = (takes_number 0 4294967295).whole bytes rest n is in (here.0, here.1.1) }

pub takes_long : Takes decimal IsLong long_number
takes_long = record { whole = λ bytes rest n is. let here = (takes_number 0 18446744073709551615).whole bytes rest n is in (here.0, here.1.1) }

-- the session and the statement of a line
abbrev pub place_text : ℕ × ℕ → List ℕ
place_text x = decimal x.0 ++ (32 ∷ decimal x.1)

-- fields
abbrev backslash_before : Bool → List ℕ
backslash_before backslash = cond backslash (92 ∷ []) []

unescaped_is : (letter byte : ℕ) → unescaped letter ≡ Some byte → escape byte ≡ 92 ∷ letter ∷ []
unescaped_is letter byte is =
    elim (eqb_tells letter 92) [
      | inl a ↦ rw (← some_is 92 byte (rw a.0 at is), a.1) refl
      | inr a ↦ elim (eqb_tells letter 124) [
        | inl b ↦ rw (← some_is 124 byte (rw (a.0, b.0) at is), b.1) refl
        | inr b ↦ elim (eqb_tells letter 110) [
          | inl c ↦ rw (← some_is 10 byte (rw (a.0, b.0, c.0) at is), c.1) refl
          | inr c ↦ elim (eqb_tells letter 114) [
            | inl d ↦ rw (← some_is 13 byte (rw (a.0, b.0, c.0, d.0) at is), d.1) refl
            | inr d ↦ absurd (cc (rw (a.0, b.0, c.0, d.0) at is))
          ]
        ]
      ]
    ]

plain_is : (byte : ℕ) → ends_field byte ≡ false → eqb byte 92 ≡ false → escape byte ≡ byte ∷ []
plain_is byte goes_on plain =
    elim (eqb_tells byte 124) [
      | inl a ↦ absurd (cc (rw a.0 at goes_on))
      | inr a ↦ elim (eqb_tells byte 10) [
        | inl b ↦ absurd (cc (rw (a.0, b.0) at goes_on))
        | inr b ↦ elim (eqb_tells byte 13) [
          | inl c ↦ absurd (cc (rw (a.0, b.0, c.0) at goes_on))
          | inr c ↦ rw (plain, a.0, b.0, c.0) refl
        ]
      ]
    ]

field_taken : (backslash : Bool) (bytes rest text : List ℕ) → field_after backslash bytes ≡ Some (text, rest)
    → backslash_before backslash ++ bytes ≡ field text ++ rest
field_taken true [] rest text is = absurd (cc is)
field_taken false [] rest text is = (moved field (λ t. Unit {0}) [] [] rest [] text is refl tt).0
field_taken true (byte ∷ bytes) rest text is =
    let meant = bind_some (unescaped byte) (λ b. with_front (b ∷ []) (field_after false bytes)) (text, rest) is in
    let more = bind_some (field_after false bytes) (λ x. Some (meant.0 ∷ x.0, x.1)) (text, rest) meant.2 in
    (moved field (λ t. Unit {0}) (92 ∷ byte ∷ bytes) more.0.1 rest (meant.0 ∷ more.0.0) text more.2
    (rw (unescaped_is byte meant.0 meant.1) (ap (λ more. 92 ∷ byte ∷ more) (field_taken false bytes more.0.1 more.0.0 more.1))) tt).0
field_taken false (byte ∷ bytes) rest text is =
    elim (chosen (ends_field byte) (Some ([], byte ∷ bytes))
    (cond (eqb byte 92) (field_after true bytes) (with_byte (Some byte) (field_after false bytes))) (Some (text, rest)) is) [
      | inl a ↦
          (moved field (λ t. Unit {0}) (byte ∷ bytes) (byte ∷ bytes) rest [] text a.1 refl tt).0
      | inr a ↦ elim (eqb_tells byte 92) [
        | inl b ↦ rw b.1 (field_taken true bytes rest text (rw b.0 at a.1))
        | inr b ↦
            let more = bind_some (field_after false bytes) (λ x. Some (byte ∷ x.0, x.1)) (text, rest) (rw b.0 at a.1) in
            (moved field (λ t. Unit {0}) (byte ∷ bytes) more.0.1 rest (byte ∷ more.0.0) text more.2
            (rw (plain_is byte a.0 b.0) (ap (λ more. byte ∷ more) (field_taken false bytes more.0.1 more.0.0 more.1))) tt).0
      ]
    ]

pub field_is_taken : (bytes rest text : List ℕ) → field_at bytes ≡ Some (text, rest) → bytes ≡ field text ++ rest
unfolding field_at
field_is_taken bytes rest text is = field_taken false bytes rest text is

pub takes_text : Takes field IsUtf8 text_at
unfolding text_at
takes_text = record {
  whole = λ bytes rest text is.
      let a = bind_some (field_at bytes) (λ x. cond (is_utf8 x.0) (Some x) None) (text, rest) is in
      elim (chosen (is_utf8 a.0.0) (Some a.0) None (Some (text, rest)) a.2) [
        | inl b ↦
            moved field IsUtf8 bytes a.0.1 rest a.0.0 text b.1 (field_is_taken bytes a.0.1 a.0.0 a.1) (IsUtf8-from_is_utf8 a.0.0 b.0)
        | inr b ↦ absurd (cc b.1)
      ];
}

pub takes_shown : Takes shown_field IsTypedField shown_at
unfolding shown_at
takes_shown =
    takes_otherwise (takes_word (codes "\\N") Null shown_field IsTypedField refl tt)
    (takes_meaning Shown shown_field IsTypedField (λ text. refl) (λ text utf8. utf8) takes_text)

pub takes_statement : Takes place_text (λ x. IsShort x.0 × IsShort x.1) statement_at
unfolding statement_at
takes_statement = takes_both takes_short (takes_after (codes " ") takes_short)

abbrev AreTaken : {A : Type 0} → (A → List ℕ) → (A → Type 0) → List ℕ → List ℕ → List ℕ → List A → Type 0
AreTaken text Fits label bytes rest items = (bytes ≡ flat_map (λ a. label ++ text a) items ++ rest) × AllByRecursion Fits items

by_label : {A : Type 0} (text : A → List ℕ) (Fits : A → Type 0) (label : List ℕ) (item : Reading A) → Takes text Fits item
    → (most : ℕ) → ((bytes rest : List ℕ) (items : List A) → items_at most label item bytes ≡ Some (items, rest) → AreTaken text Fits label bytes rest items)
    → (bytes rest : List ℕ) (items : List A) (found : Option (List ℕ)) → after_label label bytes ≡ found
    → option_map_or (λ more. item more >>= λ first. with_front (first.0 ∷ []) (items_at most label item first.1)) found (Some ([], bytes)) ≡ Some (items, rest)
    → AreTaken text Fits label bytes rest items
by_label text Fits label item one most earlier bytes rest items None none is =
    moved (flat_map (λ a. label ++ text a)) (AllByRecursion Fits) bytes bytes rest [] items is refl tt
by_label text Fits label item one most earlier bytes rest items (Some more) there is =
    let first = bind_some (item more) (λ first. with_front (first.0 ∷ []) (items_at most label item first.1)) (items, rest) is in
    let others = bind_some (items_at most label item first.0.1) (λ x. Some (first.0.0 ∷ x.0, x.1)) (items, rest) first.2 in
    let here = one.whole more first.0.1 first.0.0 first.1 in
    let later = earlier first.0.1 others.0.1 others.0.0 others.1 in
    moved (flat_map (λ a. label ++ text a)) (AllByRecursion Fits) bytes others.0.1 rest (first.0.0 ∷ others.0.0) items others.2
    (label_is_taken label bytes more there ∙ ap (λ x. label ++ x) (here.0 ∙ ap (λ x. text first.0.0 ++ x) later.0) ∙ simp append_assoc)
    (here.1, later.1)

items_taken : {A : Type 0} (text : A → List ℕ) (Fits : A → Type 0) (label : List ℕ) (item : Reading A) → Takes text Fits item
    → (most : ℕ) (bytes rest : List ℕ) (items : List A) → items_at most label item bytes ≡ Some (items, rest)
    → AreTaken text Fits label bytes rest items
items_taken text Fits label item one zero bytes rest items is =
    moved (flat_map (λ a. label ++ text a)) (AllByRecursion Fits) bytes bytes rest [] items is refl tt
items_taken text Fits label item one (suc most) bytes rest items is =
    by_label text Fits label item one most (items_taken text Fits label item one most) bytes rest items (after_label label bytes) refl is

pub takes_items : {A : Type 0} {text : A → List ℕ} {Fits : A → Type 0} {item : Reading A} (label : List ℕ) → Takes text Fits item
    → Takes (flat_map (λ a. label ++ text a)) (AllByRecursion Fits) (all_items label item)
takes_items {text = text} {Fits = Fits} {item = item} label one = record {
  whole = λ bytes rest items is. items_taken text Fits label item one (length bytes) bytes rest items is;
}

pub takes_sessions : Takes numbers_text (AllByRecursion IsShort) sessions_at
unfolding sessions_at
takes_sessions = takes_items (codes " ") takes_short

pub takes_barred : {A : Type 0} {text : A → List ℕ} {Fits : A → Type 0} {item : Reading A} → Takes text Fits item
    → Takes (barred text) (AreReadable Fits) (barred_at item)
takes_barred {text = text} {Fits = Fits} {item = item} one = record {
  whole = λ bytes rest items is.
      let first = bind_some (item bytes) (λ first. with_front (first.0 ∷ []) (all_items (codes "|") item first.1)) (items, rest) is in
      let others = bind_some (all_items (codes "|") item first.0.1) (λ x. Some (first.0.0 ∷ x.0, x.1)) (items, rest) first.2 in
      let here = one.whole bytes first.0.1 first.0.0 first.1 in
      let more = items_taken text Fits (codes "|") item one (length first.0.1) first.0.1 others.0.1 others.0.0 others.1 in
      moved (barred text) (AreReadable Fits) bytes others.0.1 rest (first.0.0 ∷ others.0.0) items others.2
      (here.0 ∙ ap (λ x. text first.0.0 ++ x) more.0 ∙ simp append_assoc) (here.1, more.1);
}

pub takes_names : Takes names_line (AreReadable IsUtf8) names_at
unfolding names_at
takes_names =
    takes_meaning (λ names. names) names_line (AreReadable IsUtf8) (λ names. simp append_assoc) (λ names fits. fits)
    (takes_before (codes "\n") (takes_after (codes "= ") (takes_barred takes_text)))

pub takes_row : Takes fields_line (AreReadable IsTypedField) row_at
unfolding row_at
takes_row =
    takes_meaning (λ fields. fields) fields_line (AreReadable IsTypedField) (λ fields. simp append_assoc) (λ fields fits. fits)
    (takes_before (codes "\n") (takes_after (codes "- ") (takes_barred takes_shown)))

-- the first line
first_line : (a n b s c k d l e m f : List ℕ)
    → a ++ n ++ b ++ s ++ c ++ k ++ d ++ l ++ e ++ m ++ f
    ≡ (((((a ++ n) ++ (b ++ s)) ++ (c ++ k)) ++ (d ++ l)) ++ (e ++ m)) ++ f
first_line a n b s c k d l e m f = simp append_assoc

pub header_is : (x : (((ℕ × ℕ) × ℕ) × ℕ) × ℕ) → header (shape_of x)
    ≡ (((((codes "warehouse nodes " ++ decimal x.0.0.0.0) ++ (codes " slices " ++ decimal x.0.0.0.1))
    ++ (codes " clusters " ++ decimal x.0.0.1)) ++ (codes " slots " ++ decimal x.0.1)) ++ (codes " sessions " ++ decimal x.1)) ++ codes "\n"
unfolding header
header_is x =
    first_line (codes "warehouse nodes ") (decimal x.0.0.0.0) (codes " slices ") (decimal x.0.0.0.1) (codes " clusters ")
    (decimal x.0.0.1) (codes " slots ") (decimal x.0.1) (codes " sessions ") (decimal x.1) (codes "\n")

pub takes_shape : Takes header IsWithinLimits shape_at
unfolding shape_at
takes_shape =
    takes_meaning shape_of header IsWithinLimits header_is (λ x fits. (fits.0.0.0.0, fits.0.0.0.1, fits.0.0.1, fits.0.1, fits.1))
    (takes_before (codes "\n") (takes_both (takes_both (takes_both (takes_both
    (takes_after (codes "warehouse nodes ") (takes_number 1 16)) (takes_after (codes " slices ") (takes_number 1 16)))
    (takes_after (codes " clusters ") (takes_number 0 9))) (takes_after (codes " slots ") (takes_number 1 50)))
    (takes_after (codes " sessions ") (takes_number 1 64))))
