-- A field read back gives the text that it was printed from.
use Rattle.std.proofs.Common.{◌≡◌, ℕ, false, List, [], ◌∷◌, ◌++◌, length, codes, refl, ◌∙◌, ap, sym, inl, inr, arith}
use Rattle.dw_value.specs.declared.values.Field.{Field}
use Rattle.dw_value.specs.declared.values.Field.TheVariants.{Null, Shown}
use Rattle.std.proofs.lemmas.Bool.Decides.{eqb_tells}
use Rattle.dw_print.specs.Fields.{escape, field, shown_field, text_after, text_of_field}

-- one byte, with whatever follows
escape_reads_back : (byte : ℕ) (rest : List ℕ) → text_after false (escape byte ++ rest) ≡ byte ∷ text_after false rest
escape_reads_back byte rest =
    elim (eqb_tells byte 92) [
      | inl is ↦ rw is.1 refl
      | inr a ↦ elim (eqb_tells byte 124) [
        | inl is ↦ rw is.1 refl
        | inr b ↦ elim (eqb_tells byte 10) [
          | inl is ↦ rw is.1 refl
          | inr c ↦ elim (eqb_tells byte 13) [
            | inl is ↦ rw is.1 refl
            | inr d ↦ simp (a.0, b.0, c.0, d.0)
          ]
        ]
      ]
    ]

pub field_reads_back : (bytes : List ℕ) → text_of_field (field bytes) ≡ bytes
field_reads_back [] = refl
field_reads_back (byte ∷ rest) =
    escape_reads_back byte (field rest) ∙ ap (λ bytes. byte ∷ bytes) (field_reads_back rest)

-- no text is printed as NULL is
null_is_no_text : (bytes : List ℕ) → field bytes ≡ codes "\\N" → ⊥
null_is_no_text bytes same =
    let is : bytes ≡ 78 ∷ [] = sym (field_reads_back bytes) ∙ ap text_of_field same in
    let lengths : length (field (78 ∷ [])) ≡ 2 = sym (ap (λ text. length (field text)) is) ∙ ap length same in
    omega arith

pub shown_apart : (a b : Field) → shown_field a ≡ shown_field b → a ≡ b
shown_apart Null Null same = refl
shown_apart Null (Shown text) same = absurd (null_is_no_text text (sym same))
shown_apart (Shown text) Null same = absurd (null_is_no_text text same)
shown_apart (Shown a) (Shown b) same =
    ap Shown (sym (field_reads_back a) ∙ ap text_of_field same ∙ field_reads_back b)
