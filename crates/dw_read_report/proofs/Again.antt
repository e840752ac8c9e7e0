-- What is printed of a part is read again, before whatever the part can't go on with.
use Rattle.std.proofs.Common.{◌≡◌, ℕ, true, List, [], ◌∷◌, ◌++◌, Option, Some, None, refl, ◌∙◌, ap, append_assoc, eqb, inl, inr}
use Rattle.std.specs.Option.{option_map_or}
use Rattle.std.proofs.lemmas.Bool.Decides.{eqb_tells}
use Rattle.dw_read_report.specs.Reading.{Reading, ◌>>=◌, after, after_label, before, both, meaning, otherwise, word_at}

-- whatever fits is read from what is printed of it, before each rest that may stand after it
pub record Again {A : Type 0} (text : A → List ℕ) (Fits : A → Type 0) (MayFollow : List ℕ → Type 0) (read : Reading A) : Type 0 where
  pub whole : (a : A) (rest : List ℕ) → Fits a → MayFollow rest → read (text a ++ rest) ≡ Some (a, rest)

-- anything may stand after it
abbrev pub Anything : List ℕ → Type 0
Anything rest = Unit {0}

-- a step that was read, and what comes after it
pub next_is : {A B : Type 0} (read : Option A) (a : A) (next : A → Option B) (y : Option B) → read ≡ Some a → next a ≡ y → (read >>= next) ≡ y
next_is read a next y is later = ap (λ r. r >>= next) is ∙ later

same_byte : (byte : ℕ) → eqb byte byte ≡ true
same_byte byte = elim (eqb_tells byte byte) [ inl a ↦ a.0 | inr a ↦ absurd (a.1 refl) ]

pub label_again : (label rest : List ℕ) → after_label label (label ++ rest) ≡ Some rest
label_again [] rest = refl
label_again (letter ∷ label) rest = rw (same_byte letter) (label_again label rest)

pub second_again : {A : Type 0} (first second : Reading A) (bytes : List ℕ) (y : Option (A × List ℕ)) → first bytes ≡ None → second bytes ≡ y
    → otherwise first second bytes ≡ y
second_again first second bytes y none is = ap (λ r. option_map_or Some r (second bytes)) none ∙ is

pub no_word : {A : Type 0} (label : List ℕ) (value : A) (bytes : List ℕ) → after_label label bytes ≡ None → word_at label value bytes ≡ None
no_word {A = A} label value bytes none = ap (λ (r : Option (List ℕ)). ◌>>=◌ {B = A × List ℕ} r (λ rest. Some (value, rest))) none

pub again_both : {A B : Type 0} {text : A → List ℕ} {more : B → List ℕ} {Fits : A → Type 0} {MoreFits : B → Type 0}
    {MayFollow MoreFollow : List ℕ → Type 0} {first : Reading A} {second : Reading B}
    → Again text Fits MayFollow first → Again more MoreFits MoreFollow second
    → ((b : B) (rest : List ℕ) → MoreFits b → MayFollow (more b ++ rest))
    → Again (λ x. text x.0 ++ more x.1) (λ x. Fits x.0 × MoreFits x.1) MoreFollow (both first second)
again_both {text = text} {more = more} {first = first} {second = second} one two goes_on = record {
  whole = λ x rest fits ends.
      ap (both first second) (append_assoc (text x.0) (more x.1) rest)
      ∙ next_is (first (text x.0 ++ (more x.1 ++ rest))) (x.0, more x.1 ++ rest) (λ a. second a.1 >>= λ b. Some ((a.0, b.0), b.1)) (Some (x, rest))
      (one.whole x.0 (more x.1 ++ rest) fits.0 (goes_on x.1 rest fits.1))
      (next_is (second (more x.1 ++ rest)) (x.1, rest) (λ b. Some ((x.0, b.0), b.1)) (Some (x, rest)) (two.whole x.1 rest fits.1 ends) refl);
}

pub again_after : {A : Type 0} (label : List ℕ) {text : A → List ℕ} {Fits : A → Type 0} {MayFollow : List ℕ → Type 0} {part : Reading A}
    → Again text Fits MayFollow part → Again (λ a. label ++ text a) Fits MayFollow (after label part)
again_after label {text = text} {part = part} one = record {
  whole = λ a rest fits ends.
      next_is (after_label label ((label ++ text a) ++ rest)) (text a ++ rest) part (Some (a, rest))
      (ap (after_label label) (append_assoc label (text a) rest) ∙ label_again label (text a ++ rest)) (one.whole a rest fits ends);
}

pub again_before : {A : Type 0} (label : List ℕ) {text : A → List ℕ} {Fits : A → Type 0} {MayFollow : List ℕ → Type 0} {part : Reading A}
    → Again text Fits MayFollow part → ((rest : List ℕ) → MayFollow (label ++ rest)) → Again (λ a. text a ++ label) Fits Anything (before part label)
again_before label {text = text} {part = part} one ends = record {
  whole = λ a rest fits any.
      ap (before part label) (append_assoc (text a) label rest)
      ∙ next_is (part (text a ++ (label ++ rest))) (a, label ++ rest) (λ x. after_label label x.1 >>= λ more. Some (x.0, more)) (Some (a, rest))
      (one.whole a (label ++ rest) fits (ends rest))
      (next_is (after_label label (label ++ rest)) rest (λ more. Some (a, more)) (Some (a, rest)) (label_again label rest) refl);
}

-- what a part stands for is read from what is printed of the part
pub meant_again : {A B : Type 0} (meant : A → B) {text : A → List ℕ} {Fits : A → Type 0} {MayFollow : List ℕ → Type 0} {part : Reading A}
    → Again text Fits MayFollow part → (a : A) (rest printed : List ℕ) → Fits a → MayFollow rest → printed ≡ text a
    → meaning meant part (printed ++ rest) ≡ Some (meant a, rest)
meant_again meant {text = text} {part = part} one a rest printed fits ends same =
    ap (λ front. meaning meant part (front ++ rest)) same
    ∙ next_is (part (text a ++ rest)) (a, rest) (λ x. Some (meant x.0, x.1)) (Some (meant a, rest)) (one.whole a rest fits ends) refl
