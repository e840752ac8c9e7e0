-- What is read stands at the front of the bytes as it is printed, and it fits.
use Rattle.std.proofs.Common.{◌≡◌, ℕ, Bool, true, false, cond, List, [], ◌∷◌, ◌++◌, Option, Some, None, refl, sym, ◌∙◌, ap, append_assoc, inl, inr, subst, ◌⊎◌}
use Rattle.std.specs.Option.{option_map_or}
use Rattle.std.proofs.lemmas.Bool.Decides.{eqb_tells}
use Rattle.dw_read_report.specs.Reading.{Reading, ◌>>=◌, after, after_label, before, both, meaning, otherwise, word_at}

pub record Takes {A : Type 0} (text : A → List ℕ) (Fits : A → Type 0) (read : Reading A) : Type 0 where
  pub whole : (bytes rest : List ℕ) (a : A) → read bytes ≡ Some (a, rest) → (bytes ≡ text a ++ rest) × Fits a

pub bind_some : {A B : Type 0} (read : Option A) (next : A → Option B) (y : B) → (read >>= next) ≡ Some y
    → (a : A) × (read ≡ Some a) × (next a ≡ Some y)
bind_some None next y is = absurd (cc is)
bind_some (Some a) next y is = (a, refl, is)

pub some_is : {A : Type 0} (x y : A) → Some x ≡ Some y → x ≡ y
some_is x y is = cc

-- what is read is a value and the rest, and so it stands there as it is printed
pub moved : {A : Type 0} (text : A → List ℕ) (Fits : A → Type 0) (bytes r rest : List ℕ) (x a : A) → ◌≡◌ {A = Option (A × List ℕ)} (Some (x, r)) (Some (a, rest))
    → (bytes ≡ text x ++ r) → Fits x → (bytes ≡ text a ++ rest) × Fits a
moved {A = A} text Fits bytes r rest x a is same fits =
    let front : A × List ℕ = (x, r) in
    let back : A × List ℕ = (a, rest) in
    subst (λ (y : A × List ℕ). (bytes ≡ text y.0 ++ y.1) × Fits y.0) (some_is front back is) (same, fits)

pub chosen : {A : Type 0} (test : Bool) (x y z : A) → cond test x y ≡ z → ((test ≡ true) × (x ≡ z)) ⊎ ((test ≡ false) × (y ≡ z))
chosen true x y z is = inl (refl, is)
chosen false x y z is = inr (refl, is)

pub label_is_taken : (label bytes rest : List ℕ) → after_label label bytes ≡ Some rest → bytes ≡ label ++ rest
label_is_taken [] bytes rest is = some_is bytes rest is
label_is_taken (letter ∷ label) [] rest is = absurd (cc is)
label_is_taken (letter ∷ label) (byte ∷ bytes) rest is =
    elim (eqb_tells byte letter) [
      | inl same ↦ rw same.1 (ap (λ more. letter ∷ more) (label_is_taken label bytes rest (rw same.0 at is)))
      | inr other ↦ absurd (cc (rw other.0 at is))
    ]

pub takes_word : {A : Type 0} (label : List ℕ) (value : A) (text : A → List ℕ) (Fits : A → Type 0) → text value ≡ label → Fits value
    → Takes text Fits (word_at label value)
takes_word label value text Fits same fits = record {
  whole = λ bytes rest a is.
      let step = bind_some (after_label label bytes) (λ rest. Some (value, rest)) (a, rest) is in
      moved text Fits bytes step.0 rest value a step.2 (rw same (label_is_taken label bytes step.0 step.1)) fits;
}

either : {A : Type 0} (first second : Option A) (x : A) → option_map_or Some first second ≡ Some x → (first ≡ Some x) ⊎ (second ≡ Some x)
either None second x is = inr is
either (Some a) second x is = inl is

pub takes_otherwise : {A : Type 0} {text : A → List ℕ} {Fits : A → Type 0} {first second : Reading A}
    → Takes text Fits first → Takes text Fits second → Takes text Fits (otherwise first second)
takes_otherwise {text = text} {Fits = Fits} {first = first} {second = second} one two = record {
  whole = λ bytes rest a is.
      elim (either (first bytes) (second bytes) (a, rest) is) [
        | inl is_first ↦ one.whole bytes rest a is_first
        | inr is_second ↦ two.whole bytes rest a is_second
      ];
}

pub takes_both : {A B : Type 0} {text : A → List ℕ} {more : B → List ℕ} {Fits : A → Type 0} {MoreFits : B → Type 0}
    {first : Reading A} {second : Reading B} → Takes text Fits first → Takes more MoreFits second
    → Takes (λ x. text x.0 ++ more x.1) (λ x. Fits x.0 × MoreFits x.1) (both first second)
takes_both {text = text} {more = more} {Fits = Fits} {MoreFits = MoreFits} {first = first} {second = second} one two = record {
  whole = λ bytes rest x is.
      let a = bind_some (first bytes) (λ a. second a.1 >>= λ b. Some ((a.0, b.0), b.1)) (x, rest) is in
      let b = bind_some (second a.0.1) (λ b. Some ((a.0.0, b.0), b.1)) (x, rest) a.2 in
      let here = one.whole bytes a.0.1 a.0.0 a.1 in
      let there = two.whole a.0.1 b.0.1 b.0.0 b.1 in
      moved (λ y. text y.0 ++ more y.1) (λ y. Fits y.0 × MoreFits y.1) bytes b.0.1 rest (a.0.0, b.0.0) x b.2
      (here.0 ∙ ap (λ next. text a.0.0 ++ next) there.0 ∙ sym (append_assoc (text a.0.0) (more b.0.0) b.0.1))
      (here.1, there.1);
}

pub takes_after : {A : Type 0} (label : List ℕ) {text : A → List ℕ} {Fits : A → Type 0} {part : Reading A}
    → Takes text Fits part → Takes (λ a. label ++ text a) Fits (after label part)
takes_after label {text = text} {part = part} one = record {
  whole = λ bytes rest a is.
      let step = bind_some (after_label label bytes) part (a, rest) is in
      let here = one.whole step.0 rest a step.2 in (
        label_is_taken label bytes step.0 step.1 ∙ ap (λ more. label ++ more) here.0 ∙ sym (append_assoc label (text a) rest),
        here.1,
      );
}

pub takes_before : {A : Type 0} (label : List ℕ) {text : A → List ℕ} {Fits : A → Type 0} {part : Reading A}
    → Takes text Fits part → Takes (λ a. text a ++ label) Fits (before part label)
takes_before label {text = text} {Fits = Fits} {part = part} one = record {
  whole = λ bytes rest x is.
      let a = bind_some (part bytes) (λ a. after_label label a.1 >>= λ rest. Some (a.0, rest)) (x, rest) is in
      let b = bind_some (after_label label a.0.1) (λ rest. Some (a.0.0, rest)) (x, rest) a.2 in
      let here = one.whole bytes a.0.1 a.0.0 a.1 in
      moved (λ y. text y ++ label) Fits bytes b.0 rest a.0.0 x b.2
      (here.0 ∙ ap (λ next. text a.0.0 ++ next) (label_is_taken label a.0.1 b.0 b.1) ∙ sym (append_assoc (text a.0.0) label b.0))
      here.1;
}

pub takes_meaning : {A B : Type 0} (meant : A → B) {text : A → List ℕ} {Fits : A → Type 0} (printed : B → List ℕ) (Readable : B → Type 0)
    {part : Reading A} → ((a : A) → printed (meant a) ≡ text a) → ((a : A) → Fits a → Readable (meant a))
    → Takes text Fits part → Takes printed Readable (meaning meant part)
takes_meaning meant {text = text} printed Readable {part = part} same fits one = record {
  whole = λ bytes rest x is.
      let a = bind_some (part bytes) (λ a. Some (meant a.0, a.1)) (x, rest) is in
      let here = one.whole bytes a.0.1 a.0.0 a.1 in
      moved printed Readable bytes a.0.1 rest (meant a.0.0) x a.2
      (here.0 ∙ ap (λ front. front ++ a.0.1) (sym (same a.0.0))) (fits a.0.0 here.1);
}
