-- A value of its kind that a column admits is a value of its kind, as the column holds it.
use Rattle.std.specs.Prelude.{nat_le}
use Rattle.std.proofs.Common.{◌≡◌, ℕ, ◌==◌, Bool, true, false, List, [], ◌∷◌, length, Ok, Err, if◌then◌else◌, refl, sym, ap, subst, ◌∙◌, IsTrue, ℤ, true≢false}
use Rattle.dw_value.specs.declared.kinds.Kind.{Kind}
use Rattle.dw_value.specs.declared.kinds.Kind.TheVariants.{Small, Int, Big, Decimal, Char, Varchar, Date, Bool as Boolean}
use Rattle.dw_value.specs.declared.kinds.Misfit.TheVariants.{Range, Length}
use Rattle.dw_value.specs.declared.values.Value.{Value}
use Rattle.dw_value.specs.declared.values.Value.TheVariants.{Number, Words, Day, Truth, Null}
use Rattle.dw_value.specs.Texts.{before_text, without_end_spaces}
use Rattle.dw_value.specs.Values.{goes_with, holds_number, text_within, held}
use Rattle.dw_value.specs.Kinds.{scale_of}
use Rattle.dw_value.specs.Assignment.{admitted}
use Rattle.dw_value.proofs.Rescaling.{rescaled_same}
use Rattle.dw_block.specs.Blocks.{IsValueOf}

blank : (byte : ℕ) (t : Bool) → (byte == 32) ≡ t → without_end_spaces (if t then [] else byte ∷ []) ≡ (if t then [] else byte ∷ [])
blank byte true e = refl
blank byte false e = ap (λ (b : Bool). if b then [] else byte ∷ []) e

once_by : (byte : ℕ) (rest : List ℕ) → without_end_spaces rest ≡ rest → without_end_spaces (before_text byte rest) ≡ before_text byte rest
once_by byte [] e = blank byte (byte == 32) refl
once_by byte (next ∷ rest) e = ap (before_text byte) e

-- spaces are dropped once
once : (text : List ℕ) → without_end_spaces (without_end_spaces text) ≡ without_end_spaces text
once [] = refl
once (byte ∷ rest) = once_by byte (without_end_spaces rest) (once rest)

number_by : (t : Bool) (n : ℤ) (w : Value) → (if t then Ok (Number n) else Err Range) ≡ Ok w → (w ≡ Number n) × (t ≡ true)
number_by true n w e = (cc, refl)
number_by false n w e = cc

text_by : (t : Bool) (text : List ℕ) (w : Value) → (if t then Ok (Words text) else Err Length) ≡ Ok w → (w ≡ Words text) × (t ≡ true)
text_by true text w e = (cc, refl)
text_by false text w e = cc

same_kind : (kind : Kind) (v w : Value) → w ≡ v → IsValueOf kind v → IsValueOf kind w
same_kind kind v w is of = subst (IsValueOf kind) (sym is) of

no : (kind : Kind) (w : Value) → false ≡ true → IsValueOf kind w
no kind w e = absurd (true≢false (sym e))

pub IsValueOf-admitted : (kind : Kind) (v w : Value) → IsTrue (goes_with kind v) → admitted kind v kind ≡ Ok w → IsValueOf kind w
IsValueOf-admitted kind (Number n) w goes e =
    let same : held kind (Number n) ≡ Ok w = ap (λ (m : ℤ). held kind (Number m)) (sym (rescaled_same (scale_of kind) n)) ∙ e in
    let r = number_by (holds_number kind n) n w same in
    let of : IsValueOf kind (Number n) = record { goes = goes; held = ap (λ (t : Bool). if t then Ok (Number n) else Err Range) r.1 } in
    same_kind kind (Number n) w r.0 of
IsValueOf-admitted (Char limit) (Words text) w goes e =
    let r = text_by (nat_le (length (without_end_spaces text)) limit) (without_end_spaces text) w e in
    let of : IsValueOf (Char limit) (Words (without_end_spaces text)) =
    record { goes = refl; held = ap (text_within limit) (once text) ∙ ap (λ (t : Bool). if t then Ok (Words (without_end_spaces text)) else Err Length) r.1 } in
    same_kind (Char limit) (Words (without_end_spaces text)) w r.0 of
IsValueOf-admitted (Varchar limit) (Words text) w goes e =
    let r = text_by (nat_le (length text) limit) text w e in
    let of : IsValueOf (Varchar limit) (Words text) = record { goes = refl; held = ap (λ (t : Bool). if t then Ok (Words text) else Err Length) r.1 } in
    same_kind (Varchar limit) (Words text) w r.0 of
IsValueOf-admitted Small (Words text) w goes e = no Small w goes
IsValueOf-admitted Int (Words text) w goes e = no Int w goes
IsValueOf-admitted Big (Words text) w goes e = no Big w goes
IsValueOf-admitted (Decimal precision scale) (Words text) w goes e = no (Decimal precision scale) w goes
IsValueOf-admitted Date (Words text) w goes e = no Date w goes
IsValueOf-admitted Boolean (Words text) w goes e = no Boolean w goes
IsValueOf-admitted kind (Day n) w goes e =
    let of : IsValueOf kind (Day n) = record { goes = goes; held = refl } in
    let same : w ≡ Day n = cc e in
    same_kind kind (Day n) w same of
IsValueOf-admitted kind (Truth b) w goes e =
    let of : IsValueOf kind (Truth b) = record { goes = goes; held = refl } in
    let same : w ≡ Truth b = cc e in
    same_kind kind (Truth b) w same of
IsValueOf-admitted kind Null w goes e =
    let of : IsValueOf kind Null = record { goes = goes; held = refl } in
    let same : w ≡ Null = cc e in
    same_kind kind Null w same of
