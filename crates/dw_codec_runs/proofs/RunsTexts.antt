-- Texts as the values of runs.
use Rattle.std.proofs.Common.{◌≡◌, ℕ, ◌+◌, ◌-◌, ◌≤◌, ◌<◌, List, [], ◌∷◌, ◌++◌, length, take, get_or, sym, ap, ◌∙◌, append_assoc, arith, inl, inr}
use Rattle.std.specs.Prelude.{All, replicate}
use Rattle.std.specs.Str.{bytes_eq}
use Rattle.std.proofs.Math.Seq.{take-append-add}
use Rattle.std.proofs.lemmas.Bool.{cases_lt}
use Rattle.std.proofs.lemmas.List.{length-replicate, get_or_past}
use Rattle.std.proofs.lemmas.List.Elements.{All-nil, All-get_or, All-from_get_or, All-replicate}
use Rattle.std.proofs.lemmas.Slice.Eq.{bytes_eq-Decides}
use Rattle.dw_codec_plain.specs.Numbers.{low_bytes}
use Rattle.dw_codec_plain.specs.Encodings.{IsText, raw_text}
use Rattle.dw_codec_plain.proofs.Naturals.{AreBytes, length-low_bytes}
use Rattle.dw_codec_plain.proofs.TextItems.{texts_apart, length-raw_text}
use Rattle.dw_codec_runs.proofs.RunsLast.{IsOtherLast, other_last}
use Rattle.dw_codec_runs.proofs.RunsValues.{IsAnother, IsCode}

text_bytes : (text : List ℕ) → All (λ byte. byte < 256) text → AreBytes text
text_bytes text all i = elim (cases_lt i (length text)) [
  | inl lt ↦ All-get_or (λ byte. byte < 256) text i 0 lt all
  | inr past ↦ let e : get_or text i 0 ≡ 0 = get_or_past text i 0 past in omega arith
]

-- Another last byte of the empty text's spelling is that of 256 bytes' length.
another_length : IsAnother raw_text IsText []
another_length =
    let zeros : List ℕ = replicate 256 0 in
    let long : length zeros ≡ 256 = length-replicate {A = ℕ} 256 0 in
    record {
      other = zeros;
      fits = record { short = omega arith; bytes = All-replicate (λ byte. byte < 256) 256 0 (omega arith) };
      differs = λ same. omega (arith, ap length same);
      rest = 1 ∷ zeros;
      begins = ap (λ (l : ℕ). low_bytes 2 l ++ zeros) long;
    }

another_last : (text : List ℕ) → IsText text → 0 < length text → IsAnother raw_text IsText text
another_last text is some =
    let last : IsOtherLast text = other_last text (text_bytes text is.bytes) some in
    let front : List ℕ = take (length text - 1) text in
    let other : List ℕ = front ++ last.last ∷ [] in
    let size : List ℕ = low_bytes 2 (length text) in
    let short : length text ≤ 65535 = is.short in
    let e : length (raw_text text) - 1 ≡ length size + (length text - 1) = omega (arith, length-raw_text text, length-low_bytes 2 (length text)) in
    let cut : take (length (raw_text text) - 1) (raw_text text) ≡ size ++ front =
    ap (λ (k : ℕ). take k (raw_text text)) e ∙ take-append-add size text (length text - 1) in
    record {
      other = other;
      fits = record { short = omega (arith, last.long); bytes = All-from_get_or (λ byte. byte < 256) other 0 (λ i lt. last.are i) };
      differs = last.differs;
      rest = last.last ∷ [];
      begins = ap (λ (l : ℕ). low_bytes 2 l ++ other) last.long
          ∙ (sym (append_assoc size front (last.last ∷ [])) ∙ ap (λ (t : List ℕ). t ++ last.last ∷ []) (sym cut));
    }

another_text : (text : List ℕ) → IsText text → IsAnother raw_text IsText text
another_text [] is = another_length
another_text (byte ∷ bytes) is = another_last (byte ∷ bytes) is (omega arith)

-- what a decoder relies on
pub text_code : IsCode bytes_eq raw_text IsText
text_code = record {
  decides = bytes_eq-Decides;
  some = [];
  fits = record { short = omega arith; bytes = All-nil (λ byte. byte < 256) };
  full = λ text. omega (arith, length-raw_text text);
  apart = λ t u x y is is' same. texts_apart t u x y is is' same;
  another = another_text;
}
