-- Numbers in full width, one after another.
use Rattle.std.proofs.Common.{◌≡◌, ℕ, zero, suc, ◌-◌, ◌≤◌, ◌<◌, Option, List, [], ◌∷◌, ◌++◌, length, take, refl, sym, ap, ◌∙◌, arith, length-append, ℤ}
use Rattle.std.specs.Prelude.{replicate}
use Rattle.std.specs.Int.{w128, cast_unsigned}
use Rattle.std.proofs.lemmas.List.{length-replicate, take_all}
use Rattle.dw_codec_plain.specs.Numbers.{IsWidth, FitsWidth, number}
use Rattle.dw_codec_plain.specs.Spelling.{IsItem, NoItem, IsLongestFront}
use Rattle.dw_codec_plain.proofs.Fronts.{same_front}
use Rattle.dw_codec_plain.proofs.Items.{IsPrefixFree}
use Rattle.dw_codec_plain.proofs.Naturals.{AreBytes, length-low_bytes}
use Rattle.dw_codec_plain.proofs.Signed.{same_number, number_of_bytes}

pub length-number : (width : ℕ) (value : ℤ) → length (number width value) ≡ width
length-number width value = length-low_bytes width (cast_unsigned w128 value)

-- bytes, and zeros behind them
pub filled_are_bytes : (bs : List ℕ) (k : ℕ) → AreBytes bs → AreBytes (bs ++ replicate k 0)
filled_are_bytes [] zero are i = omega arith
filled_are_bytes [] (suc k) are zero = omega arith
filled_are_bytes [] (suc k) are (suc i) = filled_are_bytes [] k are i
filled_are_bytes (b ∷ bs) k are zero = are 0
filled_are_bytes (b ∷ bs) k are (suc i) = filled_are_bytes bs k (λ j. are (suc j)) i

-- too few bytes begin the number of some value
pub number_begins : (width : ℕ) → IsWidth width → (bs : List ℕ) → AreBytes bs → length bs ≤ width → (value : ℤ) × FitsWidth width value × (rest : List ℕ) × (number width value ≡ bs ++ rest)
number_begins width is bs are le =
    let rest : List ℕ = replicate (width - length bs) 0 in
    let r = number_of_bytes width is (bs ++ rest) (filled_are_bytes bs (width - length bs) are)
    (omega (arith, length-append bs rest, length-replicate {A = ℕ} (width - length bs) 0)) in
    (r.0, r.1, rest, r.2)

abbrev pub raw_item : ℕ → Option ℤ → ℤ → List ℕ
raw_item width before value = number width value

module _ (width : ℕ) (is : IsWidth width) where
  pub raw_free : IsPrefixFree (raw_item width) (FitsWidth width)
  raw_free = record {
    apart = λ before v w x y fits fits' same.
        same_number width is v w fits fits'
        (same_front (number width v) x (number width w) y same (length-number width v ∙ sym (length-number width w))).0;
  }

  pub raw_none : (before : Option ℤ) (bytes : List ℕ) → length bytes < width → NoItem (raw_item width) (FitsWidth width) before bytes
  raw_none before bytes short v rest fits same =
      omega (arith, length-number width v, length-append (number width v) rest, ap length same)

  pub raw_front : (before : Option ℤ) (bytes : List ℕ) → AreBytes bytes → length bytes < width → IsLongestFront (IsItem (raw_item width) (FitsWidth width) before) bytes (length bytes)
  raw_front before bytes are short =
      let r = number_begins width is bytes are (omega arith) in
      let whole : take (length bytes) bytes ≡ bytes = take_all (length bytes) bytes (omega arith) in
      record {
        within = omega arith;
        begins = record {
          text = number width r.0;
          is = record { value = r.0; fits = r.1; spells = refl };
          rest = r.2;
          begins = r.3 ∙ ap (λ (t : List ℕ). t ++ r.2) (sym whole);
        };
        longest = λ more within b. within;
      }
