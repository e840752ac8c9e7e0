-- How numbers of some width begin.
use Rattle.std.proofs.Common.{◌≡◌, ℕ, ◌+◌, ◌≤◌, ◌<◌, ◌⊎◌, inl, inr, List, ◌++◌, length, take, drop, refl, sym, ap, ◌∙◌, arith, length-append, ℤ}
use Rattle.std.specs.Prelude.{◌≤ℤ◌}
use Rattle.std.specs.Int.{w128, cast_unsigned}
use Rattle.std.proofs.lemmas.List.{take-append-drop, length-take-le, take_at}
use Rattle.std.proofs.lemmas.Bool.{cases_lt}
use Rattle.std.proofs.lemmas.Int.{ints}
use Rattle.dw_codec_plain.specs.Numbers.{number, IsNumberWithin}
use Rattle.dw_codec_plain.specs.Spelling.{Begins, IsLongestFront}
use Rattle.dw_codec_plain.proofs.Naturals.{length-low_bytes, take-low_bytes}
use Rattle.dw_codec_plain.proofs.Fronts.{begins_less}

module _ (width : ℕ) (low high : ℤ) where
  -- bytes that are such a number in as many bytes begin such a number in more
  pub within_begins : (bs : List ℕ) → length bs ≤ width → IsNumberWithin (length bs) low high bs → Begins (IsNumberWithin width low high) bs
  within_begins bs le within =
      let text : List ℕ = number width within.value in
      let front : take (length bs) text ≡ bs = take-low_bytes (length bs) width (cast_unsigned w128 within.value) le ∙ sym within.spells in
      record {
        text = text;
        is = record { value = within.value; least = within.least; greatest = within.greatest; spells = refl };
        rest = drop (length bs) text;
        begins = sym (take-append-drop (length bs) text) ∙ ap (λ (t : List ℕ). t ++ drop (length bs) text) front;
      }

  -- what begins such a number is no longer than it
  pub begins_within_width : (bs : List ℕ) → Begins (IsNumberWithin width low high) bs → length bs ≤ width
  begins_within_width bs b =
      omega (arith, length-append bs b.rest, ap length b.begins, ap length b.is.spells, length-low_bytes width (cast_unsigned w128 b.is.value))

  pub begins_within : (bs : List ℕ) → Begins (IsNumberWithin width low high) bs → IsNumberWithin (length bs) low high bs
  begins_within bs b =
      let le : length bs ≤ width = begins_within_width bs b in
      let cut : take (length bs) (number width b.is.value) ≡ bs =
      ap (take (length bs)) (sym b.is.spells ∙ b.begins) ∙ take_at bs b.rest (length bs) refl in
      record {
        value = b.is.value;
        least = b.is.least;
        greatest = b.is.greatest;
        spells = sym cut ∙ take-low_bytes (length bs) width (cast_unsigned w128 b.is.value) le;
      }

  -- nothing begins the number of the least value
  pub begins_at_all : (bytes : List ℕ) → low ≤ℤ high → Begins (IsNumberWithin width low high) (take 0 bytes)
  begins_at_all bytes order = record {
    text = number width low;
    is = record { value = low; least = omega (arith, ints); greatest = order; spells = refl };
    rest = number width low;
    begins = refl;
  }

  pub stops_at : (bytes : List ℕ) (len : ℕ) → len < length bytes → Begins (IsNumberWithin width low high) (take len bytes)
      → (IsNumberWithin (length (take (len + 1) bytes)) low high (take (len + 1) bytes) → ⊥) → IsLongestFront (IsNumberWithin width low high) bytes len
  stops_at bytes len lt so_far ends = record {
    within = omega arith;
    begins = so_far;
    longest = λ more within b. elim (cases_lt len more) [
      | inl further ↦ absurd (ends (begins_within (take (len + 1) bytes) (begins_less (IsNumberWithin width low high) bytes (len + 1) more (omega arith) within b)))
      | inr le ↦ le
    ];
  }

  pub stops_whole : (bytes : List ℕ) (most : ℕ) → most ≤ length bytes → ((most ≡ width) ⊎ (most ≡ length bytes)) → Begins (IsNumberWithin width low high) (take most bytes) → IsLongestFront (IsNumberWithin width low high) bytes most
  stops_whole bytes most le is so_far = record {
    within = le;
    begins = so_far;
    longest = λ more within b.
        let long : length (take more bytes) ≡ more = length-take-le more bytes within in
        let bound : length (take more bytes) ≤ width = begins_within_width (take more bytes) b in
        elim is [ inl e ↦ omega arith | inr e ↦ omega arith ];
  }

  pub goes_further : (bytes : List ℕ) (len : ℕ) → len < width → len < length bytes → IsNumberWithin (length (take (len + 1) bytes)) low high (take (len + 1) bytes) → Begins (IsNumberWithin width low high) (take (len + 1) bytes)
  goes_further bytes len lt lt' within =
      within_begins (take (len + 1) bytes) (let long : length (take (len + 1) bytes) ≡ len + 1 = length-take-le (len + 1) bytes (omega arith) in omega arith) within
