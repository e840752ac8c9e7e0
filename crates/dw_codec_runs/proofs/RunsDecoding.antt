-- What a decoder's loop has read, and what follows where it stops.
use Rattle.std.proofs.Common.{◌≡◌, ℕ, suc, ◌+◌, ◌-◌, ◌≤◌, ◌<◌, Option, Some, None, List, [], ◌∷◌, ◌++◌, length, sym, ap, ◌∙◌, append_assoc, arith, length-append, subst, Bool}
use Rattle.std.specs.Prelude.{All, replicate}
use Rattle.std.proofs.lemmas.List.{append-nil, length-replicate, nil_from_length}
use Rattle.std.proofs.lemmas.List.Elements.{All-nil, All-append, All-replicate}
use Rattle.dw_codec_plain.specs.Numbers.{low_bytes}
use Rattle.dw_codec_plain.specs.Spelling.{IsListOf, NoItem, IsLongestFront, IsDamagedAt}
use Rattle.dw_codec_runs.specs.Runs.{run_bytes, spelled_runs, StartsOther, IsRun, run_item}
use Rattle.dw_codec_runs.proofs.RunsValues.{IsCode, IsRunText}
use Rattle.dw_codec_runs.proofs.RunsTails.{IsTailDamaged, spelled_runs-replicate, tail_stops, tail_goes, tail_trails, whole_damaged}

-- The values read so far, how many are left, the value of the last run, and the bytes that are left: these with any
-- values behind are the whole, and damage there is damage of the whole.
pub record IsDecoding {X : Type 0} (same : X → X → Bool) (item : X → List ℕ) (IsValue : X → Type 0) (count : ℕ) (bytes : List ℕ) (values : List X) (left : ℕ) (before : Option X) (rest : List ℕ) : Type 0 where
  pub each : All IsValue values
  pub counted : length values + left ≡ count
  pub within : length rest ≤ length bytes
  pub whole : (others : List X) → StartsOther before others → rest ≡ spelled_runs same item others → bytes ≡ spelled_runs same item (values ++ others)
  pub damage : (place : ℕ) → IsTailDamaged same item IsValue before left rest place → IsDamagedAt (spelled_runs same item) IsValue count bytes (length bytes - length rest + place)

module _ {X : Type 0} (same : X → X → Bool) (item : X → List ℕ) (IsValue : X → Type 0) (code : IsCode same item IsValue) where
  pub decoding_begins : (count : ℕ) (bytes : List ℕ) → IsDecoding same item IsValue count bytes [] count None bytes
  decoding_begins count bytes = record {
    each = All-nil IsValue;
    counted = omega arith;
    within = omega arith;
    whole = λ others starts is. is;
    damage = λ place damaged.
        let e : place ≡ length bytes - length bytes + place = omega arith in
        subst (λ k. IsDamagedAt (spelled_runs same item) IsValue count bytes k) e (whole_damaged same item IsValue code count place bytes damaged);
  }

  -- one more run
  more_whole : (n : ℕ) (v : X) (values others : List X) (bytes rest after : List ℕ) → ((us : List X) → rest ≡ spelled_runs same item (v ∷ us) → bytes ≡ spelled_runs same item (values ++ (v ∷ us)))
      → rest ≡ run_bytes item (record { times = n; value = v }) ++ after → 0 < n → StartsOther (Some v) others → after ≡ spelled_runs same item others
      → bytes ≡ spelled_runs same item ((values ++ replicate n v) ++ others)
  more_whole n v values others bytes rest after whole is some starts behind =
      let e : suc (n - 1) ≡ n = omega arith in
      let spelled_is : rest ≡ spelled_runs same item (replicate (suc (n - 1)) v ++ others) =
      is ∙ (ap (λ (t : List ℕ). run_bytes item (record { times = n; value = v }) ++ t) behind
      ∙ (ap (λ (k : ℕ). (low_bytes 2 k ++ item v) ++ spelled_runs same item others) (sym e) ∙ sym (spelled_runs-replicate same item IsValue code (n - 1) v others starts))) in
      whole (replicate (n - 1) v ++ others) spelled_is
      ∙ (ap (λ (k : ℕ). spelled_runs same item (values ++ (replicate k v ++ others))) e
      ∙ ap (spelled_runs same item) (sym (append_assoc values (replicate n v) others)))

  pub decoding_goes_on : (count : ℕ) (bytes : List ℕ) (values : List X) (left : ℕ) (before : Option X) (rest after : List ℕ) (n : ℕ) (v : X) → count ≤ 65535
      → IsDecoding same item IsValue count bytes values left before rest → IsRun IsValue before left (record { times = n; value = v }) → rest ≡ run_bytes item (record { times = n; value = v }) ++ after
      → IsDecoding same item IsValue count bytes (values ++ replicate n v) (left - n) (Some v) after
  decoding_goes_on count bytes values left before rest after n v small d run is =
      let some : 0 < n = run.times.some in
      let most : n ≤ left = run.times.most in
      let counted : length values + left ≡ count = d.counted in
      let within : length rest ≤ length bytes = d.within in
      let at : List ℕ = run_bytes item (record { times = n; value = v }) in
      let long : length rest ≡ length at + length after = ap length is ∙ length-append at after in
      record {
        each = All-append IsValue values (replicate n v) d.each (All-replicate IsValue n v run.value.fits);
        counted = omega (arith, length-append values (replicate n v), length-replicate n v);
        within = omega arith;
        whole = λ others starts behind. more_whole n v values others bytes rest after (λ us is'. d.whole (v ∷ us) run.value.differs is') is some starts behind;
        damage = λ place damaged.
            let e : length bytes - length rest + (length at + place) ≡ length bytes - length after + place = omega arith in
            subst (λ k. IsDamagedAt (spelled_runs same item) IsValue count bytes k) e
            (d.damage (length at + place) (tail_goes same item IsValue code before left place rest after (record { times = n; value = v }) (omega arith) run is damaged));
      }

  pub decoding_done : (count : ℕ) (bytes : List ℕ) (values : List X) (left : ℕ) (before : Option X) (rest : List ℕ) → IsDecoding same item IsValue count bytes values left before rest
      → left ≡ 0 → length rest ≡ 0 → IsListOf IsValue count values × (bytes ≡ spelled_runs same item values)
  decoding_done count bytes values left before rest d none empty =
      let counted : length values + left ≡ count = d.counted in (
        record { counted = omega arith; each = d.each },
        d.whole [] tt (nil_from_length rest empty) ∙ ap (spelled_runs same item) (append-nil values),
      )

  pub decoding_stops : (count : ℕ) (bytes : List ℕ) (values : List X) (left : ℕ) (before : Option X) (rest : List ℕ) (place : ℕ) → IsDecoding same item IsValue count bytes values left before rest
      → 0 < left → NoItem (run_item item) (IsRun IsValue before left) None rest → IsLongestFront (IsRunText item IsValue before left) rest place
      → IsDamagedAt (spelled_runs same item) IsValue count bytes (length bytes - length rest + place)
  decoding_stops count bytes values left before rest place d some none front =
      d.damage place (tail_stops same item IsValue code before left place rest some none front)

  pub decoding_trails : (count : ℕ) (bytes : List ℕ) (values : List X) (left : ℕ) (before : Option X) (rest : List ℕ) → IsDecoding same item IsValue count bytes values left before rest
      → left ≡ 0 → 0 < length rest → IsDamagedAt (spelled_runs same item) IsValue count bytes (length bytes - length rest)
  decoding_trails count bytes values left before rest d none some =
      let e : length bytes - length rest + 0 ≡ length bytes - length rest = omega arith in
      subst (λ k. IsDamagedAt (spelled_runs same item) IsValue count bytes k) e
      (d.damage 0 (subst (λ n. IsTailDamaged same item IsValue before n rest 0) (sym none) (tail_trails same item IsValue code before rest some)))
