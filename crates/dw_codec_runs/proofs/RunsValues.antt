-- Runs: how far bytes begin a value other than the one before, and how far they begin a run of it.
use Rattle.std.proofs.Common.{◌≡◌, ℕ, ◌+◌, ◌-◌, ◌%◌, ◌≤◌, ◌<◌, ◌⊎◌, inl, inr, Bool, Option, Some, None, List, [], ◌++◌, length, take, drop, refl, sym, ap, ◌∙◌, append_assoc, arith, length-append, subst}
use Rattle.std.specs.Bool.{Decides}
use Rattle.std.proofs.Math.Seq.{take-append-add}
use Rattle.std.proofs.lemmas.Bool.{cases_Bool, cases_lt, both_ways}
use Rattle.std.proofs.lemmas.List.{append-nil, append_cancel_left, take-append-drop, length-take-le, take-append-le, take-take, take_at, take_all, nil_from_length}
use Rattle.dw_codec_plain.specs.Numbers.{natural_of, low_bytes}
use Rattle.dw_codec_plain.specs.Spelling.{IsItem, NoItem, Begins, IsLongestFront}
use Rattle.dw_codec_plain.proofs.Fronts.{same_front}
use Rattle.dw_codec_plain.proofs.FormFronts.{same_texts}
use Rattle.dw_codec_plain.proofs.Naturals.{length-low_bytes, natural_of-low_bytes}
use Rattle.dw_codec_runs.specs.Runs.{Run, run_bytes, IsTimes, IsOther, IsRun, times_item, value_item, run_item}
use Rattle.dw_codec_runs.proofs.RunsFronts.{IsJoined, stop_front, go_front}
use Rattle.dw_codec_runs.proofs.RunsSplit.{none_same}

-- another value that fits, of which the spelling begins alike up to the last byte
pub record IsAnother {X : Type 0} (item : X → List ℕ) (IsValue : X → Type 0) (value : X) : Type 0 where
  pub other : X
  pub fits : IsValue other
  pub differs : value ≡ other → ⊥
  pub rest : List ℕ
  pub begins : item other ≡ take (length (item value) - 1) (item value) ++ rest

-- what holds of values and their spellings: no spelling is empty or begins another, and there is another for each
pub record IsCode {X : Type 0} (same : X → X → Bool) (item : X → List ℕ) (IsValue : X → Type 0) : Type 0 where
  pub decides : (v w : X) → Decides (same v w) (v ≡ w)
  pub some : X
  pub fits : IsValue some
  pub full : (v : X) → 0 < length (item v)
  pub apart : (v w : X) (x y : List ℕ) → IsValue v → IsValue w → item v ++ x ≡ item w ++ y → v ≡ w
  pub another : (v : X) → IsValue v → IsAnother item IsValue v

-- a length is told by its two bytes
pub times_apart : (m n : ℕ) (x y : List ℕ) → m ≤ 65535 → n ≤ 65535 → low_bytes 2 m ++ x ≡ low_bytes 2 n ++ y → (m ≡ n) × (x ≡ y)
times_apart m n x y le le' same =
    let r = same_front (low_bytes 2 m) x (low_bytes 2 n) y same (length-low_bytes 2 m ∙ sym (length-low_bytes 2 n)) in
    let e : m % 65536 ≡ n % 65536 = sym (natural_of-low_bytes 2 m) ∙ (ap natural_of r.0 ∙ natural_of-low_bytes 2 n) in
    (omega arith, r.1)

-- the text spells a value other than the one before
abbrev pub IsOtherText : {X : Type 0} → (X → List ℕ) → (X → Type 0) → Option X → List ℕ → Type 0
IsOtherText item IsValue before = IsItem (value_item item) (IsOther IsValue before) None

-- the text spells a run
abbrev pub IsRunText : {X : Type 0} → (X → List ℕ) → (X → Type 0) → Option X → ℕ → List ℕ → Type 0
IsRunText item IsValue before left = IsItem (run_item item) (IsRun IsValue before left) None

module _ {X : Type 0} (same : X → X → Bool) (item : X → List ℕ) (IsValue : X → Type 0) (code : IsCode same item IsValue) where
  cases_before : (before : Option X) (v : X) → (before ≡ Some v) ⊎ (before ≡ Some v → ⊥)
  cases_before None v = inr (λ e. cc)
  cases_before (Some w) v = elim (cases_Bool (same w v)) [
    | inl t ↦ inl (ap (λ (x : X). Some x) ((code.decides w v).0 t))
    | inr f ↦ inr (λ e. both_ways (same w v) f ((code.decides w v).1 (none_same w v e)))
  ]

  -- some value may stand behind each one
  pub other_value : (before : Option X) → (v : X) × IsOther IsValue before v
  other_value before = elim (cases_before before code.some) [
    | inl e ↦
        let a = code.another code.some code.fits in
        (a.other, record { fits = a.fits; differs = λ d. a.differs (none_same code.some a.other (sym e ∙ d)) })
    | inr ne ↦ (code.some, record { fits = code.fits; differs = ne })
  ]

  -- less than a whole spelling begins that of a value other than the one before
  begins_other : (before : Option X) (v : X) (k : ℕ) → IsValue v → k < length (item v) → Begins (IsOtherText item IsValue before) (take k (item v))
  begins_other before v k fits lt = elim (cases_before before v) [
    | inl e ↦
        let a = code.another v fits in
        let most : List ℕ = take (length (item v) - 1) (item v) in
        let cut : take k most ≡ take k (item v) = take-take k (length (item v) - 1) (item v) (omega arith) in
        record {
          text = item a.other;
          is = record { value = a.other; fits = record { fits = a.fits; differs = λ d. a.differs (none_same v a.other (sym e ∙ d)) }; spells = refl };
          rest = drop k most ++ a.rest;
          begins = a.begins ∙ (ap (λ (t : List ℕ). t ++ a.rest) (sym (take-append-drop k most)) ∙ (append_assoc (take k most) (drop k most) a.rest ∙ ap (λ (t : List ℕ). t ++ (drop k most ++ a.rest)) cut));
        }
    | inr ne ↦ record {
      text = item v;
      is = record { value = v; fits = record { fits = fits; differs = ne }; spells = refl };
      rest = drop k (item v);
      begins = sym (take-append-drop k (item v));
    }
  ]

  -- Bytes that begin a value, and that no value begins, begin another value as well.
  pub cut_front : (before : Option X) (bytes : List ℕ) → NoItem (value_item item) IsValue None bytes → IsLongestFront (IsItem (value_item item) IsValue None) bytes (length bytes)
      → IsLongestFront (IsOtherText item IsValue before) bytes (length bytes)
  cut_front before bytes none front =
      let b = front.begins in
      let v : X = b.is.value in
      let all : take (length bytes) bytes ≡ bytes = take_all (length bytes) bytes (omega arith) in
      let whole : item v ≡ bytes ++ b.rest = sym b.is.spells ∙ (b.begins ∙ ap (λ (t : List ℕ). t ++ b.rest) all) in
      let lt : length bytes < length (item v) =
      elim (cases_lt (length bytes) (length (item v))) [
        | inl lt ↦ lt
        | inr le ↦
            let none_left : b.rest ≡ [] = nil_from_length b.rest (omega (arith, length-append bytes b.rest, ap length whole)) in
            let is : item v ≡ bytes = whole ∙ (ap (λ (t : List ℕ). bytes ++ t) none_left ∙ append-nil bytes) in
            absurd (none v [] b.is.fits (sym is ∙ sym (append-nil (item v))))
      ] in
      let front_is : take (length bytes) (item v) ≡ take (length bytes) bytes = ap (take (length bytes)) whole ∙ (take_at bytes b.rest (length bytes) refl ∙ sym all) in
      record {
        within = omega arith;
        begins = subst (λ t. Begins (IsOtherText item IsValue before) t) front_is (begins_other before v (length bytes) b.is.fits lt);
        longest = λ more within x. within;
      }

  -- what begins another value is no longer than the value that the bytes begin with
  other_within : (before : Option X) (bytes : List ℕ) (v : X) (rest : List ℕ) → IsValue v → bytes ≡ item v ++ rest
      → (more : ℕ) → length (item v) ≤ more → more ≤ length bytes → (b : Begins (IsOtherText item IsValue before) (take more bytes)) → (b.is.value ≡ v) × (more ≤ length (item v))
  other_within before bytes v rest fits is more le within b =
      let w : X = b.is.value in
      let j : ℕ = more - length (item v) in
      let e : more ≡ length (item v) + j = omega arith in
      let cut : take more bytes ≡ item v ++ take j rest =
      ap (take more) is ∙ (ap (λ (k : ℕ). take k (item v ++ rest)) e ∙ take-append-add (item v) rest j) in
      let same_is : item w ++ [] ≡ item v ++ (take j rest ++ b.rest) =
      append-nil (item w) ∙ (sym b.is.spells ∙ (b.begins ∙ (ap (λ (t : List ℕ). t ++ b.rest) cut ∙ append_assoc (item v) (take j rest) b.rest))) in
      let one : w ≡ v = code.apart w v [] (take j rest ++ b.rest) b.is.fits.fits fits same_is in
      let long : length (item w) ≡ length (item v) = ap (λ (u : X). length (item u)) one in
      let inside : length (take more bytes) ≡ more = length-take-le more bytes within in
      (one, omega (arith, long, inside, length-append (take more bytes) b.rest, ap length b.begins, ap length b.is.spells))

  -- The value before, once more: another last byte would be another value.
  pub same_value_front : (before : Option X) (bytes : List ℕ) (v : X) (rest : List ℕ) → IsValue v → before ≡ Some v → bytes ≡ item v ++ rest
      → IsLongestFront (IsOtherText item IsValue before) bytes (length (item v) - 1)
  same_value_front before bytes v rest fits e is =
      let some : 0 < length (item v) = code.full v in
      let front_is : take (length (item v) - 1) (item v) ≡ take (length (item v) - 1) bytes =
      sym (take-append-le (length (item v) - 1) (item v) rest (omega arith)) ∙ ap (take (length (item v) - 1)) (sym is) in
      record {
        within = omega (arith, length-append (item v) rest, ap length is);
        begins = subst (λ t. Begins (IsOtherText item IsValue before) t) front_is (begins_other before v (length (item v) - 1) fits (omega arith));
        longest = λ more within b. elim (cases_lt more (length (item v))) [
          | inl lt ↦ omega arith
          | inr le ↦
              let r = other_within before bytes v rest fits is more le within b in
              absurd (b.is.fits.differs (e ∙ ap (λ (u : X). Some u) (sym r.0)))
        ];
      }

  pub other_value_front : (before : Option X) (bytes : List ℕ) (v : X) (rest : List ℕ) → IsOther IsValue before v → bytes ≡ item v ++ rest
      → IsLongestFront (IsOtherText item IsValue before) bytes (length (item v))
  other_value_front before bytes v rest other is =
      let front_is : take (length (item v)) bytes ≡ item v = ap (take (length (item v))) is ∙ take_at (item v) rest (length (item v)) refl in
      record {
        within = omega (arith, length-append (item v) rest, ap length is);
        begins = record {
          text = item v;
          is = record { value = v; fits = other; spells = refl };
          rest = [];
          begins = sym front_is ∙ sym (append-nil (take (length (item v)) bytes));
        };
        longest = λ more within b. elim (cases_lt more (length (item v))) [
          | inl lt ↦ omega arith
          | inr le ↦ (other_within before bytes v rest other.fits is more le within b).1
        ];
      }

  -- no other value begins bytes that begin with the value before
  pub same_value_none : (before : Option X) (bytes : List ℕ) (v : X) (rest : List ℕ) → IsValue v → before ≡ Some v → bytes ≡ item v ++ rest → NoItem (value_item item) (IsOther IsValue before) None bytes
  same_value_none before bytes v rest fits e is w more other found =
      let one : w ≡ v = code.apart w v more rest other.fits fits (sym found ∙ is) in
      other.differs (e ∙ ap (λ (u : X). Some u) (sym one))

  -- a run is its length and a value
  to_run : (before : Option X) (left : ℕ) (text : List ℕ) → IsJoined times_item (IsTimes left) (λ _. IsOtherText item IsValue before) text → IsRunText item IsValue before left text
  to_run before left text parts = record {
    value = record { times = parts.head; value = parts.is.value };
    fits = record { times = parts.fits; value = parts.is.fits };
    spells = parts.spells ∙ ap (λ (t : List ℕ). low_bytes 2 parts.head ++ t) parts.is.spells;
  }

  from_run : (before : Option X) (left : ℕ) (text : List ℕ) → IsRunText item IsValue before left text → IsJoined times_item (IsTimes left) (λ _. IsOtherText item IsValue before) text
  from_run before left text run = record {
    head = run.value.times;
    fits = run.fits.times;
    behind = item run.value.value;
    is = record { value = run.value.value; fits = run.fits.value; spells = refl };
    spells = run.spells;
  }

  -- bytes that don't begin with a length
  pub times_stop : (before : Option X) (left place : ℕ) (bytes : List ℕ) → NoItem times_item (IsTimes left) None bytes → IsLongestFront (IsItem times_item (IsTimes left) None) bytes place
      → IsLongestFront (IsRunText item IsValue before left) bytes place
  times_stop before left place bytes none front =
      let v = other_value before in
      same_texts (IsJoined times_item (IsTimes left) (λ _. IsOtherText item IsValue before)) (IsRunText item IsValue before left) (to_run before left) (from_run before left) bytes place
      (stop_front times_item (IsTimes left) (λ _. IsOtherText item IsValue before) bytes place none front (λ n is. (item v.0, record { value = v.0; fits = v.1; spells = refl })))

  -- bytes behind a length
  pub times_go : (before : Option X) (left place n : ℕ) (bytes behind : List ℕ) → left ≤ 65535 → IsTimes left n → bytes ≡ low_bytes 2 n ++ behind → IsLongestFront (IsOtherText item IsValue before) behind place
      → IsLongestFront (IsRunText item IsValue before left) bytes (2 + place)
  times_go before left place n bytes behind small fits is front =
      let whole : IsLongestFront (IsJoined times_item (IsTimes left) (λ _. IsOtherText item IsValue before)) bytes (length (low_bytes 2 n) + place) =
      go_front times_item (IsTimes left) (λ _. IsOtherText item IsValue before) bytes n behind place fits is
      (λ m x y is' same. (times_apart m n x y (let le : m ≤ left = is'.most in omega arith) (let le : n ≤ left = fits.most in omega arith) same).0) front in
      let long : length (low_bytes 2 n) + place ≡ 2 + place = omega (arith, length-low_bytes 2 n) in
      subst (λ k. IsLongestFront (IsRunText item IsValue before left) bytes k) long
      (same_texts (IsJoined times_item (IsTimes left) (λ _. IsOtherText item IsValue before)) (IsRunText item IsValue before left) (to_run before left) (from_run before left) bytes (length (low_bytes 2 n) + place) whole)

  -- no run begins bytes where no length does
  pub times_none : (before : Option X) (left : ℕ) (bytes : List ℕ) → NoItem times_item (IsTimes left) None bytes → NoItem (run_item item) (IsRun IsValue before left) None bytes
  times_none before left bytes none run rest fits same =
      none run.times (item run.value ++ rest) fits.times (same ∙ append_assoc (low_bytes 2 run.times) (item run.value) rest)

  -- nor where no other value stands behind the length
  pub value_none : (before : Option X) (left n : ℕ) (bytes behind : List ℕ) → left ≤ 65535 → IsTimes left n → bytes ≡ low_bytes 2 n ++ behind → NoItem (value_item item) (IsOther IsValue before) None behind
      → NoItem (run_item item) (IsRun IsValue before left) None bytes
  value_none before left n bytes behind small fits is none run rest fits' same =
      let r = times_apart n run.times behind (item run.value ++ rest) (let le : n ≤ left = fits.most in omega arith) (let le : run.times ≤ left = fits'.times.most in omega arith)
      (sym is ∙ (same ∙ append_assoc (low_bytes 2 run.times) (item run.value) rest)) in
      none run.value rest fits'.value r.1

  -- two runs that begin the same bytes are equal
  pub runs_apart : (r s : Run X) (x y : List ℕ) → r.times ≤ 65535 → s.times ≤ 65535 → IsValue r.value → IsValue s.value → run_bytes item r ++ x ≡ run_bytes item s ++ y → (r ≡ s) × (x ≡ y)
  runs_apart r s x y le le' fits fits' found =
      let t = times_apart r.times s.times (item r.value ++ x) (item s.value ++ y) le le'
      (sym (append_assoc (low_bytes 2 r.times) (item r.value) x) ∙ (found ∙ append_assoc (low_bytes 2 s.times) (item s.value) y)) in
      let one : r.value ≡ s.value = code.apart r.value s.value x y fits fits' t.1 in
      let turned : item s.value ++ x ≡ item s.value ++ y = subst (λ u. item u ++ x ≡ item s.value ++ y) one t.1 in
      let times_is : r ≡ record { times = s.times; value = r.value } = ap (λ (n : ℕ). let run : Run X = record { times = n; value = r.value } in run) t.0 in
      let value_is : record { times = s.times; value = r.value } ≡ s = ap (λ (u : X). let run : Run X = record { times = s.times; value = u } in run) one in
      (times_is ∙ value_is, append_cancel_left (item s.value) x y turned)
