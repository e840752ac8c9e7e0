-- Values spelled by their runs: how far bytes begin such a spelling, and what a decoder's loop has read.
use Rattle.std.proofs.Common.{◌≡◌, ℕ, zero, suc, ◌+◌, ◌-◌, ◌≤◌, ◌<◌, Option, Some, None, List, [], ◌∷◌, ◌++◌, length, take, refl, sym, ap, ◌∙◌, arith, length-append, subst, Bool}
use Rattle.std.specs.Prelude.{All, replicate}
use Rattle.std.specs.List.{flat_map}
use Rattle.std.proofs.lemmas.List.{length-replicate, length-take-le, drop_at, nil_from_length}
use Rattle.std.proofs.lemmas.List.Elements.{All-nil, All-head, All-append, All-replicate, All-drop}
use Rattle.dw_codec_plain.specs.Numbers.{low_bytes}
use Rattle.dw_codec_plain.specs.Spelling.{IsListOf, IsSpelling, NoItem, IsLongestFront, IsDamagedAt}
use Rattle.dw_codec_plain.proofs.FormFronts.{same_texts}
use Rattle.dw_codec_runs.specs.Runs.{Run, run_bytes, spelled_runs, StartsOther, IsRun, run_item}
use Rattle.dw_codec_runs.proofs.RunsFronts.{IsJoined, stop_front, go_front}
use Rattle.dw_codec_runs.proofs.RunsSplit.{runs_of-replicate, IsFirstRun, first_run}
use Rattle.dw_codec_runs.proofs.RunsValues.{IsCode, IsRunText, other_value, runs_apart}

-- the text spells so many values, of which the first isn't the one before
pub record IsTail {X : Type 0} (same : X → X → Bool) (item : X → List ℕ) (IsValue : X → Type 0) (before : Option X) (left : ℕ) (text : List ℕ) : Type 0 where
  pub values : List X
  pub are : IsListOf IsValue left values
  pub starts : StartsOther before values
  pub spells : text ≡ spelled_runs same item values

-- the bytes don't, and they begin such a text up to this place
pub record IsTailDamaged {X : Type 0} (same : X → X → Bool) (item : X → List ℕ) (IsValue : X → Type 0) (before : Option X) (left : ℕ) (bytes : List ℕ) (place : ℕ) : Type 0 where
  pub spells_none : IsTail same item IsValue before left bytes → ⊥
  pub front : IsLongestFront (IsTail same item IsValue before left) bytes place

module _ {X : Type 0} (same : X → X → Bool) (item : X → List ℕ) (IsValue : X → Type 0) (code : IsCode same item IsValue) where
  -- the spelling of a run and of values behind it
  pub spelled_runs-replicate : (n : ℕ) (v : X) (vs : List X) → StartsOther (Some v) vs
      → spelled_runs same item (replicate (suc n) v ++ vs) ≡ run_bytes item (record { times = suc n; value = v }) ++ spelled_runs same item vs
  spelled_runs-replicate n v vs other = ap (flat_map (run_bytes item)) (runs_of-replicate same code.decides n v vs other)

  -- some values are a run and the values behind it
  pub record IsParted (v : X) (vs : List X) : Type 0 where
    pub more : ℕ
    pub others : List X
    pub is : v ∷ vs ≡ replicate (suc more) v ++ others
    pub starts : StartsOther (Some v) others
    pub counted : length (v ∷ vs) ≡ suc more + length others
    pub each : All IsValue (v ∷ vs) → All IsValue others
    pub spells : spelled_runs same item (v ∷ vs) ≡ run_bytes item (record { times = suc more; value = v }) ++ spelled_runs same item others

  pub parted : (v : X) (vs : List X) → IsParted v vs
  parted v vs =
      let r : IsFirstRun same code.decides v vs = first_run same code.decides v vs in
      let run : List X = replicate (suc r.more) v in
      record {
        more = r.more;
        others = r.others;
        is = r.is;
        starts = r.starts;
        counted = omega (arith, length-append run r.others, length-replicate (suc r.more) v, ap length r.is);
        each = λ all. subst (All IsValue) (drop_at run r.others (suc r.more) (length-replicate (suc r.more) v))
            (All-drop IsValue (suc r.more) (run ++ r.others) (subst (All IsValue) r.is all));
        spells = ap (spelled_runs same item) r.is ∙ spelled_runs-replicate r.more v r.others r.starts;
      }

  -- a tail of some values is a run and a tail
  abbrev RunAndTail : Option X → ℕ → List ℕ → Type 0
  RunAndTail before left = IsJoined (run_item item) (IsRun IsValue before left) (λ run. IsTail same item IsValue (Some run.value) (left - run.times))

  from_tail : (before : Option X) (left : ℕ) (text : List ℕ) → 0 < left → IsTail same item IsValue before left text → RunAndTail before left text
  from_tail before left text some tail = parts tail.values tail.are tail.starts tail.spells where
    parts : (values : List X) → IsListOf IsValue left values → StartsOther before values → text ≡ spelled_runs same item values → RunAndTail before left text
    parts [] are starts spells = let e : 0 ≡ left = are.counted in absurd (omega arith)
    parts (v ∷ vs) are starts spells =
        let r : IsParted v vs = parted v vs in
        let counted : length (v ∷ vs) ≡ suc r.more + length r.others = r.counted in
        let total : length (v ∷ vs) ≡ left = are.counted in
        record {
          head = record { times = suc r.more; value = v };
          fits = record { times = record { some = omega arith; most = omega arith }; value = record { fits = All-head IsValue v vs are.each; differs = starts } };
          behind = spelled_runs same item r.others;
          is = record { values = r.others; are = record { counted = omega arith; each = r.each are.each }; starts = r.starts; spells = refl };
          spells = spells ∙ r.spells;
        }

  to_tail : (before : Option X) (left : ℕ) (text : List ℕ) → RunAndTail before left text → IsTail same item IsValue before left text
  to_tail before left text parts =
      let n : ℕ = parts.head.times - 1 in
      let v : X = parts.head.value in
      let some : 0 < parts.head.times = parts.fits.times.some in
      let most : parts.head.times ≤ left = parts.fits.times.most in
      let e : suc n ≡ parts.head.times = omega arith in
      let counted : length parts.is.values ≡ left - parts.head.times = parts.is.are.counted in
      record {
        values = replicate (suc n) v ++ parts.is.values;
        are = record {
          counted = omega (arith, length-append (replicate (suc n) v) parts.is.values, length-replicate (suc n) v);
          each = All-append IsValue (replicate (suc n) v) parts.is.values (All-replicate IsValue (suc n) v parts.fits.value.fits) parts.is.are.each;
        };
        starts = parts.fits.value.differs;
        spells = parts.spells ∙ (ap (λ (t : List ℕ). run_bytes item parts.head ++ t) parts.is.spells
            ∙ (ap (λ (k : ℕ). (low_bytes 2 k ++ item v) ++ spelled_runs same item parts.is.values) (sym e) ∙ sym (spelled_runs-replicate n v parts.is.values parts.is.starts)));
      }

  joined_front : (before : Option X) (left place : ℕ) (bytes : List ℕ) → 0 < left → IsLongestFront (RunAndTail before left) bytes place → IsLongestFront (IsTail same item IsValue before left) bytes place
  joined_front before left place bytes some front =
      same_texts (RunAndTail before left) (IsTail same item IsValue before left) (to_tail before left) (λ text tail. from_tail before left text some tail) bytes place front

  -- some tail may stand behind each run
  some_tail : (v : X) (left : ℕ) → (text : List ℕ) × IsTail same item IsValue (Some v) left text
  some_tail v zero = ([], record { values = []; are = record { counted = refl; each = All-nil IsValue }; starts = tt; spells = refl })
  some_tail v (suc n) =
      let w = other_value same item IsValue code (Some v) in (
        spelled_runs same item (replicate (suc n) w.0),
        record {
          values = replicate (suc n) w.0;
          are = record { counted = length-replicate (suc n) w.0; each = All-replicate IsValue (suc n) w.0 w.1.fits };
          starts = w.1.differs;
          spells = refl;
        },
      )

  -- where no run begins the bytes
  pub tail_stops : (before : Option X) (left place : ℕ) (bytes : List ℕ) → 0 < left → NoItem (run_item item) (IsRun IsValue before left) None bytes → IsLongestFront (IsRunText item IsValue before left) bytes place
      → IsTailDamaged same item IsValue before left bytes place
  tail_stops before left place bytes some none front = record {
    spells_none = λ tail. let parts = from_tail before left bytes some tail in none parts.head parts.behind parts.fits parts.spells;
    front = joined_front before left place bytes some
        (stop_front (run_item item) (IsRun IsValue before left) (λ run. IsTail same item IsValue (Some run.value) (left - run.times)) bytes place none front
        (λ run fits. some_tail run.value (left - run.times)));
  }

  -- damage behind a run is damage of the whole
  pub tail_goes : (before : Option X) (left place : ℕ) (bytes rest : List ℕ) (run : Run X) → left ≤ 65535 → IsRun IsValue before left run → bytes ≡ run_bytes item run ++ rest
      → IsTailDamaged same item IsValue (Some run.value) (left - run.times) rest place → IsTailDamaged same item IsValue before left bytes (length (run_bytes item run) + place)
  tail_goes before left place bytes rest run small fits is damaged =
      let some : 0 < left = let s : 0 < run.times = fits.times.some in let m : run.times ≤ left = fits.times.most in omega arith in
      let apart : (r : Run X) (x y : List ℕ) → IsRun IsValue before left r → run_bytes item r ++ x ≡ run_bytes item run ++ y → (r ≡ run) × (x ≡ y) =
      λ r x y fits' found. runs_apart same item IsValue code r run x y (let m : r.times ≤ left = fits'.times.most in omega arith) (let m : run.times ≤ left = fits.times.most in omega arith)
      fits'.value.fits fits.value.fits found in
      record {
        spells_none = λ tail.
            let parts = from_tail before left bytes some tail in
            let one = apart parts.head parts.behind rest parts.fits (sym parts.spells ∙ is) in
            damaged.spells_none (subst (λ t. IsTail same item IsValue (Some run.value) (left - run.times) t) one.1
            (subst (λ r. IsTail same item IsValue (Some r.value) (left - r.times) parts.behind) one.0 parts.is));
        front = joined_front before left (length (run_bytes item run) + place) bytes some
            (go_front (run_item item) (IsRun IsValue before left) (λ r. IsTail same item IsValue (Some r.value) (left - r.times)) bytes run rest place fits is
            (λ r x y fits' found. (apart r x y fits' found).0) damaged.front);
      }

  no_values : (before : Option X) (text : List ℕ) → IsTail same item IsValue before 0 text → text ≡ []
  no_values before text tail =
      let none : tail.values ≡ [] = nil_from_length tail.values tail.are.counted in
      tail.spells ∙ ap (spelled_runs same item) none

  -- bytes behind the last value are damage
  pub tail_trails : (before : Option X) (bytes : List ℕ) → 0 < length bytes → IsTailDamaged same item IsValue before 0 bytes 0
  tail_trails before bytes some = record {
    spells_none = λ tail. omega (arith, ap length (no_values before bytes tail));
    front = record {
      within = omega arith;
      begins = record {
        text = [];
        is = record { values = []; are = record { counted = refl; each = All-nil IsValue }; starts = tt; spells = refl };
        rest = [];
        begins = refl;
      };
      longest = λ more within b.
          let long : length (take more bytes) ≡ more = length-take-le more bytes within in
          omega (arith, length-append (take more bytes) b.rest, ap length b.begins, ap length (no_values before b.text b.is));
    };
  }

  starts_any : (values : List X) → StartsOther None values
  starts_any [] = tt
  starts_any (v ∷ vs) = λ e. cc

  -- a tail from the start on is the whole
  pub whole_damaged : (count place : ℕ) (bytes : List ℕ) → IsTailDamaged same item IsValue None count bytes place → IsDamagedAt (spelled_runs same item) IsValue count bytes place
  whole_damaged count place bytes damaged = record {
    spells_none = λ s. damaged.spells_none (record { values = s.values; are = s.are; starts = starts_any s.values; spells = s.spells });
    front = same_texts (IsTail same item IsValue None count) (IsSpelling (spelled_runs same item) IsValue count)
        (λ text tail. record { values = tail.values; are = tail.are; spells = tail.spells })
        (λ text s. record { values = s.values; are = s.are; starts = starts_any s.values; spells = s.spells }) bytes place damaged.front;
  }
