-- How RUNLENGTH spells values. The encoding is that of the Amazon Redshift guide (compression encodings); the
-- layout of its bytes is this project's own.
use Rattle.std.specs.Prelude.{◌≢◌, ℕ, suc, ◌<◌, ◌≤◌, Bool, if◌then◌else◌, Option, Some, List, [], ◌∷◌, ◌++◌, ℤ}
use Rattle.std.specs.List.{flat_map}
use Rattle.std.specs.Ordering.{int_eq}
use Rattle.std.specs.Str.{bytes_eq}
use Rattle.dw_codec_plain.specs.Numbers.{number, low_bytes}
use Rattle.dw_codec_plain.specs.Encodings.{raw_text}

-- a value, and how many times it stands in a row
pub record Run (X : Type 0) : Type 0 where
  pub times : ℕ
  pub value : X

-- the runs of a value and of the values behind it, where those are the runs of the values behind it
abbrev pub put_before : {X : Type 0} → (X → X → Bool) → X → List (Run X) → List (Run X)
put_before same value [] = record { times = 1; value = value } ∷ []
put_before same value (run ∷ runs) =
    if same value run.value then record { times = suc run.times; value = value } ∷ runs
    else record { times = 1; value = value } ∷ run ∷ runs

-- the runs of equal neighbours, each as long as it goes
abbrev pub runs_of : {X : Type 0} → (X → X → Bool) → List X → List (Run X)
runs_of same [] = []
runs_of same (value ∷ values) = put_before same value (runs_of same values)

-- a run is spelled by how many times its value stands, in two bytes, least first, and by its value
abbrev pub run_bytes : {X : Type 0} → (X → List ℕ) → Run X → List ℕ
run_bytes item run = low_bytes 2 run.times ++ item run.value

-- values are spelled by their runs
abbrev pub spelled_runs : {X : Type 0} → (X → X → Bool) → (X → List ℕ) → List X → List ℕ
spelled_runs same item values = flat_map (run_bytes item) (runs_of same values)

-- RUNLENGTH: the runs, each value in full width. So 7, 7, 7, 8 in two bytes is 03 00 07 00 01 00 08 00.
abbrev pub runlength : ℕ → List ℤ → List ℕ
runlength width = spelled_runs int_eq (number width)

-- RUNLENGTH for texts. So `ab` twice and the empty text is 02 00 02 00 61 62 01 00 00 00.
abbrev pub runlength_texts : List (List ℕ) → List ℕ
runlength_texts = spelled_runs bytes_eq raw_text

-- the values don't begin with this one
abbrev pub StartsOther : {X : Type 0} → Option X → List X → Type 0
StartsOther before [] = Unit {0}
StartsOther before (value ∷ values) = before ≢ Some value

-- how many times a value may stand where so many values are left
pub record IsTimes (left times : ℕ) : Type 0 where
  pub some : 0 < times
  pub most : times ≤ left

-- the value of a run may stand behind that of the run before
pub record IsOther {X : Type 0} (IsValue : X → Type 0) (before : Option X) (value : X) : Type 0 where
  pub fits : IsValue value
  pub differs : before ≢ Some value

-- the run may stand behind a run of the value `before`, where so many values are left
pub record IsRun {X : Type 0} (IsValue : X → Type 0) (before : Option X) (left : ℕ) (run : Run X) : Type 0 where
  pub times : IsTimes left run.times
  pub value : IsOther IsValue before run.value

-- the spellings of these, as items that don't depend on what stands before
abbrev pub times_item : Option ℕ → ℕ → List ℕ
times_item _ times = low_bytes 2 times

abbrev pub value_item : {X : Type 0} → (X → List ℕ) → Option X → X → List ℕ
value_item item _ value = item value

abbrev pub run_item : {X : Type 0} → (X → List ℕ) → Option (Run X) → Run X → List ℕ
run_item item _ run = run_bytes item run
