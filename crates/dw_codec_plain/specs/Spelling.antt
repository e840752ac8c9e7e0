-- What it is to spell a list of values in bytes, and what it is that bytes are damaged. Each encoding of
-- this project cites these.
use Rattle.std.specs.Prelude.{◌≡◌, ◌≢◌, ℕ, ◌≤◌, ◌<◌, Option, Some, List, [], ◌∷◌, ◌++◌, length, take, All}
use Rattle.dw_codec_plain.specs.declared.fault.CodecFault.{CodecFault}
use Rattle.dw_codec_plain.specs.declared.fault.CodecFault.TheVariants.{Damaged, Memory}

-- Values spelled one after another. How a value is spelled may depend on the value before it: `before` is the
-- one before the first, if there is one.
abbrev pub spelled : {X : Type 0} → (Option X → X → List ℕ) → Option X → List X → List ℕ
spelled item before [] = []
spelled item before (value ∷ values) = item before value ++ spelled item (Some value) values

-- as many values as count says, each of which may be spelled
pub record IsListOf {X : Type 0} (IsValue : X → Type 0) (count : ℕ) (values : List X) : Type 0 where
  pub counted : length values ≡ count
  pub each : All IsValue values

-- the text spells as many values as count says
pub record IsSpelling {X : Type 0} (spelling : List X → List ℕ) (IsValue : X → Type 0) (count : ℕ) (text : List ℕ) : Type 0 where
  pub values : List X
  pub are : IsListOf IsValue count values
  pub spells : text ≡ spelling values

-- the text spells one value, behind the value `before`
pub record IsItem {X : Type 0} (item : Option X → X → List ℕ) (IsValue : X → Type 0) (before : Option X) (text : List ℕ) : Type 0 where
  pub value : X
  pub fits : IsValue value
  pub spells : text ≡ item before value

-- the bytes begin with no item behind the value `before`
abbrev pub NoItem : {X : Type 0} → (Option X → X → List ℕ) → (X → Type 0) → Option X → List ℕ → Type 0
NoItem {X} item IsValue before bytes = (value : X) (rest : List ℕ) → IsValue value → bytes ≢ item before value ++ rest

-- some text of the kind begins with these bytes
pub record Begins (IsText : List ℕ → Type 0) (front : List ℕ) : Type 0 where
  pub text : List ℕ
  pub is : IsText text
  pub rest : List ℕ
  pub begins : text ≡ front ++ rest

-- the first `place` bytes begin some text of the kind, and no more of the bytes do
pub record IsLongestFront (IsText : List ℕ → Type 0) (bytes : List ℕ) (place : ℕ) : Type 0 where
  pub within : place ≤ length bytes
  pub begins : Begins IsText (take place bytes)
  pub longest : (more : ℕ) → more ≤ length bytes → Begins IsText (take more bytes) → more ≤ place

-- the same, but that place is 0 where there is no text of the kind
pub record IsLongestFrontIfAny (IsText : List ℕ → Type 0) (bytes : List ℕ) (place : ℕ) : Type 0 where
  pub within : place ≤ length bytes
  pub begins : 0 < place → Begins IsText (take place bytes)
  pub longest : (more : ℕ) → more ≤ length bytes → Begins IsText (take more bytes) → more ≤ place

-- The bytes don't spell `count` values. The first `place` of them begin the spelling of some `count` values,
-- and no more of them do.
pub record IsDamagedAt {X : Type 0} (spelling : List X → List ℕ) (IsValue : X → Type 0) (count : ℕ) (bytes : List ℕ) (place : ℕ) : Type 0 where
  pub spells_none : ¬ IsSpelling spelling IsValue count bytes
  pub front : IsLongestFront (IsSpelling spelling IsValue count) bytes place

-- Why a decoder gives no values: the bytes are damaged, or memory ran out.
abbrev pub Explains : {X : Type 0} → CodecFault → (List X → List ℕ) → (X → Type 0) → ℕ → List ℕ → Type 0
Explains (Damaged place) spelling IsValue count bytes = IsDamagedAt spelling IsValue count bytes place
Explains Memory spelling IsValue count bytes = Unit {0}
