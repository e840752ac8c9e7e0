-- The parts of a dictionary's spelling, and what may follow behind each. The decoder's own functions cite these.
use Rattle.std.specs.Prelude.{ℤ, not, nat_eq, ◌≡◌, ◌≢◌, ℕ, ◌+◌, ◌≤◌, ◌<◌, ◌⊎◌, suc, Bool, true, false, List, [], ◌∷◌, ◌++◌, length, map, fold, slice_index_or, take, All}
use Rattle.std.specs.List.{concat}
use Rattle.dw_codec_plain.specs.Numbers.{FitsWidth, IsWidth, low_bytes, number}
use Rattle.dw_codec_plain.specs.Encodings.{IsText, raw_text}
use Rattle.dw_codec_plain.specs.Spelling.{IsLongestFront, IsListOf}
use Rattle.dw_codec_runs.specs.Dictionary.{is_known, met, dictionary}
use Rattle.dw_codec_runs.specs.declared.dictionary_item.Shape.{Shape}
use Rattle.dw_codec_runs.specs.declared.dictionary_item.Shape.TheVariants.{Number, Text}
use Rattle.dw_codec_runs.specs.declared.dictionary_head.Head.{Head}
use Rattle.dw_codec_runs.specs.declared.dictionary_head.Head.TheVariants.{Short, Long}

-- the item is a number in this many bytes
pub record IsNumberItem (width : ℕ) (item : List ℕ) : Type 0 where
  pub value : ℤ
  pub fits : FitsWidth width value
  pub spells : item ≡ number width value

-- the item is a text behind its length
pub record IsTextItem (item : List ℕ) : Type 0 where
  pub text : List ℕ
  pub fits : IsText text
  pub spells : item ≡ raw_text text

-- the item is of this shape
abbrev pub IsItemOf : Shape → List ℕ → Type 0
IsItemOf (Number width) = IsNumberItem width
IsItemOf Text = IsTextItem

-- the bytes are no text of the kind, and this many of them begin one
pub record IsBroken (T : List ℕ → Type 0) (bytes : List ℕ) (place : ℕ) : Type 0 where
  pub none : ¬ T bytes
  pub front : IsLongestFront T bytes place

-- the bytes begin with no item
abbrev pub NoneFirst : (List ℕ → Type 0) → List ℕ → Type 0
NoneFirst Is bytes = (item rest : List ℕ) → Is item → bytes ≢ item ++ rest

-- the texts of one kind are those of another
pub record AreSame (A B : List ℕ → Type 0) : Type 0 where
  pub to : (t : List ℕ) → A t → B t
  pub from : (t : List ℕ) → B t → A t

-- what may stand behind a front
abbrev pub Behind : (List ℕ → Type 0) → List ℕ → List ℕ → Type 0
Behind T front t = T (front ++ t)

-- What is read of the bytes, what is left of them, and which texts may follow.
pub record IsAt (T : List ℕ → Type 0) (bytes : List ℕ) (rest : List ℕ) (L : List ℕ → Type 0) : Type 0 where
  pub read : List ℕ
  pub whole : bytes ≡ read ++ rest
  pub follows : AreSame (Behind T read) L

-- the items are new to those known, and to each other
abbrev pub AreNew : List (List ℕ) → List (List ℕ) → Type 0
AreNew known [] = Unit {0}
AreNew known (item ∷ items) = (is_known known item ≡ false) × AreNew (known ++ item ∷ []) items

-- Places, each known or the next new one, from k known on until n are.
abbrev pub Grows : ℕ → ℕ → List ℕ → Type 0
Grows n k [] = k ≡ n
Grows n k (place ∷ places) = ((place < k) × Grows n k places) ⊎ ((place ≡ k) × Grows n (suc k) places)

-- the last `r` places, with k of n items known
pub record HasPlaces (n k r : ℕ) (t : List ℕ) : Type 0 where
  pub grows : Grows n k t
  pub long : length t ≡ r

-- the items of n that aren't read yet, and `count` places
pub record HasItems (Is : List ℕ → Type 0) (n count : ℕ) (known : List (List ℕ)) (t : List ℕ) : Type 0 where
  pub more : List (List ℕ)
  pub places : List ℕ
  pub counted : length known + length more ≡ n
  pub new : AreNew known more
  pub each : All Is more
  pub grows : Grows n 0 places
  pub long : length places ≡ count
  pub spells : t ≡ concat more ++ places

-- the last r items of those of which more than 256 are different
pub record HasPlain (Is : List ℕ → Type 0) (known : List (List ℕ)) (r : ℕ) (t : List ℕ) : Type 0 where
  pub items : List (List ℕ)
  pub each : All Is items
  pub counted : length items ≡ r
  pub many : 256 < length (fold met known items)
  pub spells : t ≡ concat items

-- a place that may come with k of n items known and r places behind it
abbrev pub MayCome : ℕ → ℕ → ℕ → ℕ → Type 0
MayCome n k r place = ((place < k) × (n ≤ k + r)) ⊎ ((place ≡ k) × (k < n))

-- the one byte of such a place
pub record IsPlace (n k r : ℕ) (t : List ℕ) : Type 0 where
  pub place : ℕ
  pub may : MayCome n k r place
  pub is : t ≡ place ∷ []

-- the number of different items, where fewer than 257 are among `count`
pub record IsShortHead (count number : ℕ) (t : List ℕ) : Type 0 where
  pub most : number ≤ 256
  pub enough : number ≤ count
  pub some : (count ≡ 0) ⊎ (0 < number)
  pub is : t ≡ low_bytes 2 number

-- the sign that more than 256 are different
pub record IsLongHead (wide : Bool) (count : ℕ) (t : List ℕ) : Type 0 where
  pub room : wide ≡ true
  pub enough : 256 < count
  pub is : t ≡ 255 ∷ 255 ∷ []

-- the bytes that stand before the items
abbrev pub IsHead : Bool → ℕ → List ℕ → Type 0
IsHead wide count t = ((number : ℕ) × IsShortHead count number t) ⊎ IsLongHead wide count t

-- a head that was read
abbrev pub IsHeadOf : Bool → ℕ → Head → List ℕ → Type 0
IsHeadOf wide count (Short number) t = IsShortHead count number t
IsHeadOf wide count Long t = IsLongHead wide count t

-- numbers have one of the widths
abbrev pub IsShape : Shape → Type 0
IsShape (Number width) = IsWidth width
IsShape Text = Unit {0}

-- whether there are more than 256 items of this shape
abbrev pub is_wide : Shape → Bool
is_wide (Number width) = not (nat_eq width 1)
is_wide Text = true

-- how many bytes say how long an item is
abbrev pub head_of : Shape → ℕ
head_of (Number width) = 0
head_of Text = 2

-- an item of this length begins with the bytes, or the bytes with it
pub record IsItemAt (shape : Shape) (bytes : List ℕ) (len : ℕ) : Type 0 where
  pub item : List ℕ
  pub is : IsItemOf shape item
  pub long : length item ≡ len
  pub agrees : take len bytes ≡ take (length bytes) item

-- the bytes are too few to tell how long an item is that begins with them
pub record IsCutHead (shape : Shape) (bytes : List ℕ) : Type 0 where
  pub item : List ℕ
  pub is : IsItemOf shape item
  pub short : length bytes < head_of shape
  pub longer : length bytes < length item
  pub agrees : bytes ≡ take (length bytes) item

-- an item that isn't known
pub record IsUnknown (shape : Shape) (known : List (List ℕ)) (item : List ℕ) : Type 0 where
  pub is : IsItemOf shape item
  pub out : is_known known item ≡ false

-- 256 items are known, which all begin with this front, and it lacks only an item's last byte
pub record IsExhausted (shape : Shape) (known : List (List ℕ)) (len : ℕ) (front : List ℕ) : Type 0 where
  pub full : 256 ≤ length known
  pub last : length front + 1 ≡ len
  pub told : head_of shape ≤ length front
  pub all : All (λ item. (rest : List ℕ) × (item ≡ front ++ rest)) known

-- an item that may come: any, or only one that isn't known
abbrev pub IsWanted : Shape → List (List ℕ) → Bool → List ℕ → Type 0
IsWanted shape known true = IsItemOf shape
IsWanted shape known false = IsUnknown shape known

-- the first byte of the head of some spelling of `count` items
abbrev pub IsFirstByte : ℕ → ℕ → Type 0
IsFirstByte count byte = ((byte ≡ 0) × ((count ≡ 0) ⊎ (256 ≤ count))) ⊎ ((0 < byte) × (byte ≤ count))

-- the items at places of different items
abbrev pub items_at : List (List ℕ) → List ℕ → List (List ℕ)
items_at all places = map (λ place. slice_index_or all place []) places

-- the items that a dictionary's spelling spells, one after another
pub record IsUnpacked (shape : Shape) (count : ℕ) (bytes plain : List ℕ) : Type 0 where
  pub items : List (List ℕ)
  pub are : IsListOf (IsItemOf shape) count items
  pub plain_is : plain ≡ concat items
  pub spells : bytes ≡ dictionary items

-- the bytes begin with an item
pub record BeginsWith (Is : List ℕ → Type 0) (bytes : List ℕ) : Type 0 where
  pub item : List ℕ
  pub is : Is item
  pub rest : List ℕ
  pub begins : bytes ≡ item ++ rest
