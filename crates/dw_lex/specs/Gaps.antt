-- What may stand between tokens: blanks and comments. Comments are those of the SQL standard, from `--` to the end of
-- the line or from `/*` to `*/`; the latter nest.
use Rattle.std.specs.Prelude.{◌≡◌, ℕ, zero, suc, ◌+◌, true, false, not, ◌&&◌, ◌||◌, ◌==◌, if◌then◌else◌, Option, Some, None, List, [], ◌∷◌, ◌++◌}
use Rattle.std.specs.List.{list_all, prefix_len}
use Rattle.dw_lex.specs.Characters.{is_blank, dash, line_feed, slash, star}

-- how many bytes are left of a line at the front, without its LF
abbrev pub line_at : List ℕ → ℕ
line_at bytes = prefix_len (λ b. not (b == line_feed)) bytes

-- Where the block comments end of which so many are open and `passed` bytes are passed: a `*/` ends one, a `/*` opens
-- one more, and nothing else counts. `None` is said where one is not closed.
abbrev pub blocks_end : ℕ → List ℕ → ℕ → Option ℕ
blocks_end zero bytes passed = Some passed
blocks_end (suc blocks) [] passed = None
blocks_end (suc blocks) (b ∷ []) passed = None
blocks_end (suc blocks) (b ∷ c ∷ bs) passed =
    if (b == star) && (c == slash) then blocks_end blocks bs (passed + 2) else
    if (b == slash) && (c == star) then blocks_end (suc (suc blocks)) bs (passed + 2)
    else blocks_end (suc blocks) (c ∷ bs) (passed + 1)

-- how long a block comment is, where it ends
abbrev pub block_long : Option ℕ → ℕ
block_long None = 0
block_long (Some long) = long

-- how many bytes the comment takes that begins with these two characters, and 0 where none does
abbrev pub comment_at : ℕ → ℕ → List ℕ → ℕ
comment_at b c bs =
    if (b == dash) && (c == dash) then 2 + line_at bs else
    if (b == slash) && (c == star) then block_long (blocks_end 1 bs 2) else 0

-- how many bytes the blank or the comment takes at the front of these bytes, and 0 where neither begins
abbrev pub gap_at : List ℕ → ℕ
gap_at [] = 0
gap_at (b ∷ []) = if is_blank b then 1 else 0
gap_at (b ∷ c ∷ bs) = if is_blank b then 1 else comment_at b c bs

-- The bytes end all of so many block comments that are open, and with the end of the last they end: a `*/` ends one, a
-- `/*` opens one more, and nothing else counts.
pub data EndsBlocks : ℕ → List ℕ → Type 0 where
  all_ended : EndsBlocks 0 []
  ends : (blocks : ℕ) (bytes : List ℕ) → EndsBlocks blocks bytes → EndsBlocks (suc blocks) (star ∷ slash ∷ bytes)
  opens : (blocks : ℕ) (bytes : List ℕ) → EndsBlocks (suc (suc blocks)) bytes
      → EndsBlocks (suc blocks) (slash ∷ star ∷ bytes)
  other : (blocks b c : ℕ) (bytes : List ℕ) → ((b == star) && (c == slash)) || ((b == slash) && (c == star)) ≡ false
      → EndsBlocks (suc blocks) (c ∷ bytes) → EndsBlocks (suc blocks) (b ∷ c ∷ bytes)

-- the line ends before this rest, which is nothing or begins with an LF
abbrev pub EndsLine : List ℕ → Type 0
EndsLine [] = Unit {0}
EndsLine (b ∷ bs) = (b == line_feed) ≡ true

-- a comment where this rest comes after it
pub data IsComment : List ℕ → List ℕ → Type 0 where
  line : (text rest : List ℕ) → list_all (λ b. not (b == line_feed)) text ≡ true → EndsLine rest
      → IsComment (dash ∷ dash ∷ text) rest
  block : (text rest : List ℕ) → EndsBlocks 1 text → IsComment (slash ∷ star ∷ text) rest

-- blanks and comments one after the other, where this rest comes after them
pub data IsGap : List ℕ → List ℕ → Type 0 where
  nothing : (rest : List ℕ) → IsGap [] rest
  blank : (b : ℕ) (gap rest : List ℕ) → is_blank b ≡ true → IsGap gap rest → IsGap (b ∷ gap) rest
  comment : (word gap rest : List ℕ) → IsComment word (gap ++ rest) → IsGap gap rest → IsGap (word ++ gap) rest
