-- What counts for nothing between statements: blanks and whole comments.
use Rattle.std.specs.Prelude.{◌≡◌, ℕ, suc, Bool, true, false, not, ◌&&◌, ◌||◌, List, [], ◌∷◌, ◌++◌, ◌==◌}
use Rattle.std.specs.List.{list_all}
use Rattle.dw_script.specs.Characters.{dash, line_feed, slash, star}
use Rattle.dw_script.specs.Statements.{is_blank}

-- whether a byte and those after it begin with `/*` or `*/`
abbrev pub begins_mark : ℕ → List ℕ → Bool
begins_mark byte [] = false
begins_mark byte (next ∷ bytes) = ((byte == slash) && (next == star)) || ((byte == star) && (next == slash))

-- The bytes end all of so many block comments that are open, and with the end of the last they end: a `*/` ends one, a
-- `/*` opens one more, and nothing else counts.
pub data EndsBlocks : ℕ → List ℕ → Type 0 where
  all_ended : EndsBlocks 0 []
  ends : (blocks : ℕ) (bytes : List ℕ) → EndsBlocks blocks bytes → EndsBlocks (suc blocks) (star ∷ slash ∷ bytes)
  opens : (blocks : ℕ) (bytes : List ℕ) → EndsBlocks (suc (suc blocks)) bytes
      → EndsBlocks (suc blocks) (slash ∷ star ∷ bytes)
  other : (blocks byte : ℕ) (bytes : List ℕ) → begins_mark byte bytes ≡ false → EndsBlocks (suc blocks) bytes
      → EndsBlocks (suc blocks) (byte ∷ bytes)

-- no byte of these ends a line
abbrev pub IsOneLine : List ℕ → Type 0
IsOneLine bytes = list_all (λ byte. not (byte == line_feed)) bytes ≡ true

-- Blanks and whole comments: from `--` to the end of the line, or from `/*` to the `*/` that ends it.
pub data IsGap : List ℕ → Type 0 where
  nothing : IsGap []
  blank : (byte : ℕ) (gap : List ℕ) → is_blank byte ≡ true → IsGap gap → IsGap (byte ∷ gap)
  line : (comment gap : List ℕ) → IsOneLine comment → IsGap gap → IsGap (dash ∷ dash ∷ comment ++ line_feed ∷ gap)
  block : (comment gap : List ℕ) → EndsBlocks 1 comment → IsGap gap → IsGap (slash ∷ star ∷ comment ++ gap)
