-- What a text and a pattern come to where the pattern's next % is.
use Rattle.std.specs.Prelude.{◌≡◌, ℕ, ◌<◌, ◌≤◌, true, false, List, ◌∷◌, length}
use Rattle.std.specs.Str.{chars}
use Rattle.dw_like.specs.declared.matching.Front.{Front}
use Rattle.dw_like.specs.declared.matching.Front.TheVariants.{Fails, Ends, Many}
use Rattle.dw_like.specs.Like.{goes_like}

-- What is said of the characters of both. Where a % comes, the text is like the pattern exactly where some tail of what
-- is left of the text is like what follows the %. And exactly there some tail of the text is like the pattern: no later
-- place of what stands before the % need be tried.
abbrev pub IsFront : (text pattern : List ℕ) → Front → Type 0
IsFront text pattern Fails = goes_like pattern text ≡ false
IsFront text pattern Ends = goes_like pattern text ≡ true
IsFront text pattern (Many rest after) =
    (goes_like pattern text ≡ goes_like (37 ∷ chars after.now) (chars rest.now))
    × (goes_like (37 ∷ pattern) text ≡ goes_like (37 ∷ chars after.now) (chars rest.now))
    × (length (chars after.now) < length pattern)
    × (length (chars rest.now) ≤ length text)
