-- Where tokens stand in their text.
use Rattle.std.specs.Prelude.{◌≡◌, ℕ, ◌<◌, ◌≤◌, List, [], ◌∷◌, length, drop, slice_range}
use Rattle.dw_lex.specs.Gaps.{IsGap}
use Rattle.dw_lex.specs.declared.token.Token.{Token}

-- blanks and comments alone stand in the text from one place up to another
abbrev pub IsGapBetween : List ℕ → ℕ → ℕ → Type 0
IsGapBetween text from to = IsGap (slice_range text from to) (drop to text)

-- the token's text is the slice of the text at its span, which isn't empty
pub record IsSlice (text : List ℕ) (token : Token) : Type 0 where
  pub some : token.start < token.end
  pub within : token.end ≤ length text
  pub slice : token.text ≡ slice_range text token.start token.end

-- The tokens are slices of the text, one after the other from one place up to another, and only blanks and comments
-- stand before, between and after them.
abbrev pub AreInOrder : List ℕ → ℕ → List Token → ℕ → Type 0
AreInOrder text from [] to = (from ≤ to) × IsGapBetween text from to
AreInOrder text from (token ∷ tokens) to =
    (from ≤ token.start) × IsGapBetween text from token.start × IsSlice text token × AreInOrder text token.end tokens to
