-- The lines that two texts share.
use Rattle.std.proofs.Common.{◌≡◌, ℕ, zero, suc, ◌+◌, ◌≤◌, ◌<◌, ◌==◌, List, [], ◌∷◌, length, drop, get_or, refl, ap, arith}
use Rattle.std.specs.Prelude.{if◌then◌else◌, min}
use Rattle.std.proofs.lemmas.List.{drop_more}
use Rattle.dw_check.specs.Ends.{common_front, line_ends}

-- nothing is shared with no text
common_front-none : (bytes : List ℕ) → common_front bytes [] ≡ []
common_front-none [] = refl
common_front-none (byte ∷ bytes) = refl

-- past the end of one of them nothing is shared
pub shared_past : (bytes due : List ℕ) (place : ℕ) → min (length bytes) (length due) ≤ place
    → line_ends (common_front (drop place bytes) (drop place due)) ≡ 0
shared_past [] due zero past = refl
shared_past [] due (suc place) past = refl
shared_past (byte ∷ bytes) [] zero past = refl
shared_past (byte ∷ bytes) [] (suc place) past = ap line_ends (common_front-none (drop place bytes))
shared_past (byte ∷ bytes) (other ∷ due) zero past = absurd (omega arith)
shared_past (byte ∷ bytes) (other ∷ due) (suc place) past = shared_past bytes due place (omega arith)

-- what is shared from a place on, at which both go on
pub shared_at : (bytes due : List ℕ) (place : ℕ) → place < length bytes → place < length due
    → common_front (drop place bytes) (drop place due)
    ≡ (if get_or bytes place 0 == get_or due place 0
    then get_or bytes place 0 ∷ common_front (drop (place + 1) bytes) (drop (place + 1) due) else [])
shared_at bytes due place among there =
    rw (drop_more bytes place 0 among, drop_more due place 0 there) refl
