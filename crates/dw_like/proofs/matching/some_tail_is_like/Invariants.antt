use Rattle.std.proofs.Common.{◌≡◌, ◌∷◌, ◌+◌, length}
use denote.Text.{Utf8}
use denote.Shadow.{shadow}
use Rattle.std.specs.Str.{chars}
use Rattle.dw_like.specs.Like.{goes_like}
use Rattle.dw_like.proofs.matching.some_tail_is_like.Given as goal

abbrev pub invariant-loop-rest : goal.invariant-loop-rest
invariant-loop-rest l =
    shadow (Utf8 l.start) × shadow (Utf8 l.wanted)
    × (goes_like (37 ∷ chars l.pattern) (chars l.text) ≡ goes_like (37 ∷ chars l.wanted) (chars l.start))

abbrev pub decreases-loop-rest : goal.decreases-loop-rest
decreases-loop-rest l = length (chars l.wanted) + length (chars l.start)
