use Rattle.std.proofs.Common.{length}
use denote.Text.{Utf8}
use denote.Shadow.{shadow}
use Rattle.std.specs.Str.{chars}
use Rattle.dw_like.proofs.Steps.{IsStep}
use Rattle.dw_like.proofs.matching.match_front.Given as goal

abbrev pub invariant-loop-wanted : goal.invariant-loop-wanted
invariant-loop-wanted l =
    shadow (Utf8 l.text_left) × shadow (Utf8 l.pattern_left)
    × IsStep (chars l.text) (chars l.pattern) (chars l.text_left) (chars l.pattern_left)

abbrev pub decreases-loop-wanted : goal.decreases-loop-wanted
decreases-loop-wanted l = length (chars l.pattern_left)
