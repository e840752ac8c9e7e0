use Rattle.dw_like.proofs.Tails.{whole_passes}
use Rattle.std.proofs.Common.{sym, ◌∙◌}
use Rattle.std.specs.Str.{chars}
use Rattle.dw_like.specs.Like.{goes_like}
use Rattle.dw_like.proofs.matching.some_tail_is_like.Goals as goal

pub returns-in-Ends : goal.returns-in-Ends
returns-in-Ends c =
    let like = goes_like (chars c.loop-rest.wanted.now) in
    sym (c.loop-rest.invariant.2 ∙ whole_passes like (chars c.loop-rest.start.now) c.in-Ends.ensures)
