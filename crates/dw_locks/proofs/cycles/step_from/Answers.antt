use Rattle.std.proofs.Common.{◌<◌, length, get_or, false, ap, sym, subst, ◌∙◌}
use Rattle.std.specs.Prelude.{All}
use Rattle.dw_locks.specs.Walks.{waits_in, first_of, first_walk}
use Rattle.dw_locks.proofs.LevelLemmas.{length-level, step_over, found_is_within}
use Rattle.dw_locks.proofs.cycles.step_from.Goals as goal

-- a line's sessions have a place in the level
pub first_reached-requires : goal.first_reached-requires
first_reached-requires c =
    let level = c.level_at.ensures c.args.waits.now c.args.session c.requires.levels in
    subst (λ count. All (λ one. one < count) c.line_at.result.now) (sym (length-level c.args.waits.now c.args.session c.args.steps c.level_at.result.now level))
    (c.line_at.ensures.within c.requires.each)

pub returns-clause-over : goal.returns-clause-over
returns-clause-over c =
    ap (λ ones. first_of (first_walk (waits_in c.args.waits.now) c.args.session c.args.steps) ones) (sym c.line_at.ensures.line)
    ∙ step_over c.args.waits.now c.args.session c.args.steps c.level_at.result.now c.line_at.result.now c.first_reached.result
    (c.level_at.ensures c.args.waits.now c.args.session c.requires.levels) (c.line_at.ensures.within c.requires.each) c.first_reached.ensures

pub returns-clause-within : goal.returns-clause-within
returns-clause-within c =
    found_is_within (λ one. get_or c.level_at.result.now one false) (length c.args.waits.now) c.line_at.result.now c.first_reached.result
    (c.line_at.ensures.within c.requires.each) c.first_reached.ensures
