use Rattle.std.proofs.Common.{◌∙◌}
use Rattle.dw_locks.proofs.LevelLemmas.{level_at}
use Rattle.dw_locks.proofs.cycles.level_at.Goals as goal

pub returns : goal.returns
returns c waits session are =
    c.as_slice.ensures.items ∙ level_at waits session c.args.levels.now c.args.steps c.index-levels-steps.result are c.requires c.index-levels-steps.is
