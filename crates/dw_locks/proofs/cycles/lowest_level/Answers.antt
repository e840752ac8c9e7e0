use Rattle.std.proofs.Common.{[], ap, ◌∙◌}
use Rattle.std.proofs.lemmas.List.{get_or_default}
use Rattle.dw_journal.specs.Locks.{contains}
use Rattle.dw_locks.specs.Walks.{waits_in, reaches}
use Rattle.dw_locks.proofs.LevelLemmas.{level_more}
use Rattle.dw_locks.proofs.cycles.lowest_level.Goals as goal

-- one more session is told
pub loop-ones-preserved : goal.loop-ones-preserved
loop-ones-preserved c =
    level_more (reaches (waits_in c.args.waits.now) c.args.session 0) c.loop-ones.level c.push.new.self c.loop-ones.ones-index c.is_among.result
    c.in_ok-push.ensures.ok c.loop-ones.invariant (c.is_among.ensures ∙ ap (λ ones. contains ones c.args.session) (c.as_slice.ensures.items ∙ c.ones-item.is ∙ get_or_default c.args.waits.now c.loop-ones.ones-index c.ones-item.result [] c.loop-ones-test.true))
