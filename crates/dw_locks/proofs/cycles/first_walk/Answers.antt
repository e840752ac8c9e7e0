use Rattle.std.proofs.Common.{◌-◌, length}
use Rattle.dw_locks.specs.Walks.{waits_in}
use Rattle.dw_locks.proofs.LevelLemmas.{walk_on}
use Rattle.dw_locks.proofs.cycles.first_walk.Goals as goal

-- the walk goes on over one more session
pub loop-turn-preserved : goal.loop-turn-preserved
loop-turn-preserved c = record {
  within = c.in-Some.ensures.within;
  goes_on = walk_on (waits_in c.args.waits.now) c.args.session (length c.args.levels.now - 1) c.loop-turn.turn c.loop-turn.from c.in-Some.one
      c.loop-turn.walk _ _ c.loop-turn-test.true c.in_ok-push.ensures.ok c.loop-turn.invariant.goes_on c.in-Some.ensures.over;
}
