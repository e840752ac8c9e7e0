use Rattle.dw_journal.specs.Turns.{number_due}
use Rattle.dw_engine.proofs.NextEvents.{rollback_comes, rollback_passes}
use Rattle.dw_engine.proofs.StepLemmas.{engine_block}
use Rattle.dw_engine.proofs.engines.Engine.roll_back.Goals as goal

pub pass-requires-clause-next : goal.pass-requires-clause-next
pass-requires-clause-next c =
    let now = c.args.self.now in
    let session = c.args.session in
    rollback_passes now session c.requires.session.1 (number_due now session) c.requires.taking (engine_block session c.self.view_is c.in-Outside.ensures)

pub leave-requires : goal.leave-requires
leave-requires c =
    let now = c.args.self.now in
    let session = c.args.session in
    record {
      session = c.requires.session;
      next = rollback_comes now session c.requires.session.1 (number_due now session) c.requires.taking c.block.result c.in-Within.is
          (engine_block session c.self.view_is c.block.ensures);
    }
