use Rattle.std.proofs.Common.{◌≡◌, ◌≢◌, sym, ◌∙◌}
use Rattle.dw_journal.specs.declared.BlockState.{BlockState}
use Rattle.dw_journal.specs.declared.BlockState.TheVariants.{Outside, Within, Aborted}
use Rattle.dw_journal.specs.Turns.{number_due}
use Rattle.dw_engine.proofs.NextEvents.{work_in_aborted}
use Rattle.dw_engine.proofs.StepLemmas.{engine_block}
use Rattle.dw_engine.proofs.engines.Engine.open.Goals as goal

pub decline-requires-clause-next : goal.decline-requires-clause-next
decline-requires-clause-next c =
    let now = c.args.self.now in
    let session = c.args.session in
    work_in_aborted now session c.requires.session.1 (number_due now session) c.requires.work.0 c.requires.work.2 (engine_block session c.self.view_is c.in-Aborted.ensures)
