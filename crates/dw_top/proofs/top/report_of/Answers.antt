use Rattle.std.proofs.Common.{sym, subst}
use Rattle.dw_journal.specs.Worlds.{Scripts}
use Rattle.dw_input.specs.Scripts.{world_of}
use Rattle.dw_input.proofs.NoVacuum.{no_vacuum}
use Rattle.dw_engine.specs.EngineInvariant.{HaveNoVacuum}
use Rattle.dw_top.proofs.top.report_of.Goals as goal

-- no VACUUM is read
pub report_of_run-requires-clause-no_vacuum : goal.report_of_run-requires-clause-no_vacuum
report_of_run-requires-clause-no_vacuum c =
    subst (λ (scripts : Scripts). HaveNoVacuum (world_of scripts)) (sym c.in_ok-statements.ensures.scripts) (no_vacuum c.args.scripts.now)
