use Rattle.std.proofs.Common.{arith}
use Rattle.std.proofs.lemmas.Option.{slice_get_within}
use Rattle.dw_engine.proofs.ScriptLemmas.{HaveNoVacuum-each}
use Rattle.dw_engine.proofs.tests.are_fit.Goals as goal

pub returns-clause-no_vacuum : goal.returns-clause-no_vacuum
returns-clause-no_vacuum c is =
    HaveNoVacuum-each c.args.world.now (λ place script at.
    let within = slice_get_within c.args.world.now.scripts place script at in
    (c.loop-script.invariant place script (grind (arith, within, c.loop-script-test.false, c.as_slice-script-items.ensures)) at).1)
