use Rattle.std.proofs.Common.{Some, ap, sym, ◌∙◌}
use Rattle.dw_journal.specs.Worlds.{read_in}
use Rattle.dw_journal.specs.Turns.{number_due}
use Rattle.dw_engine.proofs.demands.demand_of.Goals as goal

pub unreachable-requires : goal.unreachable-requires
unreachable-requires c =
    let core = c.args.core.now in
    let given = c.in-Some-Read.ensures in
    c.requires.no_vacuum c.args.session (number_due core c.args.session) c.in-Vacuum.table
    (ap read_in (sym given ∙ ap Some c.in-Some-Read.field-0-is) ∙ ap Some c.in-Vacuum.is)
