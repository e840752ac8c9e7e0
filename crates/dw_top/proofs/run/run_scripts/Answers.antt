use Rattle.std.proofs.Common.{◌≡◌, ◌∙◌, List, ap, sym, subst}
use Rattle.std.specs.Prelude.{slice_get}
use Rattle.dw_journal.specs.declared.Event.{Event}
use Rattle.dw_journal.specs.declared.World.{World}
use Rattle.dw_journal.specs.Worlds.{Scripts}
use Rattle.dw_journal.specs.Transactions.{committed}
use Rattle.dw_journal.specs.Contents.{newest_state, states}
use Rattle.dw_journal.specs.History.{History}
use Rattle.dw_top.specs.Run.{moves_of}
use Rattle.dw_top.proofs.Leading.{run_driven}
use Rattle.dw_top.proofs.run.run_scripts.Goals as goal

pub returns-clause-driven : goal.returns-clause-driven
returns-clause-driven c =
    run_driven c.standard.result c.args.world (moves_of c.args.moves.now) c.len-sessions.result c.in_ok-take_rounds.ensures.leads.0
    c.in_ok-engine.engine c.take_moves.new.engine c.take_rounds.new.engine c.into_parts.result.journal
    c.in_ok-engine.ensures c.in_ok-take_moves.ensures c.in_ok-take_rounds.ensures.leads.1 c.len-sessions.ensures
    c.in_ok-take_rounds.ensures.ends c.into_parts.ensures.shape c.into_parts.ensures.events

pub returns-clause-database : goal.returns-clause-database
returns-clause-database c =
    let world : c.take_rounds.new.engine.world ≡ c.args.world =
    c.in_ok-take_rounds.ensures.leads.1.world ∙ c.in_ok-take_moves.ensures.world ∙ ap (λ (h : History). h.world) c.in_ok-engine.ensures in
    c.into_parts.ensures.database
    ∙ ap (λ (w : World). newest_state (states w (committed c.take_rounds.new.engine.events))) world
    ∙ ap (λ (events : List Event). newest_state (states c.args.world (committed events))) (sym c.into_parts.ensures.events)
