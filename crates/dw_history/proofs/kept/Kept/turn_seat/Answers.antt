use Rattle.dw_history.proofs.Turning.{turned}
use Rattle.dw_history.proofs.kept.Kept.turn_seat.Goals as goal

pub returns-clause-turned : goal.returns-clause-turned
returns-clause-turned g c =
    turned g.V.Grown.history_of g.V.Grown.number_of g.V.Grown.ground_of _ (λ s before after. g.A.Act.outcome s before after c.args.act.now c.work.new.act) (g.A.Act.number c.args.act.now) c.args.seat.now.me.0 c.requires.number c.requires.stands _ _ _ _ _ c.draw-ticket.ensures.drawn c.wait.ensures.inside c.work.ensures.works c.leave.ensures.left
