use Rattle.std.proofs.Common.{◌<◌, ◌∙◌, arith}
use Rattle.dw_history.proofs.Moves.{looks_at}
use Rattle.dw_history.proofs.kept.Kept.wait.Goals as goal

pub load-serving-requires : goal.load-serving-requires
load-serving-requires g c =
    let two = c.args.self.now.sized.0 in
    let r = c.requires.waits in (
      c.loop.invariant.2 ∙ c.requires.kept,
      (let h : 0 < c.args.self.now.table.shared.table_id.words = omega arith in h),
      looks_at g.V.Grown.history_of g.V.Grown.number_of g.V.Grown.ground_of _ _ _ c.loop.seat.me _ _ c.loop.invariant.3 r.3 r.1 r.2,
    )
