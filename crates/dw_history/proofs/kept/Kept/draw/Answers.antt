use Rattle.std.proofs.Common.{◌<◌, arith}
use Rattle.dw_history.proofs.Moves.{draws_at}
use Rattle.dw_history.proofs.kept.Kept.draw.Goals as goal

pub fetch_add-requires : goal.fetch_add-requires
fetch_add-requires g c =
    let two = c.args.self.now.sized.0 in
    let r = c.requires.rests in (
      c.requires.kept,
      (let h : 1 < c.args.self.now.table.shared.table_id.words = omega arith in h),
      draws_at g.V.Grown.history_of g.V.Grown.number_of g.V.Grown.ground_of _ _ _ c.args.seat.now.me r.no_slot r.unspent r.no_ticket r.outside,
    )
