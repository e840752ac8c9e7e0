use Rattle.std.proofs.Common.{◌<◌, arith}
use Rattle.dw_history.proofs.Moves.{advances_at}
use Rattle.dw_history.proofs.kept.Kept.leave.Goals as goal

pub store-requires : goal.store-requires
store-requires g c =
    let two = c.args.self.now.sized.0 in
    let r = c.requires.inside in (
      c.requires.kept,
      (let h : 0 < c.args.self.now.table.shared.table_id.words = omega arith in h),
      advances_at g.V.Grown.history_of g.V.Grown.number_of g.V.Grown.ground_of _ _ _ c.args.seat.now.me c.args.ticket r.value r.grows.0 r.held r.unspent r.served r.within r.stands r.grows.1 r.grows.2,
    )
