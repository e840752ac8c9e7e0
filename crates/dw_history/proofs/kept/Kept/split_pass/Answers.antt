use Rattle.std.proofs.Common.{◌<◌, ◌+◌, ◌^◌, arith}
use Rattle.dw_history.proofs.Moves.{makes}
use Rattle.dw_history.proofs.kept.Kept.split_pass.Goals as goal

pub split_seat-seat-requires : goal.split_seat-seat-requires
split_seat-seat-requires g c =
    let two = c.args.self.now.sized.0 in
    let r = c.args.pass.now.rests in (
      c.requires.kept.0,
      (let h : 0 < c.args.self.now.table.shared.table_id.words = omega arith in h),
      makes g.V.Grown.history_of g.V.Grown.number_of g.V.Grown.ground_of _ c.args.pass.now.seat.id c.args.pass.now.seat.me.0 r.unspent c.requires.first r.outside (let few = c.args.self.now.few in let room = c.requires.room in let h : c.args.pass.now.seat.me.0.made + 1 < 2 ^ 32 = omega arith in h),
    )
