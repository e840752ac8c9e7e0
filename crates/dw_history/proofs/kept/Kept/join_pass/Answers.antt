use Rattle.std.proofs.Common.{◌<◌, arith, ◌∙◌}
use Rattle.dw_history.proofs.Moves.{takes_in, looks_at}
use Rattle.dw_history.proofs.kept.Kept.join_pass.Goals as goal

pub join_seat-requires : goal.join_seat-requires
join_seat-requires g c =
    let two = c.args.self.now.sized.0 in
    let r = c.args.pass.now.rests in
    let o = c.args.other.rests in (
      c.requires.kept.0.0,
      c.requires.kept.1.0,
      o.no_slot,
      (let h : 0 < c.args.self.now.table.shared.table_id.words = omega arith in h),
      takes_in g.V.Grown.history_of g.V.Grown.number_of g.V.Grown.ground_of _ _ c.args.pass.now.seat.me.0 _ c.args.other.seat.me.0 r.unspent c.requires.first r.no_ticket r.outside o.unspent o.no_ticket o.outside,
    )

pub load-requires : goal.load-requires
load-requires g c =
    let two = c.args.self.now.sized.0 in
    let r = c.args.pass.now.rests in
    let e = c.join_seat.ensures in (
      e.0 ∙ c.requires.kept.0.0,
      (let h : 0 < c.args.self.now.table.shared.table_id.words = omega arith in h),
      looks_at g.V.Grown.history_of g.V.Grown.number_of g.V.Grown.ground_of _ _ _ c.join_seat.new.seat.me _ _ e.2 r.no_slot r.unspent r.outside,
    )
