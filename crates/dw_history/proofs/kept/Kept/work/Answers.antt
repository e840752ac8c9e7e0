use Rattle.std.proofs.Common.{Some}
use Rattle.dw_history.proofs.Turning.{one_slot}
use Rattle.dw_history.proofs.kept.Kept.work.Goals as goal

pub exchange-requires : goal.exchange-requires
exchange-requires g c = (c.requires.kept, (Some c.requires.need.0, one_slot c.args.seat.now.me.1 (Some c.requires.need.0) c.requires.need.1))
