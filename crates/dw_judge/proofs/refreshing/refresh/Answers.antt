use Rattle.std.proofs.Common.{◌<◌, length, refl, arith}
use Rattle.dw_journal.specs.History.{History}
use Rattle.dw_judge.specs.Verdicts.{history_before}
use Rattle.dw_judge.proofs.Refreshed.{stands_refreshed}
use Rattle.dw_judge.proofs.refreshing.refresh.Goals as goal

pub returns : goal.returns
returns c =
    let history : History = history_before c.args.world.now c.args.journal.now c.args.place in
    let roomy = c.make_room.new.stamps.items in
    let within : c.args.cluster < length roomy = omega (arith, c.in_ok-make_room.ensures.within) in
    stands_refreshed c.args.journal.now.events history c.args.summary.now c.requires.stands c.args.event.now c.args.cluster c.args.stamp c.requires.is
    roomy c.in_ok-make_room.ensures.same within _ refl refl refl refl refl
