use Rattle.std.proofs.Common.{◌<◌, length, refl, arith}
use Rattle.dw_journal.specs.History.{History}
use Rattle.dw_judge.specs.Verdicts.{history_before}
use Rattle.dw_judge.proofs.Happening.{at_place}
use Rattle.dw_judge.proofs.Moving.{ready_ends}
use Rattle.dw_judge.proofs.moves.end.Goals as goal

pub happened-requires-clause-ready : goal.happened-requires-clause-ready
happened-requires-clause-ready c =
    let history : History = history_before c.args.world.now c.args.journal.now c.args.place in
    let before = c.args.summary.now in
    let session = c.args.session in
    let in_list : session < length before.sessions.items = omega (arith, c.requires.within) in
    let there = at_place before.sessions.items session in_list in
    ready_ends c.args.journal.now.events history c.args.event.now session before c.requires.stands c.requires.ends c.requires.own there.0 there.1 _
    (c.taken_out-transaction.ensures.left there.0 there.1) refl refl refl refl
