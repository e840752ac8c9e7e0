use Rattle.std.proofs.Common.{◌<◌, length, refl, arith}
use Rattle.dw_journal.specs.History.{History}
use Rattle.dw_judge.specs.Verdicts.{history_before}
use Rattle.dw_judge.proofs.Happening.{at_place}
use Rattle.dw_judge.proofs.Moving.{ready_goes}
use Rattle.dw_judge.proofs.moves.go_on.Goals as goal

pub happened-requires-clause-ready : goal.happened-requires-clause-ready
happened-requires-clause-ready c =
    let history : History = history_before c.args.world.now c.args.journal.now c.args.place in
    let before = c.args.summary.now in
    let session = c.args.session in
    let in_list : session < length before.sessions.items = omega (arith, c.requires.within) in
    let there = at_place before.sessions.items session in_list in
    ready_goes c.args.journal.now.events history c.args.event.now session before c.requires.stands c.requires.leaves there.0 there.1 _
    (c.taken_out-transaction.ensures.left there.0 there.1) refl refl refl refl c.taken_out-transaction.result (c.taken_out-transaction.ensures.taken there.0 there.1)
