use Rattle.std.proofs.Common.{◌<◌, length, refl, ap, arith}
use Rattle.dw_journal.specs.History.{History, session_of}
use Rattle.dw_judge.specs.Verdicts.{history_before}
use Rattle.dw_judge.proofs.Happening.{at_place}
use Rattle.dw_judge.proofs.Ready.{commit_open, ready_committed}
use Rattle.dw_judge.proofs.openings.commit.Goals as goal

pub happened-requires-clause-own : goal.happened-requires-clause-own
happened-requires-clause-own c = ap session_of c.requires.is

pub unreachable-requires : goal.unreachable-requires
unreachable-requires c =
    let history : History = history_before c.args.world.now c.args.journal.now c.args.place in
    let events = c.args.journal.now.events in
    let before = c.args.summary.now in
    let session = c.args.session in
    let in_list : session < length before.sessions.items = omega (arith, c.requires.within) in
    let there = at_place before.sessions.items session in_list in
    commit_open events history session before c.requires.stands there.0 there.1 c.taken_out.result (c.taken_out.ensures.taken there.0 there.1)
    c.args.stamp c.args.low c.args.high c.requires.legal c.in_default.is

pub happened-requires-clause-ready : goal.happened-requires-clause-ready
happened-requires-clause-ready c =
    let history : History = history_before c.args.world.now c.args.journal.now c.args.place in
    let events = c.args.journal.now.events in
    let before = c.args.summary.now in
    let session = c.args.session in
    let in_list : session < length before.sessions.items = omega (arith, c.requires.within) in
    let there = at_place before.sessions.items session in_list in
    ready_committed events history session before c.requires.stands there.0 there.1 _ (c.taken_out.ensures.left there.0 there.1) refl refl
    c.taken_out.result (c.taken_out.ensures.taken there.0 there.1) c.args.event.now c.args.statement c.args.stamp c.args.low c.args.high
    c.requires.is c.in-Some.one c.in-Some.is c.in_ok-push.ensures.items c.in_ok-next.ensures
