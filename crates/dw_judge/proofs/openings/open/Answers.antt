use Rattle.std.proofs.Common.{◌<◌, length, refl, ap, ◌∙◌, arith}
use Rattle.dw_journal.specs.History.{History, session_of}
use Rattle.dw_judge.specs.Verdicts.{history_before}
use Rattle.dw_judge.proofs.Happening.{at_place}
use Rattle.dw_judge.proofs.Opens.{open_ascends}
use Rattle.dw_judge.proofs.Ready.{ready_opened}
use Rattle.dw_judge.specs.Changes.{begun_in}
use Rattle.dw_judge.proofs.openings.open.Goals as goal

pub widened-requires-clause-reads : goal.widened-requires-clause-reads
widened-requires-clause-reads c =
    let history : History = history_before c.args.world.now c.args.journal.now c.args.place in
    let events = c.args.journal.now.events in
    let before = c.args.summary.now in
    let session = c.args.session in
    let in_list : session < length before.sessions.items = omega (arith, c.requires.within) in
    let there = at_place before.sessions.items session in_list in
    (open_ascends events history session c.args.snapshot before.database there.0 (c.requires.stands.each session there.0 there.1) c.in_ok-one.one
    (c.in_ok-one.ensures ∙ ap (begun_in c.args.snapshot before.database) (c.taken_out-transaction.ensures.taken there.0 there.1))).0

pub widened-requires-clause-writes : goal.widened-requires-clause-writes
widened-requires-clause-writes c =
    let history : History = history_before c.args.world.now c.args.journal.now c.args.place in
    let events = c.args.journal.now.events in
    let before = c.args.summary.now in
    let session = c.args.session in
    let in_list : session < length before.sessions.items = omega (arith, c.requires.within) in
    let there = at_place before.sessions.items session in_list in
    (open_ascends events history session c.args.snapshot before.database there.0 (c.requires.stands.each session there.0 there.1) c.in_ok-one.one
    (c.in_ok-one.ensures ∙ ap (begun_in c.args.snapshot before.database) (c.taken_out-transaction.ensures.taken there.0 there.1))).1

pub happened-requires-clause-own : goal.happened-requires-clause-own
happened-requires-clause-own c = ap session_of c.requires.is

pub happened-requires-clause-ready : goal.happened-requires-clause-ready
happened-requires-clause-ready c =
    let history : History = history_before c.args.world.now c.args.journal.now c.args.place in
    let events = c.args.journal.now.events in
    let before = c.args.summary.now in
    let session = c.args.session in
    let in_list : session < length before.sessions.items = omega (arith, c.requires.within) in
    let there = at_place before.sessions.items session in_list in
    ready_opened events history session before c.requires.stands there.0 there.1 _ (c.taken_out-transaction.ensures.left there.0 there.1) refl refl
    c.taken_out-transaction.result (c.taken_out-transaction.ensures.taken there.0 there.1) c.args.event.now c.args.statement c.args.snapshot c.args.route c.args.given.now
    c.requires.is c.requires.given c.requires.due refl refl _ _ c.in_ok-one.ensures c.in_ok-one-2.ensures
