use Rattle.std.proofs.Common.{◌<◌, length, refl, ap, arith}
use Rattle.dw_journal.specs.History.{History, session_of}
use Rattle.dw_judge.specs.Verdicts.{history_before}
use Rattle.dw_judge.proofs.Happening.{at_place}
use Rattle.std.proofs.Common.{subst}
use Rattle.dw_journal.specs.Worlds.{statement_at}
use Rattle.dw_judge.specs.declared.answering.Answered.{Answered}
use Rattle.dw_judge.specs.AnswersJudged.{IsAnswering}
use Rattle.dw_judge.proofs.Ready.{answer_illegal, answer_legal, ready_answered}
use Rattle.dw_judge.proofs.openings.answer.Goals as goal

pub happened-requires-clause-own : goal.happened-requires-clause-own
happened-requires-clause-own c = ap session_of c.requires.is

pub happened-requires-clause-ready : goal.happened-requires-clause-ready
happened-requires-clause-ready c =
    let history : History = history_before c.args.world.now c.args.journal.now c.args.place in
    let events = c.args.journal.now.events in
    let before = c.args.summary.now in
    let session = c.args.session in
    let in_list : session < length before.sessions.items = omega (arith, c.requires.within) in
    let there = at_place before.sessions.items session in_list in
    let judged = subst (λ (j : Answered). IsAnswering c.args.world.now.files (statement_at c.args.world.now session c.args.statement) before.database c.taken_out-transaction.result c.args.answer.now j) c.in-Legal.is c.in_ok-next.ensures in
    ready_answered events history session before c.requires.stands there.0 there.1 _ (c.taken_out-transaction.ensures.left there.0 there.1) refl refl
    c.taken_out-transaction.result (c.taken_out-transaction.ensures.taken there.0 there.1) c.args.event.now c.args.statement c.args.answer.now
    c.requires.is refl refl c.in-Legal.next judged.1

pub returns-in-Legal : goal.returns-in-Legal
returns-in-Legal c =
    let history : History = history_before c.args.world.now c.args.journal.now c.args.place in
    let events = c.args.journal.now.events in
    let before = c.args.summary.now in
    let session = c.args.session in
    let in_list : session < length before.sessions.items = omega (arith, c.requires.within) in
    let there = at_place before.sessions.items session in_list in
    let judged = subst (λ (j : Answered). IsAnswering c.args.world.now.files (statement_at c.args.world.now session c.args.statement) before.database c.taken_out-transaction.result c.args.answer.now j) c.in-Legal.is c.in_ok-next.ensures in (
      answer_legal events history session before c.requires.stands there.0 there.1 c.taken_out-transaction.result (c.taken_out-transaction.ensures.taken there.0 there.1)
          c.args.event.now c.args.statement c.args.answer.now c.requires.is judged.0,
      c.happened.ensures,
    )

pub returns-in-NotLegal : goal.returns-in-NotLegal
returns-in-NotLegal c =
    let history : History = history_before c.args.world.now c.args.journal.now c.args.place in
    let events = c.args.journal.now.events in
    let before = c.args.summary.now in
    let session = c.args.session in
    let in_list : session < length before.sessions.items = omega (arith, c.requires.within) in
    let there = at_place before.sessions.items session in_list in
    let judged = subst (λ (j : Answered). IsAnswering c.args.world.now.files (statement_at c.args.world.now session c.args.statement) before.database c.taken_out-transaction.result c.args.answer.now j) c.in-NotLegal.is c.in_ok-next.ensures in
    answer_illegal events history session before c.requires.stands there.0 there.1 c.taken_out-transaction.result (c.taken_out-transaction.ensures.taken there.0 there.1)
    c.args.event.now c.args.statement c.args.answer.now c.requires.is judged
