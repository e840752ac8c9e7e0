use Rattle.std.proofs.Common.{◌≡◌, inl, inr, ap, arith}
use Rattle.std.specs.Prelude.{Some}
use Rattle.dw_journal.specs.History.{History, session_of}
use Rattle.dw_judge.specs.Verdicts.{history_before}
use Rattle.dw_judge.proofs.Following.{in_list}
use Rattle.dw_judge.proofs.judging.step.Goals as goal

pub is_legal_wait-requires-clause-within : goal.is_legal_wait-requires-clause-within
is_legal_wait-requires-clause-within c =
    let history : History = history_before c.args.world.now c.args.journal.now c.args.place in
    let own : session_of c.args.event.now ≡ Some c.in-Wait.session = ap session_of c.in-Wait.is in
    omega (arith, in_list c.args.journal.now.events history c.args.summary.now c.requires.stands c.args.event.now c.in-Wait.session own c.requires.follows)

pub go_on_if-requires-clause-within : goal.go_on_if-requires-clause-within
go_on_if-requires-clause-within c =
    let history : History = history_before c.args.world.now c.args.journal.now c.args.place in
    let own : session_of c.args.event.now ≡ Some c.in-Wait.session = ap session_of c.in-Wait.is in
    omega (arith, in_list c.args.journal.now.events history c.args.summary.now c.requires.stands c.args.event.now c.in-Wait.session own c.requires.follows)

pub go_on_if-requires-in-VacuumBegin-clause-within : goal.go_on_if-requires-in-VacuumBegin-clause-within
go_on_if-requires-in-VacuumBegin-clause-within c =
    let history : History = history_before c.args.world.now c.args.journal.now c.args.place in
    let own : session_of c.args.event.now ≡ Some c.in-VacuumBegin.session = ap session_of c.in-VacuumBegin.is in
    omega (arith, in_list c.args.journal.now.events history c.args.summary.now c.requires.stands c.args.event.now c.in-VacuumBegin.session own c.requires.follows)

pub is_legal_sweep-requires-clause-within : goal.is_legal_sweep-requires-clause-within
is_legal_sweep-requires-clause-within c =
    let history : History = history_before c.args.world.now c.args.journal.now c.args.place in
    let own : session_of c.args.event.now ≡ Some c.in-VacuumBegin.session = ap session_of c.in-VacuumBegin.is in
    omega (arith, in_list c.args.journal.now.events history c.args.summary.now c.requires.stands c.args.event.now c.in-VacuumBegin.session own c.requires.follows)

pub is_legal_slice-legal-requires-clause-within : goal.is_legal_slice-legal-requires-clause-within
is_legal_slice-legal-requires-clause-within c =
    let history : History = history_before c.args.world.now c.args.journal.now c.args.place in
    let own : session_of c.args.event.now ≡ Some c.in-VacuumSlice.session = ap session_of c.in-VacuumSlice.is in
    omega (arith, c.requires.stands.number, c.requires.stands.as_many, in_list c.args.journal.now.events history c.args.summary.now c.requires.stands c.args.event.now c.in-VacuumSlice.session own c.requires.follows)

pub go_on_if-requires-in-VacuumSlice-clause-within : goal.go_on_if-requires-in-VacuumSlice-clause-within
go_on_if-requires-in-VacuumSlice-clause-within c =
    let history : History = history_before c.args.world.now c.args.journal.now c.args.place in
    let own : session_of c.args.event.now ≡ Some c.in-VacuumSlice.session = ap session_of c.in-VacuumSlice.is in
    omega (arith, in_list c.args.journal.now.events history c.args.summary.now c.requires.stands c.args.event.now c.in-VacuumSlice.session own c.requires.follows)

pub is_legal_violation-legal-requires-clause-within : goal.is_legal_violation-legal-requires-clause-within
is_legal_violation-legal-requires-clause-within c =
    let history : History = history_before c.args.world.now c.args.journal.now c.args.place in
    let own : session_of c.args.event.now ≡ Some c.in-Violation.session = ap session_of c.in-Violation.is in
    omega (arith, in_list c.args.journal.now.events history c.args.summary.now c.requires.stands c.args.event.now c.in-Violation.session own c.requires.follows)

pub end_if-requires-clause-within : goal.end_if-requires-clause-within
end_if-requires-clause-within c =
    let history : History = history_before c.args.world.now c.args.journal.now c.args.place in
    let own : session_of c.args.event.now ≡ Some c.in-Violation.session = ap session_of c.in-Violation.is in
    omega (arith, in_list c.args.journal.now.events history c.args.summary.now c.requires.stands c.args.event.now c.in-Violation.session own c.requires.follows)

pub is_legal_refusal-requires-clause-within : goal.is_legal_refusal-requires-clause-within
is_legal_refusal-requires-clause-within c =
    let history : History = history_before c.args.world.now c.args.journal.now c.args.place in
    let own : session_of c.args.event.now ≡ Some c.in-Refuse.session = ap session_of c.in-Refuse.is in
    omega (arith, in_list c.args.journal.now.events history c.args.summary.now c.requires.stands c.args.event.now c.in-Refuse.session own c.requires.follows)

pub end_if-requires-in-Refuse-clause-within : goal.end_if-requires-in-Refuse-clause-within
end_if-requires-in-Refuse-clause-within c =
    let history : History = history_before c.args.world.now c.args.journal.now c.args.place in
    let own : session_of c.args.event.now ≡ Some c.in-Refuse.session = ap session_of c.in-Refuse.is in
    omega (arith, in_list c.args.journal.now.events history c.args.summary.now c.requires.stands c.args.event.now c.in-Refuse.session own c.requires.follows)

pub open_if-requires-clause-within : goal.open_if-requires-clause-within
open_if-requires-clause-within c =
    let history : History = history_before c.args.world.now c.args.journal.now c.args.place in
    let own : session_of c.args.event.now ≡ Some c.in-Opened.session = ap session_of c.in-Opened.is in
    omega (arith, in_list c.args.journal.now.events history c.args.summary.now c.requires.stands c.args.event.now c.in-Opened.session own c.requires.follows)

pub answer-requires-clause-within : goal.answer-requires-clause-within
answer-requires-clause-within c =
    let history : History = history_before c.args.world.now c.args.journal.now c.args.place in
    let own : session_of c.args.event.now ≡ Some c.in-Answer.session = ap session_of c.in-Answer.is in
    omega (arith, in_list c.args.journal.now.events history c.args.summary.now c.requires.stands c.args.event.now c.in-Answer.session own c.requires.follows)

pub commit_if-requires-clause-within : goal.commit_if-requires-clause-within
commit_if-requires-clause-within c =
    let history : History = history_before c.args.world.now c.args.journal.now c.args.place in
    let own : session_of c.args.event.now ≡ Some c.in-Commit.session = ap session_of c.in-Commit.is in
    omega (arith, in_list c.args.journal.now.events history c.args.summary.now c.requires.stands c.args.event.now c.in-Commit.session own c.requires.follows)

pub end_if-requires-in-Rollback-clause-within : goal.end_if-requires-in-Rollback-clause-within
end_if-requires-in-Rollback-clause-within c =
    let history : History = history_before c.args.world.now c.args.journal.now c.args.place in
    let own : session_of c.args.event.now ≡ Some c.in-Rollback.session = elim c.in-Rollback.is [ inl is ↦ ap session_of is.1 | inr is ↦ ap session_of is ] in
    omega (arith, in_list c.args.journal.now.events history c.args.summary.now c.requires.stands c.args.event.now c.in-Rollback.session own c.requires.follows)

pub go_on_if-requires-in-Begin-clause-within : goal.go_on_if-requires-in-Begin-clause-within
go_on_if-requires-in-Begin-clause-within c =
    let history : History = history_before c.args.world.now c.args.journal.now c.args.place in
    let own : session_of c.args.event.now ≡ Some c.in-Begin.session = elim c.in-Begin.is [ inl is ↦ ap session_of is.1 | inr more ↦ elim more [ inl is ↦ ap session_of is.2 | inr is ↦ ap session_of is.1 ] ] in
    omega (arith, in_list c.args.journal.now.events history c.args.summary.now c.requires.stands c.args.event.now c.in-Begin.session own c.requires.follows)
