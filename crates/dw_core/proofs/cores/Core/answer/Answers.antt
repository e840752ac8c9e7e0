use Rattle.std.proofs.Common.{◌≡◌, reverse, sym, subst}
use Rattle.std.specs.Prelude.{IfOk}
use Rattle.dw_journal.specs.History.{History}
use Rattle.dw_journal.specs.Legal.{blockers_of, cycle_of}
use Rattle.dw_journal.specs.Locks.{wants_of}
use Rattle.dw_journal.specs.Turns.{number_due}
use Rattle.dw_locks.specs.Requests.{answer_by}
use Rattle.dw_locks.specs.declared.locks.Asked.{Asked}
use Rattle.dw_core.proofs.Asking.{answer_told}
use Rattle.dw_core.proofs.cores.Core.answer.Goals as goal

pub returns : goal.returns
returns c =
    let i = c.self.inside in
    let history : History = record { shape = i.shape; world = i.world; events = reverse i.events.items } in
    let session = c.args.session in
    let wants_is = subst (λ (h : History). c.args.wants.now ≡ wants_of h.world session (number_due h session)) (sym c.self.view_is) c.requires.wants in
    let told = answer_told history i.locks c.self.invariant.locks session (number_due history session) c.args.wants.now wants_is in
    subst (λ (h : History). IfOk c.answer.result (λ asked. asked ≡ answer_by (blockers_of h session (number_due h session)) (cycle_of h session (number_due h session)))) c.self.view_is
    (subst (λ (answer : Asked). IfOk c.answer.result (λ asked. asked ≡ answer)) told c.answer.ensures)
