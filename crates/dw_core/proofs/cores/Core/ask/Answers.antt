use Rattle.std.proofs.Common.{◌<◌, List, length, ℕ, sym, ap, subst, ◌∙◌, arith}
use Rattle.dw_journal.specs.History.{History, with_event}
use Rattle.dw_journal.specs.Legal.{IsNextEvent}
use Rattle.dw_locks.specs.declared.locks.Asked.{Asked}
use Rattle.dw_core.specs.Asking.{HasWaited, IsAnswered, deadlock_due}
use Rattle.dw_core.specs.Traces.{LeavesNoTrace}
use Rattle.dw_core.proofs.Asking.{deadlock_comes, deadlock_says, granted_says, waits_say}
use Rattle.dw_core.proofs.cores.Core.ask.Goals as goal
use Rattle.dw_core.proofs.cores.Core.ask.Goals.{in-Granted, in-Waits+in_ok-wait-in-Waits, in-Deadlock+in_ok-cycle-in-Deadlock+in_ok-declined-in-Deadlock}

pub declined-requires-clause-comes : goal.declined-requires-clause-comes
declined-requires-clause-comes c =
    let now = c.args.self.now in
    let session = c.args.session in
    let says = deadlock_says c.in-Deadlock.cycle _ _ (sym c.in-Deadlock.is ∙ c.in_ok-asked.ensures) in
    subst (λ (cycle : List ℕ). IsNextEvent now (deadlock_due now session cycle)) (sym c.in_ok-cycle-in-Deadlock.ensures)
    (deadlock_comes now session c.requires.session c.requires.work c.in-Deadlock.cycle says.1 says.0)

pub returns-clause-ok : goal.returns-clause-ok
returns-clause-ok c =
    let now = c.args.self.now in
    let session = c.args.session in
    elim c.match-asked.branch [
      | in-Granted w ↦
          subst (λ (asked : Asked). IsAnswered now session asked c.match-asked.self) (sym w.in-Granted.is)
          (granted_says _ _ (sym w.in-Granted.is ∙ c.in_ok-asked.ensures), w.self-is)
      | in-Waits+in_ok-wait-in-Waits w ↦
          subst (λ (asked : Asked). IsAnswered now session asked c.match-asked.self) (sym w.in-Waits.is) (
            waits_say w.in-Waits.holders _ _ (sym w.in-Waits.is ∙ c.in_ok-asked.ensures),
            subst (λ (after : History). HasWaited now session w.in-Waits.holders after) (sym w.self-is) w.in_ok-wait-in-Waits.ensures.ok,
          )
      | in-Deadlock+in_ok-cycle-in-Deadlock+in_ok-declined-in-Deadlock w ↦
          let says = deadlock_says w.in-Deadlock.cycle _ _ (sym w.in-Deadlock.is ∙ c.in_ok-asked.ensures) in
          subst (λ (asked : Asked). IsAnswered now session asked c.match-asked.self) (sym w.in-Deadlock.is) (
            subst (λ (holders : List ℕ). 0 < length holders) (sym says.1.2) (omega arith),
            says.0,
            deadlock_comes now session c.requires.session c.requires.work w.in-Deadlock.cycle says.1 says.0,
            w.self-is ∙ w.in_ok-declined-in-Deadlock.ensures.ok ∙ ap (λ (cycle : List ℕ). with_event now (deadlock_due now session cycle)) w.in_ok-cycle-in-Deadlock.ensures,
            subst (λ (after : History). LeavesNoTrace now session after) (sym w.self-is) w.in_ok-declined-in-Deadlock.ensures.trace,
          )
    ]
