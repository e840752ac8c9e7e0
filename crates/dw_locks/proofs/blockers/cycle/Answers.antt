use Rattle.std.proofs.Common.{◌≡◌, ◌<◌, sym, subst, ◌∙◌, List as Items}
use Rattle.std.specs.Prelude.{ℕ, Option, IfOk}
use Rattle.dw_locks.specs.LockTable.{table_would_wait_for}
use Rattle.dw_locks.proofs.TableLemmas.{cycle_is, length-waits}
use Rattle.dw_locks.proofs.blockers.cycle.Goals as goal

-- a session of the table has a line
pub first_cycle-requires-clause-session : goal.first_cycle-requires-clause-session
first_cycle-requires-clause-session c =
    let long = c.as_slice.ensures.len ∙ length-waits (table_would_wait_for c.args.entries.now c.args.session c.args.wants.now) c.in_ok-waits.waits _ c.in_ok-waits.ensures.is in
    subst (λ count. c.args.session < count) (sym long) c.requires.session

pub returns : goal.returns
returns c =
    let same = cycle_is c.args.entries.now c.args.session c.args.wants.now c.as_slice.result.now c.requires.session (c.as_slice.ensures.items ∙ c.in_ok-waits.ensures.is) in
    subst (λ (cycle : Option (Items ℕ)). IfOk c.first_cycle.result (λ found. found ≡ cycle)) same c.first_cycle.ensures
