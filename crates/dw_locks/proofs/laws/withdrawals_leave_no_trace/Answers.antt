use Rattle.std.proofs.Common.{set, sym, subst}
use Rattle.dw_locks.specs.LockTable.{LockTable, StandsForLocks, entry_of, withdrawn}
use Rattle.dw_locks.proofs.Lasting.{withdrawn_stands}
use Rattle.dw_locks.proofs.laws.withdrawals_leave_no_trace.Goals as goal

pub returns : goal.returns
returns c table state stands session within asked grant is =
    subst (λ (t : LockTable). StandsForLocks (set t session (withdrawn (entry_of t session))) state) (sym is) (withdrawn_stands table state stands session within asked)
