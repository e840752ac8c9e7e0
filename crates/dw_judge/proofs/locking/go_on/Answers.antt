use Rattle.std.proofs.Common.{ap, List, ◌∙◌}
use Rattle.dw_journal.specs.declared.locks.Want.{Want}
use Rattle.dw_locks.specs.LockTable.{table_blockers}
use Rattle.dw_judge.proofs.Lasting.{nothing_unblocked}
use Rattle.dw_judge.proofs.locking.go_on.Goals as goal

pub grant-requires-clause-free : goal.grant-requires-clause-free
grant-requires-clause-free c =
    ap (λ (wants : List Want). table_blockers c.args.locks.now c.args.session wants) c.new.ensures ∙ nothing_unblocked c.args.locks.now c.args.session
