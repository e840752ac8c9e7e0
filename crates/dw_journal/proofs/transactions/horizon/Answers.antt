use Rattle.std.proofs.Common.{◌∙◌, arith}
use Rattle.dw_journal.specs.History.{events_of}
use Rattle.dw_journal.specs.Transactions.{snapshot_of}
use Rattle.dw_journal.proofs.Snapshots.{least_turn}
use Rattle.dw_journal.proofs.transactions.horizon.Goals as goal

pub loop-before-preserved : goal.loop-before-preserved
loop-before-preserved c =
    let turn = least_turn (λ session. snapshot_of session (events_of c.args.journal.now)) c.loop-before.least c.loop-before.before c.args.journal.now.shape.sessions (omega arith) in
    rw (c.least_with-least.ensures, c.snapshot_of.ensures) (turn ∙ c.loop-before.invariant)
