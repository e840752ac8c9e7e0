use Rattle.dw_journal.specs.History.{events_of}
use Rattle.dw_journal.specs.Transactions.{committed}
use Rattle.dw_journal.proofs.SerialOrder.{IsPermutation-in_order, in_order-ordered}
use Rattle.dw_journal.proofs.laws.serial_order_is_in_order.Goals as goal

pub returns-clause-same : goal.returns-clause-same
returns-clause-same c = λ journal. IsPermutation-in_order (committed (events_of journal))

pub returns-clause-order : goal.returns-clause-order
returns-clause-order c = λ journal. in_order-ordered (committed (events_of journal))
