-- The keys of the commits among the events that the loop has passed.
use Rattle.std.proofs.Common.{◌≡◌, map, reverse, take}
use Rattle.dw_journal.specs.Transactions.{committed}
use Rattle.dw_serial.specs.Keys.{key_of}
use Rattle.dw_serial.proofs.order.keys_of.Given as goal

abbrev pub invariant-loop-event : goal.invariant-loop-event
invariant-loop-event l = l.keys.items ≡ reverse (map key_of (committed (reverse (take l.event-index l.events))))
