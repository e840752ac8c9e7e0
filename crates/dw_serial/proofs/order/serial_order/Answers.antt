-- The stamps of the sorted keys are those of the commits in serial order.
use Rattle.std.proofs.Common.{◌≡◌, ℕ, List, reverse, map, IfOk, ap, subst, ◌∙◌}
use Rattle.dw_journal.specs.Transactions.{committed}
use Rattle.dw_journal.specs.History.{events_of}
use Rattle.dw_serial.specs.Keys.{key_of}
use Rattle.dw_serial.specs.declared.order.SerialKey.{SerialKey}
use Rattle.dw_serial.proofs.SortedKeys.{stamps_in_order}
use Rattle.dw_serial.proofs.order.serial_order.Goals as goal

pub returns : goal.returns
returns c =
    let keys = c.in_ok-keys.keys.items in
    let are = c.in_ok-keys.ensures ∙ ap (λ events. reverse (map key_of (committed (reverse events)))) c.as_slice.ensures.items in
    let stamps = stamps_in_order (events_of c.args.journal.now) keys c.sort_unstable.new.self.items are c.sort_unstable.ensures.permutation c.sort_unstable.ensures.sorted in
    subst (λ (s : List ℕ). IfOk c.stamps_of.result (λ result. result ≡ s)) (ap (map (λ (key : SerialKey). key.stamp)) c.as_slice-2.ensures.value ∙ stamps) c.stamps_of.ensures
