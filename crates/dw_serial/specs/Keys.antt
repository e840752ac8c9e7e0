-- By what commits are sorted into serial order: ascending low watermark, and at equal ones descending stamp. After the Serial
-- Safety Net paper of Wang, Johnson, Fekete and Pandis.
use Rattle.std.specs.declared.cmp.Ordering.{Ordering}
use Rattle.std.specs.Ordering.{nat_cmp, on, flip_args, then_cmp}
use Rattle.std.specs.Cmp.{IsTotalOrder, nat_cmp_total, on_total, then_total, back_total}
use Rattle.dw_journal.specs.Transactions.{CommittedTransaction}
use Rattle.dw_serial.specs.declared.order.SerialKey.{SerialKey}

-- a commit's key: its low watermark and its stamp
abbrev pub key_of : CommittedTransaction → SerialKey
key_of commit = record { low = commit.low; stamp = commit.stamp }

-- how two keys stand to one another
abbrev pub key_cmp : SerialKey → SerialKey → Ordering
key_cmp = then_cmp (on (λ key. key.low) nat_cmp) (on (λ key. key.stamp) (flip_args nat_cmp))

-- any two keys compare: what the key's impls of `PartialEq`, `Eq`, `PartialOrd` and `Ord` owe
pub key_cmp_total : IsTotalOrder key_cmp
key_cmp_total = then_total (on_total (λ key. key.low) nat_cmp_total) (on_total (λ key. key.stamp) (back_total nat_cmp_total))
