-- Whether a transaction is open, by what it took.
use Rattle.std.proofs.Common.{◌≡◌, ℕ, refl, sym, ap}
use Rattle.std.specs.Prelude.{Option, Some, None, option_map}
use Rattle.dw_journal.specs.declared.Taken.{Taken}
use Rattle.dw_journal.specs.History.{History}
use Rattle.dw_journal.specs.Transactions.{Transaction, opened_statements, snapshot_in, taken_of, taken_over, transaction_of}

module _ (history : History) (session : ℕ) where
  abbrev over : ℕ → Taken
  over snapshot = taken_over history.world session (opened_statements session history.events) snapshot

  none_by : (t : Option Transaction) → option_map over (snapshot_in t) ≡ None → t ≡ None
  none_by None none = refl
  none_by (Some one) none = cc

  some_by : (t : Option Transaction) (taken : Taken) → option_map over (snapshot_in t) ≡ Some taken → (one : Transaction) × (t ≡ Some one) × (taken.snapshot ≡ one.snapshot)
  some_by None taken some = cc
  some_by (Some one) taken some =
      let same : over one.snapshot ≡ taken = cc in
      (one, refl, ap (λ (t : Taken). t.snapshot) (sym same))

  -- no transaction is open where nothing was taken
  pub none_open : taken_of history session ≡ None → transaction_of session history.events ≡ None
  none_open none = none_by (transaction_of session history.events) none

  -- one is open that sees as many commits as what was taken
  pub one_open : (taken : Taken) → taken_of history session ≡ Some taken
      → (one : Transaction) × (transaction_of session history.events ≡ Some one) × (taken.snapshot ≡ one.snapshot)
  one_open taken some = some_by (transaction_of session history.events) taken some
