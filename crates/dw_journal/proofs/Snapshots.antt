-- The least of the snapshots of many sessions, one session after another.
use Rattle.std.proofs.Common.{◌≡◌, ℕ, suc, ◌+◌, ◌-◌, ◌<◌, List, [], Option, Some, None, refl, arith}
use Rattle.std.specs.List.{cons_option, filter_map, fold, range_with_len}
use Rattle.dw_journal.specs.Transactions.{least_with}

with_one : (least number : Option ℕ) (numbers : List ℕ)
    → fold least_with (fold least_with least (cons_option number [])) numbers ≡ fold least_with least (cons_option number numbers)
with_one least None numbers = refl
with_one least (Some number) numbers = refl

-- the next session's number joins those so far
pub least_turn : (number : ℕ → Option ℕ) (least : Option ℕ) (before sessions : ℕ) → before < sessions
    → fold least_with (fold least_with least (cons_option (number (before + 1)) [])) (filter_map number (range_with_len (before + 1 + 1) (sessions - (before + 1))))
    ≡ fold least_with least (filter_map number (range_with_len (before + 1) (sessions - before)))
least_turn number least before sessions below =
    let e : sessions - before ≡ suc (sessions - (before + 1)) = omega arith in
    rw e (with_one least (number (before + 1)) _)
