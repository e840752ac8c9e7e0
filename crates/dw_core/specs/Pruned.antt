-- The oldest number of the certifier.
use Rattle.std.specs.Prelude.{ℕ, List, [], ◌∷◌}
use Rattle.dw_journal.specs.declared.Event.{Event}
use Rattle.dw_journal.specs.declared.Event.TheVariants.{Commit}
use Rattle.dw_journal.specs.Worlds.{session_count}
use Rattle.dw_journal.specs.History.{History}
use Rattle.dw_journal.specs.Transactions.{horizon}

-- the horizon just after the newest commit, or 0 where nothing is committed
abbrev pub pruned_to : ℕ → List Event → ℕ
pruned_to sessions [] = 0
pruned_to sessions (Commit session statement stamp low high ∷ older) =
    horizon sessions (Commit session statement stamp low high ∷ older)
pruned_to sessions (event ∷ older) = pruned_to sessions older

abbrev pub pruned_at : History → ℕ
pruned_at history = pruned_to (session_count history.world) history.events
