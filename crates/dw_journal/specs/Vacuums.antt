-- Vacuums: which of them run, and which slice is next.
use Rattle.std.specs.Prelude.{ℕ, suc, ◌*◌, if◌then◌else◌, List, [], ◌∷◌, Option, Some, None, is_some}
use Rattle.std.specs.List.{find, range_with_len}
use Rattle.dw_journal.specs.declared.Event.{Event}
use Rattle.dw_journal.specs.declared.Event.TheVariants.{VacuumBegin, VacuumEnd}
use Rattle.dw_journal.specs.declared.Shape.{Shape}
use Rattle.dw_journal.specs.Worlds.{session_count}
use Rattle.dw_journal.specs.History.{History, is_of}

-- the slices of a warehouse are numbered from 0
abbrev pub slices_in : Shape → ℕ
slices_in shape = shape.nodes * shape.slices

-- the table that a session's vacuum sweeps, once the session has this event
abbrev pub swept_after : Event → Option (List ℕ) → Option (List ℕ)
swept_after (VacuumBegin session statement table) before = Some table
swept_after (VacuumEnd session statement) before = None
swept_after event before = before

-- the table that a session's vacuum sweeps, from the vacuum's begin to its end
abbrev pub swept_by : ℕ → List Event → Option (List ℕ)
swept_by session [] = None
swept_by session (event ∷ older) =
    if is_of session event then swept_after event (swept_by session older) else swept_by session older

-- the session whose vacuum runs, among those with a script and the background worker, which is session 0; the least one
abbrev pub sweeper : History → Option ℕ
sweeper history =
    find (λ session. is_some (swept_by session history.events)) (range_with_len 0 (suc (session_count history.world)))
