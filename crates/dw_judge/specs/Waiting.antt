-- Whether a wait is due, as tests.
use Rattle.std.specs.Prelude.{ℕ, Bool, true, false, ◌&&◌, nat_eq, List, Option, Some, None}
use Rattle.dw_model.specs.Binding.{same_name}
use Rattle.dw_journal.specs.declared.Event.{Event}
use Rattle.dw_journal.specs.declared.Event.TheVariants.{Wait}
use Rattle.dw_journal.specs.Turns.{Call, Sweeps, Turn, Taking}

-- a VACUUM is called for
abbrev pub calls_for_vacuum : Call → Bool
calls_for_vacuum (Sweeps table) = true
calls_for_vacuum call = false

-- a VACUUM is to be taken
abbrev pub takes_vacuum : Turn → Bool
takes_vacuum (Taking k call) = calls_for_vacuum call
takes_vacuum turn = false

-- A VACUUM, while a vacuum runs, waits for the background worker's alone; else what is to be taken waits for its locks.
abbrev pub is_wait_by : Bool → Option ℕ → Bool → Bool → Bool
is_wait_by false sweeper alone waits = waits
is_wait_by true None alone waits = waits
is_wait_by true (Some session) alone waits = nat_eq session 0 && alone

-- this is the wait of this statement for these sessions
abbrev pub is_same_wait : Option Event → ℕ → ℕ → List ℕ → Bool
is_same_wait (Some (Wait other waiting named)) session statement holders =
    (nat_eq other session && nat_eq waiting statement) && same_name named holders
is_same_wait event session statement holders = false
