-- What the table of locks answers a session, read as tests.
use Rattle.std.specs.Prelude.{ℕ, Bool, true, false, List, Option, Some, None}
use Rattle.dw_model.specs.declared.refusals.Refusal.{Refusal}
use Rattle.dw_model.specs.declared.refusals.Refusal.TheVariants as refusals
use Rattle.dw_model.specs.Binding.{same_name}
use Rattle.dw_locks.specs.declared.locks.Asked.{Asked}
use Rattle.dw_locks.specs.declared.locks.Asked.TheVariants.{Granted, Waits, Deadlock}

-- nobody stands in the way
abbrev pub is_granted : Asked → Bool
is_granted Granted = true
is_granted (Waits holders) = false
is_granted (Deadlock cycle) = false

-- the session has to wait, for just these
abbrev pub waits_just_for : List ℕ → Asked → Bool
waits_just_for holders Granted = false
waits_just_for holders (Waits named) = same_name named holders
waits_just_for holders (Deadlock cycle) = false

-- a refusal that comes where nobody stands in the way; a deadlock is refused before it, and where the session has to
-- wait there is none
abbrev pub unless_asked : Asked → Option Refusal → Option Refusal
unless_asked Granted refusal = refusal
unless_asked (Waits holders) refusal = None
unless_asked (Deadlock cycle) refusal = Some (refusals.Deadlock cycle)
