-- A table that stands for a state of locks tells the same blockers, waits and cycles.
use Rattle.std.proofs.Common.{◌≡◌, ℕ, not, ◌&&◌, ◌==◌, List, length, ap, refl, ◌∙◌}
use Rattle.std.specs.Prelude.{Option, Some, None, if◌then◌else◌}
use Rattle.std.specs.List.{filter, find, list_any, range_with_len}
use Rattle.std.proofs.Math.Path.{fun_ext}
use Rattle.dw_model.specs.Binding.{same_name}
use Rattle.dw_journal.specs.declared.locks.Want.{Want}
use Rattle.dw_journal.specs.declared.Event.{Event}
use Rattle.dw_journal.specs.declared.Event.TheVariants as event
use Rattle.dw_journal.specs.History.{newest_event}
use Rattle.dw_journal.specs.Locks.{LockState, stands_in_way, has_conflict, blockers, waits_by, waits_for, would_wait_for, first_cycle, deadlock_cycle}
use Rattle.dw_locks.specs.LockTable.{LockTable, StandsForLocks, is_blocker, table_blockers, blockers_of, table_waits_for, table_would_wait_for, table_cycle, wants_waited, entry_of, exclusive_holder, holds_exclusively, is_exclusive}
use Rattle.dw_locks.specs.Holders.{exclusive_holder_by, has_exclusively}

module _ (table : LockTable) (state : LockState) (stands : StandsForLocks table state) where
  pub blockers_are : (session : ℕ) (asked : List Want) → table_blockers table session asked ≡ blockers state session asked
  blockers_are session asked =
      let same : is_blocker table session asked ≡ (λ other. not (other == session) && has_conflict state asked other) =
      fun_ext (λ other. ap (λ told. not (other == session) && told) (stands.held other (λ lock. list_any (stands_in_way lock) asked))) in
      ap (λ test. filter test (range_with_len 0 (length table))) same
      ∙ ap (λ count. filter (λ other. not (other == session) && has_conflict state asked other) (range_with_len 0 count)) stands.counted

  waits_told : (session : ℕ) (newest : Option Event) → blockers_of table session (wants_waited state session newest) ≡ waits_by state session newest
  waits_told session None = refl
  waits_told session (Some (event.Wait other statement holders)) = blockers_are session (state.wants session statement)
  waits_told session (Some (event.Begin other statement)) = refl
  waits_told session (Some (event.Pass other statement word)) = refl
  waits_told session (Some (event.Opened other statement snapshot route)) = refl
  waits_told session (Some (event.Answer other statement answer)) = refl
  waits_told session (Some (event.Commit other statement stamp low high)) = refl
  waits_told session (Some (event.Violation other statement low high object)) = refl
  waits_told session (Some (event.Refuse other statement refusal)) = refl
  waits_told session (Some (event.Rollback other statement)) = refl
  waits_told session (Some (event.VacuumBegin other statement name)) = refl
  waits_told session (Some (event.VacuumSlice other statement slice horizon)) = refl
  waits_told session (Some (event.VacuumEnd other statement)) = refl
  waits_told session (Some (event.Refresh cluster stamp)) = refl
  waits_told session (Some (event.End other)) = refl

  waits_are : (session : ℕ) → table_waits_for table session ≡ waits_for state session
  waits_are session = ap (blockers_of table session) (stands.waits session) ∙ waits_told session (newest_event session state.events)

  pub cycle_stands : (session : ℕ) (asked : List Want) → table_cycle table session asked ≡ deadlock_cycle state session asked
  cycle_stands session asked =
      let same : table_would_wait_for table session asked ≡ would_wait_for state session asked =
      fun_ext (λ other. ap (λ blocking. if other == session then blocking else table_waits_for table other) (blockers_are session asked)
      ∙ ap (λ waiting. if other == session then blockers state session asked else waiting) (waits_are other)) in
      ap (λ next. first_cycle next session (range_with_len 0 (length table))) same
      ∙ ap (λ count. first_cycle (would_wait_for state session asked) session (range_with_len 0 count)) stands.counted

  pub holder_stands : (name : List ℕ) → exclusive_holder table name ≡ exclusive_holder_by state name
  holder_stands name =
      let same : (λ session. holds_exclusively name (entry_of table session)) ≡ has_exclusively state name =
      fun_ext (λ session. stands.held session (λ lock. same_name lock.table name && is_exclusive lock.mode)) in
      ap (λ test. find test (range_with_len 0 (length table))) same
      ∙ ap (λ count. find (has_exclusively state name) (range_with_len 0 count)) stands.counted
