-- How an entry keeps what it was before its last granted request: how many locks it held then, and what it waited for.
use Rattle.std.specs.Prelude.{List, take}
use Rattle.dw_journal.specs.declared.locks.Want.{Want}
use Rattle.dw_locks.specs.declared.entries.Before.{Before}
use Rattle.dw_locks.specs.LockTable.{Standing}

abbrev pub standing_before : List Want → Before → Standing
standing_before held before = record { held = take before.count held; waits = before.waits }
