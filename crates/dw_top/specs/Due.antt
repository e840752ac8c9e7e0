-- What the words and the files call for: the first status, in this order, that is due. Words that haven't the form of
-- the command; the first file that is absent or past a limit, of the schedule and then of each script; the first script
-- that isn't well formed; a schedule that isn't; else `Ok`. Want of memory and faults of the outside may come in place of
-- what is due.
use Rattle.std.specs.Prelude.{◌≡◌, ℕ, List, length, zip, Option, Some, None, Result}
use Rattle.std.specs.Prelude.{Ok as Had, Err as Refused}
use Rattle.dw_io.specs.Outside.{Held}
use Rattle.dw_script.specs.declared.status.Status.{Status}
use Rattle.dw_script.specs.declared.status.Status.TheVariants.{Ok, Usage, BadSchedule, Memory}
use Rattle.dw_script.specs.Schedule.{Read, read_schedule}
use Rattle.dw_input.specs.Words.{names_of}
use Rattle.dw_input.specs.Files.{script_limit, file_of, files_of}
use Rattle.dw_input.specs.Scripts.{bad_script}
use Rattle.dw_input.specs.Statuses.{IsOrMemory}

-- a bad script comes before a bad schedule
abbrev pub due_of_read : Option Status → Read → Status
due_of_read (Some bad) moves = bad
due_of_read None (Had moves) = Ok
due_of_read None (Refused line) = BadSchedule line

-- once all files are there
abbrev pub due_of_bytes : List (List ℕ) → List ℕ → List (List ℕ) → Status
due_of_bytes names schedule scripts = due_of_read (bad_script (zip names scripts)) (read_schedule (length scripts) schedule)

-- once the schedule's file is there
abbrev pub due_of_scripts : List (List ℕ) → List ℕ → Result (List (List ℕ)) Status → Status
due_of_scripts names schedule (Refused status) = status
due_of_scripts names schedule (Had scripts) = due_of_bytes names schedule scripts

abbrev pub due_of_files : List (List ℕ) → Result (List ℕ) Status → Held → Status
due_of_files names (Refused status) held = status
due_of_files names (Had schedule) held = due_of_scripts names schedule (files_of held (length schedule) names)

-- once the words name a schedule and scripts
abbrev pub due_of_names : List ℕ → List (List ℕ) → Held → Status
due_of_names schedule scripts held = due_of_files scripts (file_of held script_limit 0 schedule) held

abbrev pub due_of : Option (List ℕ × List (List ℕ)) → Held → Status
due_of None held = Usage
due_of (Some names) held = due_of_names names.0 names.1 held

-- what these words call for, where these files are held
abbrev pub due : List (List ℕ) → Held → Status
due words held = due_of (names_of words) held

-- whether a schedule may be refused so: for its first bad line, or for want of memory
abbrev pub MayRejectMoves : Read → Status → Type 0
MayRejectMoves (Had moves) status = status ≡ Memory
MayRejectMoves (Refused line) status = IsOrMemory (BadSchedule line) status
