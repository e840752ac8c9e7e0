-- The run that a report tells of: its scripts, which are what the grammar makes of the statements in the files that the
-- words name, the moves of its schedule, and its journal.
use Rattle.std.specs.Prelude.{◌≡◌, ℕ, List, [], length, map, Option, Some, None}
use Rattle.std.specs.Result.{result_unwrap_or}
use Rattle.dw_io.specs.Outside.{Held}
use Rattle.dw_script.specs.declared.schedule.Move.{Move as Entry}
use Rattle.dw_script.specs.Schedule.{read_schedule, steps_of}
use Rattle.dw_journal.specs.declared.Journal.{Journal}
use Rattle.dw_journal.specs.declared.World.{World}
use Rattle.dw_journal.specs.Shapes.{standard_shape}
use Rattle.dw_journal.specs.Worlds.{session_count}
use Rattle.dw_journal.specs.Follows.{Follows}
use Rattle.dw_journal.specs.Legal.{IsLegal}
use Rattle.dw_journal.specs.Serial.{IsSerial}
use Rattle.dw_journal.specs.Driven.{Move, OfSession, IsDriven}
use Rattle.dw_print.specs.Typed.{IsOfTypes}
use Rattle.dw_input.specs.Words.{names_of}
use Rattle.dw_input.specs.Files.{bytes_under}
use Rattle.dw_input.specs.Scripts.{world_of, world_under}

-- the moves of a schedule, step by step
abbrev pub moves_of : List Entry → List Move
moves_of entries = map OfSession (steps_of entries)

-- the moves that a schedule for so many sessions says; none where it is bad
abbrev pub moves_read : ℕ → List ℕ → List Move
moves_read sessions bytes = moves_of (result_unwrap_or (read_schedule sessions bytes) [])

-- the world of a run
abbrev pub world_named : Option (List ℕ × List (List ℕ)) → Held → World
world_named None held = world_of []
world_named (Some names) held = world_under names.1 held

-- the world of the scripts that the words name among these files
abbrev pub world_in : List (List ℕ) → Held → World
world_in words held = world_named (names_of words) held

-- the moves of a run
abbrev pub moves_under : Option (List ℕ × List (List ℕ)) → Held → List Move
moves_under None held = []
moves_under (Some names) held = moves_read (length names.1) (bytes_under held names.0)

-- the moves of the schedule that the words name among these files
abbrev pub moves_in : List (List ℕ) → Held → List Move
moves_in words held = moves_under (names_of words) held

-- a journal of a run of these scripts under this schedule's moves, with a session for each script
pub record IsRun (world : World) (moves : List Move) (journal : Journal) : Type 0 where
  pub shape : journal.shape ≡ standard_shape (session_count world)
  pub driven : IsDriven world moves journal
  pub legal : IsLegal world journal
  pub follows : Follows world journal
  pub serial : IsSerial world journal

-- a journal of a run that is printed: its numbers and texts are of the types of their fields, too
pub record IsPrintedRun (world : World) (moves : List Move) (journal : Journal) : Type 0 where
  pub run : IsRun world moves journal
  pub types : IsOfTypes journal
