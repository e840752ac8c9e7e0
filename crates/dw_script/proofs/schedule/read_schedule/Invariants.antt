use Rattle.std.proofs.Common.{◌+◌, ◌≤◌, [], length}
use Rattle.std.specs.Str.Lines.{lines}
use Rattle.dw_script.specs.Schedule.{words_from}
use Rattle.dw_script.proofs.Words.{Continues}
use Rattle.dw_script.proofs.schedule.read_schedule.Given as goal

-- reading the schedule is reading the lines that are left after the moves so far
abbrev pub invariant-loop-line : goal.invariant-loop-line
invariant-loop-line l =
    record {
      on : Continues l.sessions (words_from 1 (lines l.bytes)) [] (words_from l.number (lines l.rest)) l.moves;
      counted : l.number + length l.rest ≤ length l.bytes + 1;
    }

abbrev pub decreases-loop-line : goal.decreases-loop-line
decreases-loop-line l = length l.rest
