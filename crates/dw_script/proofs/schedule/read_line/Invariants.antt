use Rattle.std.proofs.Common.{length}
use Rattle.dw_script.specs.Schedule.{words_on}
use Rattle.dw_script.proofs.Words.{Continues, words_left}
use Rattle.dw_script.proofs.schedule.read_line.Given as goal

-- reading the line from its begin is reading what is left of it after the moves so far
abbrev pub invariant-loop-word : goal.invariant-loop-word
invariant-loop-word l = Continues l.sessions (words_on l.number l.line) l.initial.moves (words_left l.number l.rest) l.moves

abbrev pub decreases-loop-word : goal.decreases-loop-word
decreases-loop-word l = length l.rest
