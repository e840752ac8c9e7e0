-- What a program ends with: its exit number and its line on standard error, which are this project's own.
use Rattle.std.specs.Prelude.{ℕ, List, [], ◌++◌, codes}
use Rattle.std.specs.Fmt.{decimal}
use Rattle.dw_script.specs.declared.script.ScriptCause.{ScriptCause}
use Rattle.dw_script.specs.declared.script.ScriptCause.TheVariants.{NotUtf8, OpenText, OpenComment, TooMany}
use Rattle.dw_script.specs.declared.status.Status.{Status}
use Rattle.dw_script.specs.declared.status.Status.TheVariants as statuses

-- the exit number of each status
abbrev pub exit_number : Status → ℕ
exit_number statuses.Ok = 0
exit_number statuses.Usage = 2
exit_number statuses.ReadFault = 3
exit_number statuses.WriteFault = 4
exit_number (statuses.Missing name) = 5
exit_number (statuses.BadScript name cause) = 6
exit_number (statuses.BadSchedule line) = 7
exit_number statuses.Memory = 8
exit_number (statuses.BadJournal line) = 9
exit_number (statuses.NotLegal event) = 10
exit_number (statuses.NotFollows event) = 11
exit_number (statuses.WrongEnd line) = 12
exit_number (statuses.TooLong name) = 13

-- a cause in words
abbrev pub cause_text : ScriptCause → List ℕ
cause_text (NotUtf8 place) = codes "not utf-8 at " ++ decimal place
cause_text (OpenText place) = codes "open text at " ++ decimal place
cause_text (OpenComment place) = codes "open comment at " ++ decimal place
cause_text TooMany = codes "too many statements"

-- the line on standard error, without its LF
abbrev pub line_of : Status → List ℕ
line_of statuses.Ok = []
line_of statuses.Usage = codes "usage"
line_of statuses.ReadFault = codes "read fault"
line_of statuses.WriteFault = codes "write fault"
line_of (statuses.Missing name) = codes "missing " ++ name
line_of (statuses.BadScript name cause) = codes "bad script " ++ name ++ codes ": " ++ cause_text cause
line_of (statuses.BadSchedule line) = codes "bad schedule at line " ++ decimal line
line_of statuses.Memory = codes "out of memory"
line_of (statuses.BadJournal line) = codes "bad journal at line " ++ decimal line
line_of (statuses.NotLegal event) = codes "not legal at event " ++ decimal event
line_of (statuses.NotFollows event) = codes "not following at event " ++ decimal event
line_of (statuses.WrongEnd line) = codes "wrong end at line " ++ decimal line
line_of (statuses.TooLong name) = codes "too long " ++ name
