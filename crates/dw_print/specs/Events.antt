-- The lines of a journal's events, one for each kind. Each line ends with a line feed, and numbers are plain decimals. The
-- form is this project's own.
use Rattle.std.specs.Prelude.{ℕ, ◌+◌, List, [], ◌∷◌, ◌++◌, codes, decimal}
use Rattle.dw_model.specs.declared.refusals.Refusal.{Refusal}
use Rattle.dw_model.specs.Refusals.{number_of}
use Rattle.dw_model.specs.declared.answers.Answer.{Answer as Reply}
use Rattle.dw_model.specs.declared.objects.Object.{Object}
use Rattle.dw_model.specs.declared.objects.Object.TheVariants.{Def, Rows}
use Rattle.dw_model.specs.declared.answers.Word.{Word}
use Rattle.dw_journal.specs.declared.Route.{Route}
use Rattle.dw_journal.specs.declared.Route.TheVariants.{Main, Cluster}
use Rattle.dw_journal.specs.declared.Event.{Event}
use Rattle.dw_journal.specs.declared.Event.TheVariants.{Begin, Pass, Wait, Opened, Answer, Commit, Violation, Refuse, Rollback, VacuumBegin, VacuumSlice, VacuumEnd, Refresh, End}
use Rattle.dw_print.specs.Fields.{field, refusal_text, numbers_text}
use Rattle.dw_print.specs.Answers.{answer_text, word_text}

-- what stands first in a line of a session's statement: the event's number, what kind it is, and of which statement
abbrev pub start : ℕ → List ℕ → ℕ → ℕ → List ℕ
start number kind session statement =
    decimal number ++ kind ++ decimal session ++ codes " " ++ decimal statement

-- the event of this number, of a kind that has nothing more to say
abbrev pub bare_line : ℕ → List ℕ → ℕ → ℕ → List ℕ
bare_line number kind session statement = start number kind session statement ++ codes "\n"

-- a statement that has nothing to do passes
abbrev pub pass_line : ℕ → ℕ → ℕ → Word → List ℕ
pass_line number session statement word =
    start number (codes " pass ") session statement ++ codes " " ++ word_text word ++ codes "\n"

-- a statement waits for these sessions
abbrev pub wait_line : ℕ → ℕ → ℕ → List ℕ → List ℕ
wait_line number session statement holders =
    start number (codes " wait ") session statement ++ codes " for" ++ numbers_text holders ++ codes "\n"

-- where a statement is worked on
abbrev pub route_text : Route → List ℕ
route_text Main = codes "main"
route_text (Cluster cluster) = codes "cluster " ++ decimal cluster

-- a session's statement is opened
abbrev pub open_line : ℕ → ℕ → ℕ → ℕ → Route → List ℕ
open_line number session statement snapshot route =
    start number (codes " open ") session statement ++ codes " snapshot " ++ decimal snapshot
    ++ codes " " ++ route_text route ++ codes "\n"

-- a session's statement is answered
abbrev pub answer_lines : ℕ → ℕ → ℕ → Reply → List ℕ
answer_lines number session statement answer =
    start number (codes " answer ") session statement ++ codes " " ++ answer_text answer

-- a session's transaction is committed
abbrev pub commit_line : ℕ → ℕ → ℕ → ℕ → ℕ → ℕ → List ℕ
commit_line number session statement stamp low high =
    start number (codes " commit ") session statement ++ codes " stamp " ++ decimal stamp
    ++ codes " low " ++ decimal low ++ codes " high " ++ decimal high ++ codes "\n"

-- an object: the rows of a table, or its definition
abbrev pub object_text : Object → List ℕ
object_text (Rows name) = codes "rows(" ++ field name ++ codes ")"
object_text (Def name) = codes "def(" ++ field name ++ codes ")"

-- a session's transaction can't be committed
abbrev pub violation_line : ℕ → ℕ → ℕ → ℕ → ℕ → Object → List ℕ
violation_line number session statement low high object =
    start number (codes " violation ") session statement
    ++ codes " low " ++ decimal low ++ codes " high " ++ decimal high ++ codes " " ++ object_text object ++ codes "\n"

-- a session's statement is refused
abbrev pub refuse_line : ℕ → ℕ → ℕ → Refusal → List ℕ
refuse_line number session statement refusal =
    start number (codes " refuse ") session statement
    ++ codes " " ++ decimal (number_of refusal) ++ codes " " ++ refusal_text refusal ++ codes "\n"

-- a session's vacuum of a table begins
abbrev pub sweep_line : ℕ → ℕ → ℕ → List ℕ → List ℕ
sweep_line number session statement table =
    start number (codes " vacuum ") session statement ++ codes " begin " ++ field table ++ codes "\n"

-- a session's vacuum has rebuilt a slice
abbrev pub slice_line : ℕ → ℕ → ℕ → ℕ → ℕ → List ℕ
slice_line number session statement slice horizon =
    start number (codes " vacuum ") session statement
    ++ codes " slice " ++ decimal slice ++ codes " horizon " ++ decimal horizon ++ codes "\n"

-- a session's vacuum has rebuilt all slices
abbrev pub sweep_end_line : ℕ → ℕ → ℕ → List ℕ
sweep_end_line number session statement = start number (codes " vacuum ") session statement ++ codes " end\n"

-- a cluster is refreshed
abbrev pub refresh_line : ℕ → ℕ → ℕ → List ℕ
refresh_line number cluster stamp =
    decimal number ++ codes " refresh " ++ decimal cluster ++ codes " stamp " ++ decimal stamp ++ codes "\n"

-- a session's script is at its end
abbrev pub end_line : ℕ → ℕ → List ℕ
end_line number session = decimal number ++ codes " end " ++ decimal session ++ codes "\n"

-- what is printed of the event of this number
abbrev pub event_lines : ℕ → Event → List ℕ
event_lines number (Begin session statement) = bare_line number (codes " begin ") session statement
event_lines number (Pass session statement word) = pass_line number session statement word
event_lines number (Wait session statement holders) = wait_line number session statement holders
event_lines number (Opened session statement snapshot route) = open_line number session statement snapshot route
event_lines number (Answer session statement answer) = answer_lines number session statement answer
event_lines number (Commit session statement stamp low high) = commit_line number session statement stamp low high
event_lines number (Violation session statement low high object) = violation_line number session statement low high object
event_lines number (Refuse session statement refusal) = refuse_line number session statement refusal
event_lines number (Rollback session statement) = bare_line number (codes " rollback ") session statement
event_lines number (VacuumBegin session statement table) = sweep_line number session statement table
event_lines number (VacuumSlice session statement slice horizon) = slice_line number session statement slice horizon
event_lines number (VacuumEnd session statement) = sweep_end_line number session statement
event_lines number (Refresh cluster stamp) = refresh_line number cluster stamp
event_lines number (End session) = end_line number session

-- what is printed of these events, oldest first, which are numbered upwards from `first`
abbrev pub journal_lines : ℕ → List Event → List ℕ
journal_lines first [] = []
journal_lines first (event ∷ later) = event_lines first event ++ journal_lines (first + 1) later
