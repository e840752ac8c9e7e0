-- How the lines of events are read: the event's number, what kind it is, and what its kind has to say.
use Rattle.std.specs.Prelude.{ℕ, ◌==◌, if◌then◌else◌, Bool, true, false, Option, Some, None, List, [], ◌∷◌, codes}
use Rattle.std.specs.Option.{option_map}
use Rattle.std.specs.Str.{is_utf8}
use Rattle.dw_model.specs.declared.answers.Word.{Word}
use Rattle.dw_model.specs.declared.answers.Word.TheVariants as words
use Rattle.dw_model.specs.declared.answers.Answer.TheVariants as answers
use Rattle.dw_model.specs.declared.objects.Object.{Object}
use Rattle.dw_model.specs.declared.objects.Object.TheVariants as objects
use Rattle.dw_model.specs.declared.refusals.Refusal.{Refusal}
use Rattle.dw_model.specs.declared.refusals.Refusal.TheVariants as refusals
use Rattle.dw_journal.specs.declared.Event.{Event}
use Rattle.dw_journal.specs.declared.Event.TheVariants as events
use Rattle.dw_journal.specs.declared.Route.{Route}
use Rattle.dw_journal.specs.declared.Route.TheVariants.{Main, Cluster}
use Rattle.dw_read_report.specs.declared.read_refusals.Reason.{Reason}
use Rattle.dw_read_report.specs.declared.read_refusals.Reason.TheVariants as reasons
use Rattle.dw_read_report.specs.declared.read_events.Kind.{Kind}
use Rattle.dw_read_report.specs.declared.read_events.Kind.TheVariants as kinds
use Rattle.dw_read_report.specs.declared.read_events.Step.{Step}
use Rattle.dw_read_report.specs.declared.read_events.Step.TheVariants as steps
use Rattle.dw_read_report.specs.declared.read_events.Head.{Head}
use Rattle.dw_read_report.specs.declared.read_events.Head.TheVariants as heads
use Rattle.dw_read_report.specs.Reading.{Reading, ◌>>=◌, after, both, field_at, line, long_number, meaning, number_at, otherwise, sessions_at, short_number, statement_at, text_at, word_at}

-- what stands second in a line: the kind of its event, with the spaces around it
unfoldable pub rarer_kind_at : Reading Kind
rarer_kind_at =
    otherwise (word_at (codes " violation ") kinds.Violation)
    (otherwise (word_at (codes " refuse ") kinds.Refuse)
    (otherwise (word_at (codes " rollback ") kinds.Rollback)
    (otherwise (word_at (codes " vacuum ") kinds.Vacuum)
    (otherwise (word_at (codes " refresh ") kinds.Refresh)
    (word_at (codes " end ") kinds.End)))))

unfoldable pub kind_at : Reading Kind
kind_at =
    otherwise (word_at (codes " begin ") kinds.Begin)
    (otherwise (word_at (codes " pass ") kinds.Pass)
    (otherwise (word_at (codes " wait ") kinds.Wait)
    (otherwise (word_at (codes " open ") kinds.Open)
    (otherwise (word_at (codes " answer ") kinds.Answer)
    (otherwise (word_at (codes " commit ") kinds.Commit) rarer_kind_at)))))

-- the words of a statement that may have nothing to do
unfoldable pub pass_word_at : Reading Word
pass_word_at =
    otherwise (word_at (codes "BEGIN") words.Begin)
    (otherwise (word_at (codes "COMMIT") words.Commit) (word_at (codes "ROLLBACK") words.Rollback))

-- where a statement is worked on
unfoldable pub route_at : Reading Route
route_at = otherwise (word_at (codes "main") Main) (meaning Cluster (after (codes "cluster ") short_number))

-- a text without the parenthesis at its end
abbrev pub without_parenthesis : List ℕ → Option (List ℕ)
without_parenthesis [] = None
without_parenthesis (byte ∷ []) = if byte == 41 then Some [] else None
without_parenthesis (byte ∷ next ∷ bytes) = option_map (λ text. byte ∷ text) (without_parenthesis (next ∷ bytes))

-- a text up to a parenthesis at the end of the field
unfoldable pub closed_text_at : Reading (List ℕ)
closed_text_at bytes = field_at bytes >>= λ field. without_parenthesis field.0 >>= λ text.
    if is_utf8 text then Some (text, field.1) else None

-- an object: the rows of a table, or its definition
abbrev pub object_of : Bool × List ℕ → Object
object_of x = if x.0 then objects.Rows x.1 else objects.Def x.1

unfoldable pub object_at : Reading Object
object_at = meaning object_of (both (otherwise (word_at (codes "rows(") true) (word_at (codes "def(") false)) closed_text_at)

-- a refusal's number and the first word of its text
unfoldable pub rarer_reason_at : Reading Reason
rarer_reason_at =
    otherwise (word_at (codes "11 aborted") reasons.Aborted)
    (otherwise (word_at (codes "12 block") reasons.InBlock)
    (otherwise (word_at (codes "13 vacuum ") reasons.Vacuuming)
    (otherwise (word_at (codes "14 limit rows ") reasons.Limit)
    (word_at (codes "16 memory") reasons.Memory))))

unfoldable pub reason_at : Reading Reason
reason_at =
    otherwise (word_at (codes "1 syntax ") reasons.Syntax)
    (otherwise (word_at (codes "2 unknown ") reasons.Unknown)
    (otherwise (word_at (codes "3 exists ") reasons.Exists)
    (otherwise (word_at (codes "4 clash") reasons.Clash)
    (otherwise (word_at (codes "5 range") reasons.Range)
    (otherwise (word_at (codes "7 null ") reasons.NullIn)
    (otherwise (word_at (codes "10 deadlock") reasons.Deadlock) rarer_reason_at))))))

-- nothing more
abbrev pub nothing : {A : Type 0} → A → Reading A
nothing value bytes = Some (value, bytes)

-- the rest of a refusal
abbrev pub refusal_after : Reason → Reading Refusal
refusal_after reasons.Syntax = meaning refusals.Syntax long_number
refusal_after reasons.Unknown = meaning refusals.Unknown text_at
refusal_after reasons.Exists = meaning refusals.Exists text_at
refusal_after reasons.Clash = nothing refusals.Clash
refusal_after reasons.Range = nothing refusals.Range
refusal_after reasons.NullIn = meaning refusals.NullIn text_at
refusal_after reasons.Deadlock = meaning refusals.Deadlock sessions_at
refusal_after reasons.Aborted = nothing refusals.Aborted
refusal_after reasons.InBlock = nothing refusals.InBlock
refusal_after reasons.Vacuuming = meaning refusals.Vacuuming short_number
refusal_after reasons.Limit = meaning refusals.Limit long_number
refusal_after reasons.Memory = nothing refusals.Memory

unfoldable pub refusal_at : Reading Refusal
refusal_at bytes = reason_at bytes >>= λ reason. refusal_after reason.0 reason.1

-- what each kind of event has to say after its kind
unfoldable pub begin_at : Reading Event
begin_at = line (λ s. events.Begin s.0 s.1) statement_at

unfoldable pub pass_at : Reading Event
pass_at = line (λ x. events.Pass x.0.0 x.0.1 x.1) (both statement_at (after (codes " ") pass_word_at))

unfoldable pub wait_at : Reading Event
wait_at = line (λ x. events.Wait x.0.0 x.0.1 x.1) (both statement_at (after (codes " for") sessions_at))

unfoldable pub open_at : Reading Event
open_at =
    line (λ x. events.Opened x.0.0.0 x.0.0.1 x.0.1 x.1)
    (both (both statement_at (after (codes " snapshot ") long_number)) (after (codes " ") route_at))

unfoldable pub commit_at : Reading Event
commit_at =
    line (λ x. events.Commit x.0.0.0.0 x.0.0.0.1 x.0.0.1 x.0.1 x.1)
    (both (both (both statement_at (after (codes " stamp ") long_number)) (after (codes " low ") long_number))
    (after (codes " high ") long_number))

unfoldable pub violation_at : Reading Event
violation_at =
    line (λ x. events.Violation x.0.0.0.0 x.0.0.0.1 x.0.0.1 x.0.1 x.1)
    (both (both (both statement_at (after (codes " low ") long_number)) (after (codes " high ") long_number))
    (after (codes " ") object_at))

unfoldable pub refuse_at : Reading Event
refuse_at = line (λ x. events.Refuse x.0.0 x.0.1 x.1) (both statement_at (after (codes " ") refusal_at))

unfoldable pub rollback_at : Reading Event
rollback_at = line (λ s. events.Rollback s.0 s.1) statement_at

unfoldable pub refresh_at : Reading Event
refresh_at = line (λ x. events.Refresh x.0 x.1) (both short_number (after (codes " stamp ") long_number))

unfoldable pub end_at : Reading Event
end_at = line events.End short_number

-- the step of a vacuum, and the rest of it
unfoldable pub step_at : Reading Step
step_at =
    otherwise (word_at (codes " begin ") steps.Begin)
    (otherwise (word_at (codes " slice ") steps.Slice) (word_at (codes " end") steps.End))

abbrev pub vacuum_after : Step → ℕ → ℕ → Reading Event
vacuum_after steps.Begin session statement = line (events.VacuumBegin session statement) text_at
vacuum_after steps.Slice session statement =
    line (λ x. events.VacuumSlice session statement x.0 x.1) (both short_number (after (codes " horizon ") long_number))
vacuum_after steps.End session statement = word_at (codes "\n") (events.VacuumEnd session statement)

unfoldable pub vacuum_at : Reading Event
vacuum_at bytes = both statement_at step_at bytes >>= λ x. vacuum_after x.0.1 x.0.0.0 x.0.0.1 x.1

-- what an answer begins with, and the rest of its line: an event, or the head of one with rows
unfoldable pub answer_word_at : Reading Word
answer_word_at =
    otherwise (word_at (codes " CREATE TABLE") words.CreateTable)
    (otherwise (word_at (codes " DROP TABLE") words.DropTable)
    (otherwise (word_at (codes " LOCK TABLE") words.LockTable)
    (otherwise (word_at (codes " INSERT ") words.Insert) (word_at (codes " SELECT ") words.Select))))

abbrev pub answer_after : Word → ℕ → ℕ → Reading Head
answer_after words.Insert session statement =
    line (λ count. heads.Whole (events.Answer session statement (answers.Count words.Insert count))) long_number
answer_after words.Select session statement = line (heads.WithRows session statement) long_number
answer_after word session statement = word_at (codes "\n") (heads.Whole (events.Answer session statement (answers.Plain word)))

unfoldable pub answer_at : Reading Head
answer_at bytes = both statement_at answer_word_at bytes >>= λ x. answer_after x.0.1 x.0.0.0 x.0.0.1 x.1

-- the rest of a line of this kind
abbrev pub head_after : Kind → Reading Head
head_after kinds.Begin = meaning heads.Whole begin_at
head_after kinds.Pass = meaning heads.Whole pass_at
head_after kinds.Wait = meaning heads.Whole wait_at
head_after kinds.Open = meaning heads.Whole open_at
head_after kinds.Answer = answer_at
head_after kinds.Commit = meaning heads.Whole commit_at
head_after kinds.Violation = meaning heads.Whole violation_at
head_after kinds.Refuse = meaning heads.Whole refuse_at
head_after kinds.Rollback = meaning heads.Whole rollback_at
head_after kinds.Vacuum = meaning heads.Whole vacuum_at
head_after kinds.Refresh = meaning heads.Whole refresh_at
head_after kinds.End = meaning heads.Whole end_at

-- the first line of the event of this number
unfoldable pub head_at : ℕ → Reading Head
head_at number bytes = number_at number number bytes >>= λ n. kind_at n.1 >>= λ kind. head_after kind.0 kind.1
