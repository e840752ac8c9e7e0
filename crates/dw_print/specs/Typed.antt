-- What the types of its fields say of a journal: numbers fit the fields that hold them, and texts are in UTF-8. It is so of
-- each journal that a program has at hand. A journal of these definitions may have any number and any bytes.
use Rattle.std.specs.Prelude.{ℕ, ◌≤◌, List, length}
use Rattle.std.specs.List.{AllByRecursion}
use Rattle.std.specs.Str.{IsUtf8}
use Rattle.dw_value.specs.declared.values.Field.{Field}
use Rattle.dw_value.specs.declared.values.Field.TheVariants as fields
use Rattle.dw_model.specs.declared.answers.Answer.{Answer}
use Rattle.dw_model.specs.declared.answers.Answer.TheVariants as answers
use Rattle.dw_model.specs.declared.objects.Object.{Object}
use Rattle.dw_model.specs.declared.objects.Object.TheVariants as objects
use Rattle.dw_model.specs.declared.refusals.Refusal.{Refusal}
use Rattle.dw_model.specs.declared.refusals.Refusal.TheVariants as refusals
use Rattle.dw_journal.specs.declared.Shape.{Shape}
use Rattle.dw_journal.specs.declared.Route.{Route}
use Rattle.dw_journal.specs.declared.Route.TheVariants as routes
use Rattle.dw_journal.specs.declared.Event.{Event}
use Rattle.dw_journal.specs.declared.Event.TheVariants as events
use Rattle.dw_journal.specs.declared.Journal.{Journal}

-- a number that fits 32 bits, and one that fits 64 bits
abbrev pub IsShort : ℕ → Type 0
IsShort number = number ≤ 4294967295

abbrev pub IsLong : ℕ → Type 0
IsLong number = number ≤ 18446744073709551615

abbrev pub IsTypedField : Field → Type 0
IsTypedField fields.Null = Unit {0}
IsTypedField (fields.Shown text) = IsUtf8 text

-- there are as many rows as 64 bits can count, and each of their fields is of its type
abbrev pub AreTypedRows : List (List Field) → Type 0
AreTypedRows rows = IsLong (length rows) × AllByRecursion (AllByRecursion IsTypedField) rows

abbrev pub IsTypedAnswer : Answer → Type 0
IsTypedAnswer (answers.Plain word) = Unit {0}
IsTypedAnswer (answers.Count word count) = IsLong count
IsTypedAnswer (answers.Rows word names rows) = AllByRecursion IsUtf8 names × AreTypedRows rows

abbrev pub IsTypedRoute : Route → Type 0
IsTypedRoute routes.Main = Unit {0}
IsTypedRoute (routes.Cluster cluster) = IsShort cluster

abbrev pub IsTypedObject : Object → Type 0
IsTypedObject (objects.Rows name) = IsUtf8 name
IsTypedObject (objects.Def name) = IsUtf8 name

abbrev pub IsTypedRefusal : Refusal → Type 0
IsTypedRefusal (refusals.Syntax place) = IsLong place
IsTypedRefusal (refusals.Unknown name) = IsUtf8 name
IsTypedRefusal (refusals.Exists name) = IsUtf8 name
IsTypedRefusal (refusals.NullIn column) = IsUtf8 column
IsTypedRefusal (refusals.Deadlock cycle) = AllByRecursion IsShort cycle
IsTypedRefusal (refusals.Vacuuming session) = IsShort session
IsTypedRefusal (refusals.Limit count) = IsLong count
IsTypedRefusal refusal = Unit {0}

-- the session and the statement of an event, its cluster or its slice, and what else it says
abbrev pub IsTypedEvent : Event → Type 0
IsTypedEvent (events.Begin session statement) = IsShort session × IsShort statement
IsTypedEvent (events.Pass session statement word) = IsShort session × IsShort statement
IsTypedEvent (events.Wait session statement holders) =
    IsShort session × IsShort statement × AllByRecursion IsShort holders
IsTypedEvent (events.Opened session statement snapshot route) =
    IsShort session × IsShort statement × IsLong snapshot × IsTypedRoute route
IsTypedEvent (events.Answer session statement answer) = IsShort session × IsShort statement × IsTypedAnswer answer
IsTypedEvent (events.Commit session statement stamp low high) =
    IsShort session × IsShort statement × IsLong stamp × IsLong low × IsLong high
IsTypedEvent (events.Violation session statement low high object) =
    IsShort session × IsShort statement × IsLong low × IsLong high × IsTypedObject object
IsTypedEvent (events.Refuse session statement refusal) = IsShort session × IsShort statement × IsTypedRefusal refusal
IsTypedEvent (events.Rollback session statement) = IsShort session × IsShort statement
IsTypedEvent (events.VacuumBegin session statement table) = IsShort session × IsShort statement × IsUtf8 table
IsTypedEvent (events.VacuumSlice session statement slice horizon) =
    IsShort session × IsShort statement × IsShort slice × IsLong horizon
IsTypedEvent (events.VacuumEnd session statement) = IsShort session × IsShort statement
IsTypedEvent (events.Refresh cluster stamp) = IsShort cluster × IsLong stamp
IsTypedEvent (events.End session) = IsShort session

abbrev pub IsTypedShape : Shape → Type 0
IsTypedShape shape =
    IsShort shape.nodes × IsShort shape.slices × IsShort shape.clusters × IsShort shape.slots × IsShort shape.sessions

-- there are as many events as 64 bits can number, and each number and text is of the type of its field
pub record IsOfTypes (journal : Journal) : Type 0 where
  pub shape : IsTypedShape journal.shape
  pub events : AllByRecursion IsTypedEvent journal.events
  pub numbers : IsLong (length journal.events)
