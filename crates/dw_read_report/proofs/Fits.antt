-- What a line says of an event, part by part: an event that is readable fits, and one that fits is readable.
use Rattle.std.proofs.Common.{◌≡◌, List, [], ◌∷◌, length}
use Rattle.std.specs.List.{AllByRecursion}
use Rattle.std.specs.Str.{IsUtf8}
use Rattle.dw_value.specs.declared.values.Field.{Field}
use Rattle.dw_model.specs.declared.answers.Word.TheVariants as words
use Rattle.dw_model.specs.declared.answers.Answer.{Answer}
use Rattle.dw_model.specs.declared.answers.Answer.TheVariants as answers
use Rattle.dw_journal.specs.declared.Event.{Event}
use Rattle.dw_journal.specs.declared.Event.TheVariants as events
use Rattle.dw_print.specs.Typed.{IsLong, IsShort, IsTypedEvent, IsTypedField}
use Rattle.dw_read_report.specs.Readable.{AreReadable, HasAny, HasEventWords, IsPassWord, IsPlainWord, IsReadableEvent}

abbrev pub FitsAnswer : Answer → Type 0
FitsAnswer (answers.Plain word) = IsPlainWord word
FitsAnswer (answers.Count word count) = (word ≡ words.Insert) × IsLong count
FitsAnswer (answers.Rows word names rows) =
    (word ≡ words.Select) × IsLong (length rows) × AreReadable IsUtf8 names × AllByRecursion (AreReadable IsTypedField) rows

-- an event that passes, and one with an answer, are of their types and have their words; any other is of its types
abbrev pub FitsEvent : Event → Type 0
FitsEvent (events.Pass session statement word) = IsShort session × IsShort statement × IsPassWord word
FitsEvent (events.Answer session statement answer) = IsShort session × IsShort statement × FitsAnswer answer
FitsEvent event = IsTypedEvent event

-- lists of which each item fits, and which have one
are_readable : {A : Type 0} (Fits : A → Type 0) (items : List A) → AllByRecursion Fits items → HasAny items → AreReadable Fits items
are_readable Fits [] each any = any
are_readable Fits (first ∷ others) each any = each

each_fits : {A : Type 0} (Fits : A → Type 0) (items : List A) → AreReadable Fits items → AllByRecursion Fits items
each_fits Fits [] readable = absurd readable
each_fits Fits (first ∷ others) readable = readable

has_any : {A : Type 0} (Fits : A → Type 0) (items : List A) → AreReadable Fits items → HasAny items
has_any Fits [] readable = readable
has_any Fits (first ∷ others) readable = tt

rows_fit : (rows : List (List Field)) → AllByRecursion (AllByRecursion IsTypedField) rows → AllByRecursion HasAny rows
    → AllByRecursion (AreReadable IsTypedField) rows
rows_fit [] each any = tt
rows_fit (row ∷ rows) each any = (are_readable IsTypedField row each.0 any.0, rows_fit rows each.1 any.1)

rows_typed : (rows : List (List Field)) → AllByRecursion (AreReadable IsTypedField) rows → AllByRecursion (AllByRecursion IsTypedField) rows
rows_typed [] fit = tt
rows_typed (row ∷ rows) fit = (each_fits IsTypedField row fit.0, rows_typed rows fit.1)

rows_any : (rows : List (List Field)) → AllByRecursion (AreReadable IsTypedField) rows → AllByRecursion HasAny rows
rows_any [] fit = tt
rows_any (row ∷ rows) fit = (has_any IsTypedField row fit.0, rows_any rows fit.1)

-- a readable event fits
pub event_fits : (event : Event) → IsReadableEvent event → FitsEvent event
event_fits (events.Begin s q) readable = readable.0
event_fits (events.Pass s q word) readable = (readable.0.0, readable.0.1, readable.1)
event_fits (events.Wait s q holders) readable = readable.0
event_fits (events.Opened s q snapshot route) readable = readable.0
event_fits (events.Answer s q (answers.Plain word)) readable = (readable.0.0, readable.0.1, readable.1)
event_fits (events.Answer s q (answers.Count word count)) readable = (readable.0.0, readable.0.1, (readable.1, readable.0.2))
event_fits (events.Answer s q (answers.Rows word names rows)) readable = (
  readable.0.0,
  readable.0.1,
  (
    readable.1.0,
    readable.0.2.1.0,
    are_readable IsUtf8 names readable.0.2.0 readable.1.1,
    rows_fit rows readable.0.2.1.1 readable.1.2,
  ),
)
event_fits (events.Commit s q stamp low high) readable = readable.0
event_fits (events.Violation s q low high object) readable = readable.0
event_fits (events.Refuse s q refusal) readable = readable.0
event_fits (events.Rollback s q) readable = readable.0
event_fits (events.VacuumBegin s q table) readable = readable.0
event_fits (events.VacuumSlice s q slice horizon) readable = readable.0
event_fits (events.VacuumEnd s q) readable = readable.0
event_fits (events.Refresh cluster stamp) readable = readable.0
event_fits (events.End session) readable = readable.0

-- an event that fits is readable
pub event_readable : (event : Event) → FitsEvent event → IsReadableEvent event
event_readable (events.Begin s q) fits = (fits, tt)
event_readable (events.Pass s q word) fits = ((fits.0, fits.1), fits.2)
event_readable (events.Wait s q holders) fits = (fits, tt)
event_readable (events.Opened s q snapshot route) fits = (fits, tt)
event_readable (events.Answer s q (answers.Plain word)) fits = ((fits.0, fits.1, tt), fits.2)
event_readable (events.Answer s q (answers.Count word count)) fits = ((fits.0, fits.1, fits.2.1), fits.2.0)
event_readable (events.Answer s q (answers.Rows word names rows)) fits = (
  (fits.0, fits.1, (each_fits IsUtf8 names fits.2.2, (fits.2.1, rows_typed rows fits.2.3))),
  (fits.2.0, has_any IsUtf8 names fits.2.2, rows_any rows fits.2.3),
)
event_readable (events.Commit s q stamp low high) fits = (fits, tt)
event_readable (events.Violation s q low high object) fits = (fits, tt)
event_readable (events.Refuse s q refusal) fits = (fits, tt)
event_readable (events.Rollback s q) fits = (fits, tt)
event_readable (events.VacuumBegin s q table) fits = (fits, tt)
event_readable (events.VacuumSlice s q slice horizon) fits = (fits, tt)
event_readable (events.VacuumEnd s q) fits = (fits, tt)
event_readable (events.Refresh cluster stamp) fits = (fits, tt)
event_readable (events.End session) fits = (fits, tt)

-- so of lists of events
pub events_fit : (events : List Event) → AllByRecursion IsTypedEvent events → AllByRecursion HasEventWords events → AllByRecursion FitsEvent events
events_fit [] typed worded = tt
events_fit (event ∷ events) typed worded = (event_fits event (typed.0, worded.0), events_fit events typed.1 worded.1)

pub events_readable : (events : List Event) → AllByRecursion FitsEvent events → AllByRecursion IsReadableEvent events
events_readable [] fit = tt
events_readable (event ∷ events) fit = (event_readable event fit.0, events_readable events fit.1)
