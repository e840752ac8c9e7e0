-- Whole events and journals are read again.
use Rattle.std.proofs.Common.{◌≡◌, ℕ, zero, suc, ◌+◌, ◌≤◌, ◌<◌, ◌^◌, Bool, true, false, cond, List, [], ◌∷◌, ◌++◌, length, Option, Some, Result, Ok, decimal, codes, refl, sym, ◌∙◌, ap, subst, arith, append_assoc, inl, inr}
use Rattle.std.specs.Prelude.{flat_map}
use Rattle.std.specs.Char.{is_ascii_digit}
use Rattle.std.specs.List.{list_all, AllByRecursion}
use Rattle.std.proofs.lemmas.Bool.{and_parts}
use Rattle.std.proofs.lemmas.Bool.Decides.{eqb_tells}
use Rattle.std.proofs.lemmas.List.{length-append}
use Rattle.std.proofs.lemmas.Fmt.{decimal_nonempty, digits_decimal}
use Rattle.dw_value.specs.declared.values.Field.{Field}
use Rattle.dw_model.specs.declared.answers.Word.{Word}
use Rattle.dw_model.specs.declared.answers.Word.TheVariants as words
use Rattle.dw_model.specs.declared.answers.Answer.TheVariants as answers
use Rattle.dw_model.specs.Databases.{Tables}
use Rattle.dw_journal.specs.declared.Event.{Event}
use Rattle.dw_journal.specs.declared.Event.TheVariants as events
use Rattle.dw_journal.specs.declared.Journal.{Journal}
use Rattle.dw_read_report.specs.declared.read_events.Head.TheVariants as heads
use Rattle.dw_print.specs.Events.{event_lines, journal_lines}
use Rattle.dw_print.specs.Report.{header, report_of, serial_line}
use Rattle.dw_print.specs.Rows.{fields_line, names_line}
use Rattle.dw_print.specs.Tables.{tables_lines}
use Rattle.dw_print.specs.Typed.{IsTypedField}
use Rattle.dw_read_report.specs.Readable.{AreReadable, IsReadable}
use Rattle.dw_read_report.proofs.Fits.{FitsEvent, events_fit}
use Rattle.dw_read_report.specs.Reading.{names_at, row_at}
use Rattle.dw_read_report.specs.EventReading.{head_at}
use Rattle.dw_read_report.specs.ReportReading.{all_events_at, ends_journal, event_after, event_at, events_at, journal_at, lined, on_ok, or_left, rows_at, shape_at, with_items}
use Rattle.dw_read_report.proofs.Numbers.{numerals}
use Rattle.dw_read_report.proofs.TakenParts.{place_text}
use Rattle.dw_read_report.proofs.TakenEvents.{head_text, kind_of, kind_text, tail_text}
use Rattle.dw_read_report.proofs.TakenLines.{event_is}
use Rattle.dw_read_report.proofs.AgainParts.{again_names, again_row, again_shape}
use Rattle.dw_read_report.proofs.AgainEvents.{first_line, head_again}

lines_next : {A B : Type 0} (read : Result A ℕ) (a : A) (next : A → Result B ℕ) (y : Result B ℕ) → read ≡ Ok a → next a ≡ y → on_ok read next ≡ y
lines_next read a next y is later = ap (λ r. on_ok r next) is ∙ later

line_read : {A : Type 0} (read : Option A) (left : ℕ) (a : A) → read ≡ Some a → or_left read left ≡ Ok a
line_read read left a is = ap (λ r. or_left r left) is

-- the rows of an answer
rows_again : (rows : List (List Field)) (rest : List ℕ) → AllByRecursion (AreReadable IsTypedField) rows
    → rows_at (length rows) (flat_map fields_line rows ++ rest) ≡ Ok (rows, rest)
rows_again [] rest fit = refl
rows_again (row ∷ rows) rest fit =
    let others : List ℕ = flat_map fields_line rows ++ rest in
    let bytes : List ℕ = fields_line row ++ others in
    ap (rows_at (suc (length rows))) (append_assoc (fields_line row) (flat_map fields_line rows) rest)
    ∙ lines_next (lined row_at bytes) (row, others) (λ r. with_items (r.0 ∷ []) (rows_at (length rows) r.1)) (Ok (row ∷ rows, rest))
    (line_read (row_at bytes) (length bytes) (row, others) (again_row.whole row others fit.0 tt))
    (ap (with_items (row ∷ [])) (rows_again rows rest fit.1))

-- the lines of an event after its first
abbrev later_lines : Event → List ℕ
later_lines (events.Answer s q (answers.Rows word names rows)) = names_line names ++ flat_map fields_line rows
later_lines event = []

answer_parts : (p d names rows rest : List ℕ)
    → (p ++ codes " " ++ (codes "SELECT" ++ codes " " ++ d ++ codes "\n" ++ names ++ rows)) ++ rest
    ≡ (p ++ codes " SELECT " ++ d ++ codes "\n") ++ ((names ++ rows) ++ rest)
answer_parts p d names rows rest = simp append_assoc

abbrev IsParted : Event → List ℕ → Type 0
IsParted event rest = tail_text event ++ rest ≡ head_text (first_line event) ++ (later_lines event ++ rest)

parted : (event : Event) (rest : List ℕ) → FitsEvent event → IsParted event rest
parted (events.Answer s q (answers.Rows word names rows)) rest fits =
    subst (λ (w : Word). IsParted (events.Answer s q (answers.Rows w names rows)) rest) (sym fits.2.0)
    (answer_parts (place_text (s, q)) (decimal (length rows)) (names_line names) (flat_map fields_line rows) rest)
parted event rest fits = refl

later_again : (event : Event) (rest : List ℕ) → FitsEvent event → event_after (first_line event) (later_lines event ++ rest) ≡ Ok (event, rest)
later_again (events.Answer s q (answers.Rows word names rows)) rest fits =
    let rows_text : List ℕ = flat_map fields_line rows ++ rest in
    let bytes : List ℕ = names_line names ++ rows_text in
    let made : Event = events.Answer s q (answers.Rows words.Select names rows) in
    ap (event_after (heads.WithRows s q (length rows))) (append_assoc (names_line names) (flat_map fields_line rows) rest)
    ∙ lines_next (lined names_at bytes) (names, rows_text)
    (λ n. on_ok (rows_at (length rows) n.1) (λ r. Ok (events.Answer s q (answers.Rows words.Select n.0 r.0), r.1))) (Ok (made, rest))
    (line_read (names_at bytes) (length bytes) (names, rows_text) (again_names.whole names rows_text fits.2.2 tt))
    (lines_next (rows_at (length rows) rows_text) (rows, rest) (λ r. Ok (events.Answer s q (answers.Rows words.Select names r.0), r.1)) (Ok (made, rest))
    (rows_again rows rest fits.2.3) refl)
    ∙ ap (λ w. Ok (events.Answer s q (answers.Rows w names rows), rest)) (sym fits.2.0)
later_again event rest fits = refl

regroup_event : (n k t rest : List ℕ) → (n ++ k ++ t) ++ rest ≡ n ++ (k ++ (t ++ rest))
regroup_event n k t rest = simp append_assoc

event_again : (number : ℕ) (event : Event) (rest : List ℕ) → number < 2 ^ 64 → FitsEvent event
    → event_at number (event_lines number event ++ rest) ≡ Ok (event, rest)
unfolding event_at
event_again number event rest small fits =
    let later : List ℕ = later_lines event ++ rest in
    let bytes : List ℕ = decimal number ++ (kind_text (kind_of event) ++ (head_text (first_line event) ++ later)) in
    ap (event_at number) (ap (λ front. front ++ rest) (event_is number event) ∙ regroup_event (decimal number) (kind_text (kind_of event)) (tail_text event) rest
    ∙ ap (λ x. decimal number ++ (kind_text (kind_of event) ++ x)) (parted event rest fits))
    ∙ lines_next (lined (head_at number) bytes) (first_line event, later) (λ head. event_after head.0 head.1) (Ok (event, rest))
    (line_read (head_at number bytes) (length bytes) (first_line event, later) (head_again number event later small fits))
    (later_again event rest fits)

-- an event's lines begin with a digit, so the journal doesn't end before them
digit_goes_on : (digits rest : List ℕ) → list_all is_ascii_digit digits ≡ true → 0 < length digits → ends_journal (digits ++ rest) ≡ false
digit_goes_on [] rest all some = absurd (omega arith)
digit_goes_on (digit ∷ digits) rest all some =
    let parts = and_parts (is_ascii_digit digit) (list_all is_ascii_digit digits) all in
    elim (eqb_tells digit 116) [ inl a ↦ absurd (cc (rw a.1 at parts.0)) | inr a ↦ rw a.0 refl ]

event_goes_on : (number : ℕ) (event : Event) (rest : List ℕ) → number < 2 ^ 64 → ends_journal (event_lines number event ++ rest) ≡ false
event_goes_on number event rest small =
    ap (λ front. ends_journal (front ++ rest)) (event_is number event)
    ∙ ap ends_journal (regroup_event (decimal number) (kind_text (kind_of event)) (tail_text event) rest)
    ∙ digit_goes_on (decimal number) (kind_text (kind_of event) ++ (tail_text event ++ rest)) (digits_decimal numerals number small) (decimal_nonempty number small)

event_is_long : (number : ℕ) (event : Event) → number < 2 ^ 64 → 0 < length (event_lines number event)
event_is_long number event small =
    let front : List ℕ = decimal number ++ kind_text (kind_of event) in
    let same : length (event_lines number event) ≡ length (front ++ tail_text event) = ap length (event_is number event) in
    omega (arith, same, decimal_nonempty number small, length-append front (tail_text event), length-append (decimal number) (kind_text (kind_of event)))

events_are_few : (events : List Event) (number : ℕ) (rest : List ℕ) → number + length events ≤ 2 ^ 64
    → length events ≤ length (journal_lines number events ++ rest)
events_are_few [] number rest small = omega arith
events_are_few (event ∷ events) number rest small =
    let fewer : length events ≤ length (journal_lines (number + 1) events ++ rest) = events_are_few events (number + 1) rest (omega arith) in
    let some : 0 < length (event_lines number event) = event_is_long number event (omega arith) in
    omega (
      arith,
      fewer,
      some,
      length-append (event_lines number event ++ journal_lines (number + 1) events) rest,
      length-append (event_lines number event) (journal_lines (number + 1) events),
      length-append (journal_lines (number + 1) events) rest,
    )

otherwise_is : {A : Type 0} (test : Bool) (x y z : A) → test ≡ false → y ≡ z → cond test x y ≡ z
otherwise_is true x y z none is = absurd (cc none)
otherwise_is false x y z none is = is

events_again : (events : List Event) (most number : ℕ) (rest : List ℕ) → length events ≤ most → number + length events ≤ 2 ^ 64
    → AllByRecursion FitsEvent events → ends_journal rest ≡ true → events_at most number (journal_lines number events ++ rest) ≡ Ok (events, rest)
events_again [] zero number rest few small fit ends = refl
events_again [] (suc most) number rest few small fit ends = rw ends refl
events_again (event ∷ events) zero number rest few small fit ends = absurd (omega arith)
events_again (event ∷ events) (suc most) number rest few small fit ends =
    let others : List ℕ = journal_lines (number + 1) events ++ rest in
    let bytes : List ℕ = event_lines number event ++ others in
    let below : number < 2 ^ 64 = omega arith in
    let fewer : length events ≤ most = omega arith in
    let smaller : number + 1 + length events ≤ 2 ^ 64 = omega arith in
    ap (events_at (suc most) number) (append_assoc (event_lines number event) (journal_lines (number + 1) events) rest)
    ∙ otherwise_is (ends_journal bytes) (Ok ([], bytes)) (on_ok (event_at number bytes) (λ e. with_items (e.0 ∷ []) (events_at most (number + 1) e.1)))
    (Ok (event ∷ events, rest)) (event_goes_on number event others below)
    (lines_next (event_at number bytes) (event, others) (λ e. with_items (e.0 ∷ []) (events_at most (number + 1) e.1)) (Ok (event ∷ events, rest))
    (event_again number event others below fit.0)
    (ap (with_items (event ∷ [])) (events_again events most (number + 1) rest fewer smaller fit.1 ends)))

all_events_again : (events : List Event) (rest : List ℕ) → 1 + length events ≤ 2 ^ 64 → AllByRecursion FitsEvent events → ends_journal rest ≡ true
    → all_events_at (journal_lines 1 events ++ rest) ≡ Ok (events, rest)
unfolding all_events_at
all_events_again events rest small fit ends =
    events_again events (length (journal_lines 1 events ++ rest)) 1 rest (events_are_few events 1 rest small) small fit ends

parts_again : (journal : Journal) (rest : List ℕ) → IsReadable journal → ends_journal rest ≡ true
    → journal_at (header journal.shape ++ (journal_lines 1 journal.events ++ rest)) ≡ Ok (journal, rest)
unfolding journal_at
parts_again journal rest fits ends =
    let lines : List ℕ = journal_lines 1 journal.events ++ rest in
    let bytes : List ℕ = header journal.shape ++ lines in
    let few : length journal.events ≤ 18446744073709551615 = fits.types.numbers in
    lines_next (lined shape_at bytes) (journal.shape, lines)
    (λ shape. on_ok (all_events_at shape.1) (λ events. Ok (record { shape = shape.0; events = events.0 }, events.1))) (Ok (journal, rest))
    (line_read (shape_at bytes) (length bytes) (journal.shape, lines) (again_shape.whole journal.shape lines fits.limits tt))
    (lines_next (all_events_at lines) (journal.events, rest) (λ events. Ok (record { shape = journal.shape; events = events.0 }, events.1)) (Ok (journal, rest))
    (all_events_again journal.events rest (omega arith) (events_fit journal.events fits.types.events fits.words) ends) refl)

pub journal_again : (journal : Journal) (rest : List ℕ) → IsReadable journal → ends_journal rest ≡ true
    → journal_at (header journal.shape ++ journal_lines 1 journal.events ++ rest) ≡ Ok (journal, rest)
journal_again journal rest fits ends =
    ap journal_at (append_assoc (header journal.shape) (journal_lines 1 journal.events) rest) ∙ parts_again journal rest fits ends

pub report_again : (journal : Journal) (tables : Tables) (stamps : List ℕ) → IsReadable journal
    → journal_at (report_of journal tables stamps) ≡ Ok (journal, tables_lines tables ++ serial_line stamps)
report_again journal tables stamps fits =
    ap journal_at (append_assoc (header journal.shape ++ journal_lines 1 journal.events) (tables_lines tables) (serial_line stamps))
    ∙ journal_again journal (tables_lines tables ++ serial_line stamps) fits refl

read_is : {A : Type 0} (x y : A) → ◌≡◌ {A = Result A ℕ} (Ok x) (Ok y) → x ≡ y
read_is x y is = cc

-- two journals whose lines are alike, with whatever follows, are the same
pub one_journal : (a b : Journal) (x y : List ℕ) → IsReadable a → IsReadable b → ends_journal x ≡ true → ends_journal y ≡ true
    → header a.shape ++ journal_lines 1 a.events ++ x ≡ header b.shape ++ journal_lines 1 b.events ++ y → (a ≡ b) × (x ≡ y)
one_journal a b x y a_fits b_fits x_ends y_ends same =
    let first : Journal × List ℕ = (a, x) in
    let second : Journal × List ℕ = (b, y) in
    let alike : first ≡ second =
    read_is first second (sym (journal_again a x a_fits x_ends) ∙ ap journal_at same ∙ journal_again b y b_fits y_ends) in
    (ap (λ (z : Journal × List ℕ). z.0) alike, ap (λ (z : Journal × List ℕ). z.1) alike)
