-- Whole events and journals: what is read stands there as it is printed.
use Rattle.std.proofs.Common.{◌≡◌, ℕ, zero, suc, ◌+◌, ◌≤◌, List, [], ◌∷◌, ◌++◌, length, drop, ◌-◌, Option, Some, None, Result, Ok, Err, decimal, codes, refl, sym, ◌∙◌, ap, arith, append_assoc, inl, inr, subst}
use Rattle.std.specs.Prelude.{flat_map}
use Rattle.std.specs.List.{AllByRecursion}
use Rattle.std.specs.Result.{IfOk}
use Rattle.std.proofs.lemmas.List.{length-append}
use Rattle.dw_journal.specs.declared.Journal.{Journal}
use Rattle.dw_read_report.specs.declared.faults.ReportFault.{ReportFault}
use Rattle.dw_read_report.specs.declared.reading.ReadReport.{ReadReport}
use Rattle.dw_print.specs.Report.{header}
use Rattle.dw_value.specs.declared.values.Field.{Field}
use Rattle.dw_model.specs.declared.answers.Word.TheVariants as words
use Rattle.dw_model.specs.declared.answers.Answer.TheVariants as answers
use Rattle.dw_model.specs.Refusals.{number_of}
use Rattle.dw_journal.specs.declared.Event.{Event}
use Rattle.dw_journal.specs.declared.Event.TheVariants as events
use Rattle.dw_read_report.specs.declared.read_events.Kind.{Kind}
use Rattle.dw_read_report.specs.declared.read_events.Kind.TheVariants as kinds
use Rattle.dw_read_report.specs.declared.read_events.Head.{Head}
use Rattle.dw_read_report.specs.declared.read_events.Head.TheVariants as heads
use Rattle.dw_print.specs.Fields.{field, numbers_text, refusal_text}
use Rattle.dw_print.specs.Rows.{fields_line, names_line}
use Rattle.dw_print.specs.Answers.{answer_text, word_text}
use Rattle.dw_print.specs.Events.{event_lines, journal_lines, object_text, route_text}
use Rattle.dw_print.specs.Typed.{IsTypedField}
use Rattle.dw_read_report.specs.Readable.{AreReadable, IsWithinLimits}
use Rattle.dw_read_report.proofs.Fits.{FitsEvent, events_readable}
use Rattle.dw_read_report.specs.Reading.{names_at, row_at}
use Rattle.dw_read_report.specs.EventReading.{head_at}
use Rattle.dw_read_report.specs.ReportReading.{GivesReport, IsPrintedIn, IsReadOf, all_events_at, journal_at, shape_at, ends_journal, event_after, event_at, events_at, lined, on_ok, or_left, rows_at, with_items}
use Rattle.dw_read_report.proofs.Taking.{chosen}
use Rattle.dw_read_report.proofs.TakenParts.{place_text, takes_names, takes_row, takes_shape}
use Rattle.dw_read_report.proofs.TakenEvents.{IsHead, head_taken, head_text, kind_of, kind_text, tail_text}

-- the parts of a line after its number and kind, grouped
one_part : (n k s c q a : List ℕ) → n ++ k ++ s ++ c ++ q ++ a ≡ n ++ k ++ (s ++ (c ++ q) ++ a)
one_part n k s c q a = simp append_assoc

two_parts : (n k s c q a b : List ℕ) → n ++ k ++ s ++ c ++ q ++ a ++ b ≡ n ++ k ++ (s ++ (c ++ q) ++ a ++ b)
two_parts n k s c q a b = simp append_assoc

three_parts : (n k s c q a b d : List ℕ) → n ++ k ++ s ++ c ++ q ++ a ++ b ++ d ≡ n ++ k ++ (s ++ (c ++ q) ++ a ++ b ++ d)
three_parts n k s c q a b d = simp append_assoc

five_parts : (n k s c q a b d e f : List ℕ) → n ++ k ++ s ++ c ++ q ++ a ++ b ++ d ++ e ++ f ≡ n ++ k ++ (s ++ (c ++ q) ++ a ++ b ++ d ++ e ++ f)
five_parts n k s c q a b d e f = simp append_assoc

seven_parts : (n k s c q a b d e f g h : List ℕ)
    → n ++ k ++ s ++ c ++ q ++ a ++ b ++ d ++ e ++ f ++ g ++ h ≡ n ++ k ++ (s ++ (c ++ q) ++ a ++ b ++ d ++ e ++ f ++ g ++ h)
seven_parts n k s c q a b d e f g h = simp append_assoc

four_after : (n k c a s b : List ℕ) → n ++ k ++ c ++ a ++ s ++ b ≡ n ++ k ++ (c ++ a ++ s ++ b)
four_after n k c a s b = simp append_assoc

two_after : (n k s b : List ℕ) → n ++ k ++ s ++ b ≡ n ++ k ++ (s ++ b)
two_after n k s b = simp append_assoc

pub event_is : (number : ℕ) (event : Event) → event_lines number event ≡ decimal number ++ kind_text (kind_of event) ++ tail_text event
event_is n (events.Begin s q) = one_part (decimal n) (codes " begin ") (decimal s) (codes " ") (decimal q) (codes "\n")
event_is n (events.Pass s q word) = three_parts (decimal n) (codes " pass ") (decimal s) (codes " ") (decimal q) (codes " ") (word_text word) (codes "\n")
event_is n (events.Wait s q holders) = three_parts (decimal n) (codes " wait ") (decimal s) (codes " ") (decimal q) (codes " for") (numbers_text holders) (codes "\n")
event_is n (events.Opened s q snapshot route) = five_parts (decimal n) (codes " open ") (decimal s) (codes " ") (decimal q) (codes " snapshot ") (decimal snapshot) (codes " ") (route_text route) (codes "\n")
event_is n (events.Answer s q answer) = two_parts (decimal n) (codes " answer ") (decimal s) (codes " ") (decimal q) (codes " ") (answer_text answer)
event_is n (events.Commit s q stamp low high) = seven_parts (decimal n) (codes " commit ") (decimal s) (codes " ") (decimal q) (codes " stamp ") (decimal stamp) (codes " low ") (decimal low) (codes " high ") (decimal high) (codes "\n")
event_is n (events.Violation s q low high object) = seven_parts (decimal n) (codes " violation ") (decimal s) (codes " ") (decimal q) (codes " low ") (decimal low) (codes " high ") (decimal high) (codes " ") (object_text object) (codes "\n")
event_is n (events.Refuse s q refusal) = five_parts (decimal n) (codes " refuse ") (decimal s) (codes " ") (decimal q) (codes " ") (decimal (number_of refusal)) (codes " ") (refusal_text refusal) (codes "\n")
event_is n (events.Rollback s q) = one_part (decimal n) (codes " rollback ") (decimal s) (codes " ") (decimal q) (codes "\n")
event_is n (events.VacuumBegin s q table) = three_parts (decimal n) (codes " vacuum ") (decimal s) (codes " ") (decimal q) (codes " begin ") (field table) (codes "\n")
event_is n (events.VacuumSlice s q slice horizon) = five_parts (decimal n) (codes " vacuum ") (decimal s) (codes " ") (decimal q) (codes " slice ") (decimal slice) (codes " horizon ") (decimal horizon) (codes "\n")
event_is n (events.VacuumEnd s q) = one_part (decimal n) (codes " vacuum ") (decimal s) (codes " ") (decimal q) (codes " end\n")
event_is n (events.Refresh cluster stamp) = four_after (decimal n) (codes " refresh ") (decimal cluster) (codes " stamp ") (decimal stamp) (codes "\n")
event_is n (events.End session) = two_after (decimal n) (codes " end ") (decimal session) (codes "\n")

ok_bind : {A B : Type 0} (read : Result A ℕ) (next : A → Result B ℕ) (y : B) → on_ok read next ≡ Ok y → (a : A) × (read ≡ Ok a) × (next a ≡ Ok y)
ok_bind (Err left) next y is = absurd (cc is)
ok_bind (Ok a) next y is = (a, refl, is)

ok_is : {A : Type 0} (x a : A) → ◌≡◌ {A = Result A ℕ} (Ok x) (Ok a) → x ≡ a
ok_is x a is = cc

line_bind : {A : Type 0} (read : Option A) (left : ℕ) (a : A) → or_left read left ≡ Ok a → read ≡ Some a
line_bind None left a is = absurd (cc is)
line_bind (Some x) left a is = ap Some (ok_is x a is)

-- a value and the rest, as they were read
settled : {A : Type 0} (P : A → List ℕ → Type 0) (x a : A) (r rest : List ℕ) → ◌≡◌ {A = Result (A × List ℕ) ℕ} (Ok (x, r)) (Ok (a, rest)) → P x r → P a rest
settled {A = A} P x a r rest is holds =
    let front : A × List ℕ = (x, r) in
    let back : A × List ℕ = (a, rest) in
    subst (λ (y : A × List ℕ). P y.0 y.1) (ok_is front back is) holds

abbrev AreRows : ℕ → List ℕ → List (List Field) → List ℕ → Type 0
AreRows count bytes rows rest =
    (bytes ≡ flat_map fields_line rows ++ rest) × AllByRecursion (AreReadable IsTypedField) rows × (length rows ≡ count)

rows_taken : (count : ℕ) (bytes rest : List ℕ) (rows : List (List Field)) → rows_at count bytes ≡ Ok (rows, rest) → AreRows count bytes rows rest
rows_taken zero bytes rest rows is = settled (AreRows 0 bytes) [] rows bytes rest is (refl, tt, refl)
rows_taken (suc count) bytes rest rows is =
    let row = ok_bind (lined row_at bytes) (λ row. with_items (row.0 ∷ []) (rows_at count row.1)) (rows, rest) is in
    let others = ok_bind (rows_at count row.0.1) (λ x. Ok (row.0.0 ∷ x.0, x.1)) (rows, rest) row.2 in
    let here = takes_row.whole bytes row.0.1 row.0.0 (line_bind (row_at bytes) (length bytes) row.0 row.1) in
    let later = rows_taken count row.0.1 others.0.1 others.0.0 others.1 in
    settled (AreRows (suc count) bytes) (row.0.0 ∷ others.0.0) rows others.0.1 rest others.2 (
      here.0 ∙ ap (λ x. fields_line row.0.0 ++ x) later.0 ∙ sym (append_assoc (fields_line row.0.0) (flat_map fields_line others.0.0) others.0.1),
      (here.1, later.1),
      ap suc later.2,
    )

abbrev IsEvent : ℕ → List ℕ → Event → List ℕ → Type 0
IsEvent number bytes event rest = (bytes ≡ event_lines number event ++ rest) × FitsEvent event

whole_is : (number : ℕ) (event : Event) (kind : Kind) (bytes rest : List ℕ) → bytes ≡ decimal number ++ kind_text kind ++ tail_text event ++ rest
    → kind_of event ≡ kind → bytes ≡ event_lines number event ++ rest
whole_is number event kind bytes rest same of =
    same ∙ ap (λ k. decimal number ++ kind_text k ++ tail_text event ++ rest) (sym of) ∙ ap (λ x. x ++ rest) (sym (event_is number event))

rows_grouped : (h p a w c d names rows rest l : List ℕ)
    → h ++ (p ++ (a ++ (w ++ c)) ++ d ++ l) ++ (names ++ (rows ++ rest)) ≡ h ++ (p ++ a ++ (w ++ c ++ d ++ l ++ names ++ rows)) ++ rest
rows_grouped h p a w c d names rows rest l = simp append_assoc

rows_regroup : (h p d names rows rest : List ℕ)
    → h ++ (p ++ codes " SELECT " ++ d ++ codes "\n") ++ (names ++ (rows ++ rest))
    ≡ h ++ (p ++ codes " " ++ (codes "SELECT" ++ codes " " ++ d ++ codes "\n" ++ names ++ rows)) ++ rest
rows_regroup h p d names rows rest = rows_grouped h p (codes " ") (codes "SELECT") (codes " ") d names rows rest (codes "\n")

event_after_taken : (number : ℕ) (head : Head) (kind : Kind) (bytes more rest : List ℕ) (event : Event)
    → bytes ≡ decimal number ++ kind_text kind ++ head_text head ++ more → IsHead kind head
    → event_after head more ≡ Ok (event, rest) → IsEvent number bytes event rest
event_after_taken number (heads.Whole made) kind bytes more rest event same fits is =
    settled (IsEvent number bytes) made event more rest is (whole_is number made kind bytes more same fits.1, fits.0)
event_after_taken number (heads.WithRows session statement count) kind bytes more rest event same fits is =
    let names = ok_bind (lined names_at more) (λ names. on_ok (rows_at count names.1) (λ rows.
    Ok (events.Answer session statement (answers.Rows words.Select names.0 rows.0), rows.1))) (event, rest) is in
    let rows = ok_bind (rows_at count names.0.1) (λ rows. Ok (events.Answer session statement (answers.Rows words.Select names.0.0 rows.0), rows.1)) (event, rest) names.2 in
    let first = takes_names.whole more names.0.1 names.0.0 (line_bind (names_at more) (length more) names.0 names.1) in
    let later = rows_taken count names.0.1 rows.0.1 rows.0.0 rows.1 in
    let made : Event = events.Answer session statement (answers.Rows words.Select names.0.0 rows.0.0) in
    settled (IsEvent number bytes) made event rows.0.1 rest rows.2 (
      whole_is number made kinds.Answer bytes rows.0.1
          (same ∙ ap (λ k. decimal number ++ kind_text k ++ head_text (heads.WithRows session statement count) ++ more) (sym fits.1)
          ∙ ap (λ x. decimal number ++ kind_text kinds.Answer ++ head_text (heads.WithRows session statement count) ++ x)
          (first.0 ∙ ap (λ x. names_line names.0.0 ++ x) later.0)
          ∙ ap (λ x. decimal number ++ kind_text kinds.Answer ++ head_text (heads.WithRows session statement x) ++ (names_line names.0.0 ++ (flat_map fields_line rows.0.0 ++ rows.0.1))) (sym later.2)
          ∙ rows_regroup (decimal number ++ kind_text kinds.Answer) (place_text (session, statement)) (decimal (length rows.0.0)) (names_line names.0.0) (flat_map fields_line rows.0.0) rows.0.1)
          refl,
      (fits.0.0, fits.0.1, (refl, subst (λ x. x ≤ 18446744073709551615) (sym later.2) fits.0.2, first.1, later.1)),
    )

pub event_taken : (number : ℕ) (bytes rest : List ℕ) (event : Event) → event_at number bytes ≡ Ok (event, rest) → IsEvent number bytes event rest
unfolding event_at
event_taken number bytes rest event is =
    let head = ok_bind (lined (head_at number) bytes) (λ head. event_after head.0 head.1) (event, rest) is in
    let here = head_taken number bytes head.0.1 head.0.0 (line_bind (head_at number bytes) (length bytes) head.0 head.1) in
    event_after_taken number head.0.0 here.0 bytes head.0.1 rest event here.1 here.2 head.2

abbrev AreEvents : ℕ → List ℕ → List Event → List ℕ → Type 0
AreEvents number bytes events rest = (bytes ≡ journal_lines number events ++ rest) × AllByRecursion FitsEvent events

events_taken : (most number : ℕ) (bytes rest : List ℕ) (events : List Event) → events_at most number bytes ≡ Ok (events, rest)
    → AreEvents number bytes events rest
events_taken zero number bytes rest events is = settled (AreEvents number bytes) [] events bytes rest is (refl, tt)
events_taken (suc most) number bytes rest events is =
    elim (chosen (ends_journal bytes) (Ok ([], bytes))
    (on_ok (event_at number bytes) (λ event. with_items (event.0 ∷ []) (events_at most (number + 1) event.1))) (Ok (events, rest)) is) [
      | inl a ↦ settled (AreEvents number bytes) [] events bytes rest a.1 (refl, tt)
      | inr a ↦
          let event = ok_bind (event_at number bytes) (λ event. with_items (event.0 ∷ []) (events_at most (number + 1) event.1)) (events, rest) a.1 in
          let others = ok_bind (events_at most (number + 1) event.0.1) (λ x. Ok (event.0.0 ∷ x.0, x.1)) (events, rest) event.2 in
          let here = event_taken number bytes event.0.1 event.0.0 event.1 in
          let later = events_taken most (number + 1) event.0.1 others.0.1 others.0.0 others.1 in
          settled (AreEvents number bytes) (event.0.0 ∷ others.0.0) events others.0.1 rest others.2 (
            here.0 ∙ ap (λ x. event_lines number event.0.0 ++ x) later.0
                ∙ sym (append_assoc (event_lines number event.0.0) (journal_lines (number + 1) others.0.0) others.0.1),
            (here.1, later.1),
          )
    ]

all_events_taken : (bytes rest : List ℕ) (events : List Event) → all_events_at bytes ≡ Ok (events, rest) → AreEvents 1 bytes events rest
unfolding all_events_at
all_events_taken bytes rest events is = events_taken (length bytes) 1 bytes rest events is

abbrev IsJournal : List ℕ → Journal → List ℕ → Type 0
IsJournal bytes journal rest =
    (bytes ≡ header journal.shape ++ journal_lines 1 journal.events ++ rest) × IsWithinLimits journal.shape
    × AllByRecursion FitsEvent journal.events

pub journal_taken : (bytes rest : List ℕ) (journal : Journal) → journal_at bytes ≡ Ok (journal, rest) → IsJournal bytes journal rest
unfolding journal_at
journal_taken bytes rest journal is =
    let shape = ok_bind (lined shape_at bytes) (λ shape. on_ok (all_events_at shape.1) (λ events.
    Ok (record { shape = shape.0; events = events.0 }, events.1))) (journal, rest) is in
    let events = ok_bind (all_events_at shape.0.1) (λ events. Ok (record { shape = shape.0.0; events = events.0 }, events.1)) (journal, rest) shape.2 in
    let made : Journal = record { shape = shape.0.0; events = events.0.0 } in
    let here = takes_shape.whole bytes shape.0.1 shape.0.0 (line_bind (shape_at bytes) (length bytes) shape.0 shape.1) in
    let later = all_events_taken shape.0.1 events.0.1 events.0.0 events.1 in
    settled (IsJournal bytes) made journal events.0.1 rest events.2 (
      here.0 ∙ ap (λ x. header shape.0.0 ++ x) later.0 ∙ sym (append_assoc (header shape.0.0) (journal_lines 1 events.0.0) events.0.1),
      here.1,
      later.1,
    )

drop_front : (front rest : List ℕ) → drop (length front) (front ++ rest) ≡ rest
drop_front [] rest = refl
drop_front (byte ∷ front) rest = drop_front front rest

front_length : (front rest : List ℕ) → length (front ++ rest) - length rest ≡ length front
front_length front rest = omega (arith, length-append front rest)

rest_is : (front rest : List ℕ) → drop (length (front ++ rest) - length rest) (front ++ rest) ≡ rest
rest_is front rest = ap (λ n. drop n (front ++ rest)) (front_length front rest) ∙ drop_front front rest

pub journal_found : (bytes : List ℕ) (read : ReadReport) (x : Journal × List ℕ) → journal_at bytes ≡ Ok x → IsReadOf bytes read x
    → IsPrintedIn bytes read
journal_found bytes read x is of =
    let here = journal_taken bytes x.1 x.0 is in
    let front : List ℕ = header x.0.shape ++ journal_lines 1 x.0.events in
    let place : read.place ≡ length (front ++ x.1) - length x.1 = of.1 ∙ ap (λ b. length b - length x.1) here.0 in
    let rest : drop read.place bytes ≡ x.1 =
    ap (λ n. drop n bytes) place ∙ ap (λ b. drop (length (front ++ x.1) - length x.1) b) here.0 ∙ rest_is front x.1 in (
      subst (λ (j : Journal). bytes ≡ header j.shape ++ journal_lines 1 j.events ++ drop read.place bytes) of.0
          (here.0 ∙ ap (λ r. header x.0.shape ++ journal_lines 1 x.0.events ++ r) (sym rest)),
      subst (λ (j : Journal). IsWithinLimits j.shape) of.0 here.1,
      events_readable read.journal.events (subst (λ (j : Journal). AllByRecursion FitsEvent j.events) of.0 here.2),
    )

pub report_found : (bytes : List ℕ) (result : Result ReadReport ReportFault) → GivesReport result bytes (journal_at bytes)
    → IfOk result (λ read. IsPrintedIn bytes read)
report_found bytes (Ok read) gives = journal_found bytes read gives.0 gives.1 gives.2
report_found bytes (Err fault) gives = tt
