-- The lines of events: what is read stands there as it is printed.
use Rattle.std.proofs.Common.{◌≡◌, ℕ, List, [], ◌∷◌, ◌++◌, Bool, true, false, Option, Some, None, decimal, codes, refl, sym, ◌∙◌, ap, append_assoc, arith, cond, inl, inr}
use Rattle.std.specs.Str.{IsUtf8, is_utf8}
use Rattle.std.specs.Fmt.{digits}
use Rattle.std.proofs.lemmas.Str.{IsUtf8-from_is_utf8}
use Rattle.std.proofs.lemmas.Grind.{flat_map-append}
use Rattle.dw_model.specs.declared.answers.Word.{Word}
use Rattle.dw_model.specs.declared.answers.Word.TheVariants as words
use Rattle.dw_model.specs.declared.answers.Answer.TheVariants as answers
use Rattle.dw_model.specs.declared.objects.Object.{Object}
use Rattle.dw_model.specs.declared.refusals.Refusal.{Refusal}
use Rattle.dw_model.specs.declared.refusals.Refusal.TheVariants as refusals
use Rattle.dw_model.specs.Refusals.{number_of}
use Rattle.dw_journal.specs.declared.Event.{Event}
use Rattle.dw_journal.specs.declared.Event.TheVariants as events
use Rattle.dw_journal.specs.declared.Route.{Route}
use Rattle.dw_journal.specs.declared.Route.TheVariants.{Main, Cluster}
use Rattle.dw_read_report.specs.declared.read_refusals.Reason.{Reason}
use Rattle.dw_read_report.specs.declared.read_refusals.Reason.TheVariants as reasons
use Rattle.dw_read_report.specs.declared.read_events.Kind.{Kind}
use Rattle.dw_read_report.specs.declared.read_events.Kind.TheVariants as kinds
use Rattle.dw_read_report.specs.declared.read_events.Step.{Step}
use Rattle.dw_read_report.specs.declared.read_events.Step.TheVariants as steps
use Rattle.dw_read_report.specs.declared.read_events.Head.{Head}
use Rattle.dw_read_report.specs.declared.read_events.Head.TheVariants as heads
use Rattle.dw_print.specs.Fields.{escape, field, numbers_text, refusal_text}
use Rattle.dw_print.specs.Answers.{answer_text, word_text}
use Rattle.dw_print.specs.Events.{object_text, route_text}
use Rattle.dw_print.specs.Typed.{IsLong, IsShort, IsTypedObject, IsTypedRefusal, IsTypedRoute}
use Rattle.dw_read_report.specs.Readable.{IsPassWord}
use Rattle.dw_read_report.proofs.Fits.{FitsEvent}
use Rattle.dw_read_report.specs.Reading.{Reading, ◌>>=◌, after, after_label, before, both, field_at, long_number, meaning, number_at, short_number, statement_at, text_at}
use Rattle.dw_read_report.specs.EventReading.{answer_after, answer_at, answer_word_at, begin_at, closed_text_at, commit_at, end_at, head_after, head_at, kind_at, nothing, object_at, object_of, open_at, pass_at, pass_word_at, rarer_kind_at, rarer_reason_at, reason_at, refresh_at, refusal_after, refusal_at, refuse_at, rollback_at, route_at, step_at, vacuum_after, vacuum_at, violation_at, wait_at, without_parenthesis}
use Rattle.std.specs.Option.{option_map}
use Rattle.std.proofs.lemmas.Bool.Decides.{eqb_tells}
use Rattle.dw_read_report.proofs.Taking.{Takes, moved, label_is_taken, bind_some, some_is, chosen, takes_after, takes_before, takes_both, takes_meaning, takes_otherwise, takes_word}
use Rattle.dw_read_report.proofs.TakenParts.{field_is_taken, place_text, takes_long, takes_number, takes_sessions, takes_short, takes_statement, takes_text}

-- how the kinds are printed
abbrev pub kind_text : Kind → List ℕ
kind_text kinds.Begin = codes " begin "
kind_text kinds.Pass = codes " pass "
kind_text kinds.Wait = codes " wait "
kind_text kinds.Open = codes " open "
kind_text kinds.Answer = codes " answer "
kind_text kinds.Commit = codes " commit "
kind_text kinds.Violation = codes " violation "
kind_text kinds.Refuse = codes " refuse "
kind_text kinds.Rollback = codes " rollback "
kind_text kinds.Vacuum = codes " vacuum "
kind_text kinds.Refresh = codes " refresh "
kind_text kinds.End = codes " end "

-- the kind of an event, and what is printed of it after its kind
abbrev pub kind_of : Event → Kind
kind_of (events.Begin session statement) = kinds.Begin
kind_of (events.Pass session statement word) = kinds.Pass
kind_of (events.Wait session statement holders) = kinds.Wait
kind_of (events.Opened session statement snapshot route) = kinds.Open
kind_of (events.Answer session statement answer) = kinds.Answer
kind_of (events.Commit session statement stamp low high) = kinds.Commit
kind_of (events.Violation session statement low high object) = kinds.Violation
kind_of (events.Refuse session statement refusal) = kinds.Refuse
kind_of (events.Rollback session statement) = kinds.Rollback
kind_of (events.VacuumBegin session statement table) = kinds.Vacuum
kind_of (events.VacuumSlice session statement slice horizon) = kinds.Vacuum
kind_of (events.VacuumEnd session statement) = kinds.Vacuum
kind_of (events.Refresh cluster stamp) = kinds.Refresh
kind_of (events.End session) = kinds.End

abbrev pub tail_text : Event → List ℕ
tail_text (events.Begin session statement) = place_text (session, statement) ++ codes "\n"
tail_text (events.Pass session statement word) = place_text (session, statement) ++ codes " " ++ word_text word ++ codes "\n"
tail_text (events.Wait session statement holders) =
    place_text (session, statement) ++ codes " for" ++ numbers_text holders ++ codes "\n"
tail_text (events.Opened session statement snapshot route) =
    place_text (session, statement) ++ codes " snapshot " ++ decimal snapshot ++ codes " " ++ route_text route ++ codes "\n"
tail_text (events.Answer session statement answer) = place_text (session, statement) ++ codes " " ++ answer_text answer
tail_text (events.Commit session statement stamp low high) =
    place_text (session, statement) ++ codes " stamp " ++ decimal stamp ++ codes " low " ++ decimal low ++ codes " high " ++ decimal high
    ++ codes "\n"
tail_text (events.Violation session statement low high object) =
    place_text (session, statement) ++ codes " low " ++ decimal low ++ codes " high " ++ decimal high ++ codes " " ++ object_text object
    ++ codes "\n"
tail_text (events.Refuse session statement refusal) =
    place_text (session, statement) ++ codes " " ++ decimal (number_of refusal) ++ codes " " ++ refusal_text refusal ++ codes "\n"
tail_text (events.Rollback session statement) = place_text (session, statement) ++ codes "\n"
tail_text (events.VacuumBegin session statement table) = place_text (session, statement) ++ codes " begin " ++ field table ++ codes "\n"
tail_text (events.VacuumSlice session statement slice horizon) =
    place_text (session, statement) ++ codes " slice " ++ decimal slice ++ codes " horizon " ++ decimal horizon ++ codes "\n"
tail_text (events.VacuumEnd session statement) = place_text (session, statement) ++ codes " end\n"
tail_text (events.Refresh cluster stamp) = decimal cluster ++ codes " stamp " ++ decimal stamp ++ codes "\n"
tail_text (events.End session) = decimal session ++ codes "\n"

abbrev pub IsOfKind : Kind → Event → Type 0
IsOfKind kind event = FitsEvent event × (kind_of event ≡ kind)

abbrev AreShort : ℕ × ℕ → Type 0
AreShort x = IsShort x.0 × IsShort x.1

-- two and three parts after what comes first, each after a label
pub two_more : (s a x b y c : List ℕ) → s ++ a ++ x ++ b ++ y ++ c ≡ ((s ++ (a ++ x)) ++ (b ++ y)) ++ c
two_more s a x b y c = simp append_assoc

pub three_more : (s a x b y c z d : List ℕ) → s ++ a ++ x ++ b ++ y ++ c ++ z ++ d ≡ (((s ++ (a ++ x)) ++ (b ++ y)) ++ (c ++ z)) ++ d
three_more s a x b y c z d = simp append_assoc

takes_begin : Takes tail_text (IsOfKind kinds.Begin) begin_at
unfolding begin_at
takes_begin =
    takes_meaning (λ (s : ℕ × ℕ). events.Begin s.0 s.1) tail_text (IsOfKind kinds.Begin) (λ s. refl) (λ s fits. (fits, refl))
    (takes_before (codes "\n") takes_statement)

takes_rollback : Takes tail_text (IsOfKind kinds.Rollback) rollback_at
unfolding rollback_at
takes_rollback =
    takes_meaning (λ (s : ℕ × ℕ). events.Rollback s.0 s.1) tail_text (IsOfKind kinds.Rollback) (λ s. refl) (λ s fits. (fits, refl))
    (takes_before (codes "\n") takes_statement)

takes_pass_word : Takes word_text IsPassWord pass_word_at
unfolding pass_word_at
takes_pass_word =
    takes_otherwise (takes_word (codes "BEGIN") words.Begin word_text IsPassWord refl tt)
    (takes_otherwise (takes_word (codes "COMMIT") words.Commit word_text IsPassWord refl tt)
    (takes_word (codes "ROLLBACK") words.Rollback word_text IsPassWord refl tt))

takes_pass : Takes tail_text (IsOfKind kinds.Pass) pass_at
unfolding pass_at
takes_pass =
    takes_meaning (λ (x : (ℕ × ℕ) × Word). events.Pass x.0.0 x.0.1 x.1) tail_text (IsOfKind kinds.Pass) (λ x. simp append_assoc)
    (λ x fits. ((fits.0.0, fits.0.1, fits.1), refl))
    (takes_before (codes "\n") (takes_both takes_statement (takes_after (codes " ") takes_pass_word)))

takes_wait : Takes tail_text (IsOfKind kinds.Wait) wait_at
unfolding wait_at
takes_wait =
    takes_meaning (λ (x : (ℕ × ℕ) × List ℕ). events.Wait x.0.0 x.0.1 x.1) tail_text (IsOfKind kinds.Wait) (λ x. simp append_assoc)
    (λ x fits. ((fits.0.0, fits.0.1, fits.1), refl))
    (takes_before (codes "\n") (takes_both takes_statement (takes_after (codes " for") takes_sessions)))

takes_route : Takes route_text IsTypedRoute route_at
unfolding route_at
takes_route =
    takes_otherwise (takes_word (codes "main") Main route_text IsTypedRoute refl tt)
    (takes_meaning Cluster route_text IsTypedRoute (λ cluster. refl) (λ cluster fits. fits) (takes_after (codes "cluster ") takes_short))

takes_open : Takes tail_text (IsOfKind kinds.Open) open_at
unfolding open_at
takes_open =
    takes_meaning (λ (x : ((ℕ × ℕ) × ℕ) × Route). events.Opened x.0.0.0 x.0.0.1 x.0.1 x.1) tail_text (IsOfKind kinds.Open) (λ x. two_more (place_text x.0.0) (codes " snapshot ") (decimal x.0.1) (codes " ") (route_text x.1) (codes "\n"))
    (λ x fits. ((fits.0.0.0, fits.0.0.1, fits.0.1, fits.1), refl))
    (takes_before (codes "\n") (takes_both (takes_both takes_statement (takes_after (codes " snapshot ") takes_long)) (takes_after (codes " ") takes_route)))

takes_commit : Takes tail_text (IsOfKind kinds.Commit) commit_at
unfolding commit_at
takes_commit =
    takes_meaning (λ (x : (((ℕ × ℕ) × ℕ) × ℕ) × ℕ). events.Commit x.0.0.0.0 x.0.0.0.1 x.0.0.1 x.0.1 x.1) tail_text (IsOfKind kinds.Commit)
    (λ x. three_more (place_text x.0.0.0) (codes " stamp ") (decimal x.0.0.1) (codes " low ") (decimal x.0.1) (codes " high ") (decimal x.1) (codes "\n")) (λ x fits. ((fits.0.0.0.0, fits.0.0.0.1, fits.0.0.1, fits.0.1, fits.1), refl))
    (takes_before (codes "\n") (takes_both (takes_both (takes_both takes_statement (takes_after (codes " stamp ") takes_long))
    (takes_after (codes " low ") takes_long)) (takes_after (codes " high ") takes_long)))

takes_refresh : Takes tail_text (IsOfKind kinds.Refresh) refresh_at
unfolding refresh_at
takes_refresh =
    takes_meaning (λ (x : ℕ × ℕ). events.Refresh x.0 x.1) tail_text (IsOfKind kinds.Refresh) (λ x. simp append_assoc) (λ x fits. (fits, refl))
    (takes_before (codes "\n") (takes_both takes_short (takes_after (codes " stamp ") takes_long)))

pub takes_end : Takes tail_text (IsOfKind kinds.End) end_at
unfolding end_at
takes_end =
    takes_meaning events.End tail_text (IsOfKind kinds.End) (λ x. refl) (λ x fits. (fits, refl)) (takes_before (codes "\n") takes_short)

-- objects
after_byte : (byte : ℕ) (text name : List ℕ) (found : Option (List ℕ)) → option_map (λ rest. byte ∷ rest) found ≡ Some name
    → ((rest : List ℕ) → found ≡ Some rest → text ≡ rest ++ 41 ∷ []) → byte ∷ text ≡ name ++ 41 ∷ []
after_byte byte text name None is shorter = absurd (cc is)
after_byte byte text name (Some rest) is shorter = rw (← some_is (byte ∷ rest) name is) (ap (λ more. byte ∷ more) (shorter rest refl))

parenthesis_taken : (text name : List ℕ) → without_parenthesis text ≡ Some name → text ≡ name ++ 41 ∷ []
parenthesis_taken [] name is = absurd (cc is)
parenthesis_taken (byte ∷ []) name is =
    elim (eqb_tells byte 41) [
      | inl a ↦ rw (← some_is [] name (rw a.0 at is), a.1) refl
      | inr a ↦ absurd (cc (rw a.0 at is))
    ]
parenthesis_taken (byte ∷ next ∷ text) name is = after_byte byte (next ∷ text) name (without_parenthesis (next ∷ text)) is (parenthesis_taken (next ∷ text))

takes_closed_text : Takes (λ name. field name ++ codes ")") IsUtf8 closed_text_at
unfolding closed_text_at
takes_closed_text = record {
  whole = λ bytes rest name is.
      let a = bind_some (field_at bytes) (λ text. without_parenthesis text.0 >>= λ t. cond (is_utf8 t) (Some (t, text.1)) None) (name, rest) is in
      let b = bind_some (without_parenthesis a.0.0) (λ t. cond (is_utf8 t) (Some (t, a.0.1)) None) (name, rest) a.2 in
      elim (chosen (is_utf8 b.0) (Some (b.0, a.0.1)) None (Some (name, rest)) b.2) [
        | inl c ↦
            moved (λ name. field name ++ codes ")") IsUtf8 bytes a.0.1 rest b.0 name c.1
            (field_is_taken bytes a.0.1 a.0.0 a.1 ∙ ap (λ text. field text ++ a.0.1) (parenthesis_taken a.0.0 b.0 b.1)
            ∙ ap (λ text. text ++ a.0.1) (flat_map-append escape b.0 (41 ∷ [])))
            (IsUtf8-from_is_utf8 b.0 c.0)
        | inr c ↦ absurd (cc c.1)
      ];
}

-- whether an object is of rows, as it is printed
abbrev pub form_text : Bool → List ℕ
form_text rows = cond rows (codes "rows(") (codes "def(")

pub same_object_text : (x : Bool × List ℕ) → object_text (object_of x) ≡ form_text x.0 ++ (field x.1 ++ codes ")")
same_object_text x = by_form x.0 x.1
  where
    by_form : (rows : Bool) (name : List ℕ) → object_text (object_of (rows, name)) ≡ form_text rows ++ (field name ++ codes ")")
    by_form true name = refl
    by_form false name = refl

readable_object : (rows : Bool) (name : List ℕ) → IsUtf8 name → IsTypedObject (object_of (rows, name))
readable_object true name utf8 = utf8
readable_object false name utf8 = utf8

takes_object : Takes object_text IsTypedObject object_at
unfolding object_at
takes_object =
    takes_meaning object_of object_text IsTypedObject same_object_text (λ x fits. readable_object x.0 x.1 fits.1)
    (takes_both (takes_otherwise (takes_word (codes "rows(") true form_text (λ rows. Unit {0}) refl tt)
    (takes_word (codes "def(") false form_text (λ rows. Unit {0}) refl tt)) takes_closed_text)

takes_violation : Takes tail_text (IsOfKind kinds.Violation) violation_at
unfolding violation_at
takes_violation =
    takes_meaning (λ (x : (((ℕ × ℕ) × ℕ) × ℕ) × Object). events.Violation x.0.0.0.0 x.0.0.0.1 x.0.0.1 x.0.1 x.1) tail_text (IsOfKind kinds.Violation)
    (λ x. three_more (place_text x.0.0.0) (codes " low ") (decimal x.0.0.1) (codes " high ") (decimal x.0.1) (codes " ") (object_text x.1) (codes "\n"))
    (λ x fits. ((fits.0.0.0.0, fits.0.0.0.1, fits.0.0.1, fits.0.1, fits.1), refl))
    (takes_before (codes "\n") (takes_both (takes_both (takes_both takes_statement (takes_after (codes " low ") takes_long))
    (takes_after (codes " high ") takes_long)) (takes_after (codes " ") takes_object)))

-- vacuums
abbrev pub step_text : Step → List ℕ
step_text steps.Begin = codes " begin "
step_text steps.Slice = codes " slice "
step_text steps.End = codes " end"

pub takes_step : Takes step_text (λ step. Unit {0}) step_at
unfolding step_at
takes_step =
    takes_otherwise (takes_word (codes " begin ") steps.Begin step_text (λ step. Unit {0}) refl tt)
    (takes_otherwise (takes_word (codes " slice ") steps.Slice step_text (λ step. Unit {0}) refl tt)
    (takes_word (codes " end") steps.End step_text (λ step. Unit {0}) refl tt))

pub one_more : (s a x b : List ℕ) → s ++ a ++ x ++ b ≡ s ++ (a ++ (x ++ b))
one_more s a x b = simp append_assoc

pub slice_more : (s a x b y c : List ℕ) → s ++ a ++ x ++ b ++ y ++ c ≡ s ++ (a ++ ((x ++ (b ++ y)) ++ c))
slice_more s a x b y c = simp append_assoc

regroup : (place label tail more : List ℕ) → place ++ (label ++ (tail ++ more)) ≡ (place ++ (label ++ tail)) ++ more
regroup place label tail more = simp append_assoc

-- the tail of an event that was read after a place and a label
after_place : (place label bytes more rest tail : List ℕ) (read event : Event) → ◌≡◌ {A = Option (Event × List ℕ)} (Some (read, more)) (Some (event, rest))
    → tail_text read ≡ place ++ (label ++ tail) → bytes ≡ tail ++ more → IsOfKind kinds.Vacuum read
    → (place ++ (label ++ bytes) ≡ tail_text event ++ rest) × IsOfKind kinds.Vacuum event
after_place place label bytes more rest tail read event is same here fits =
    moved tail_text (IsOfKind kinds.Vacuum) (place ++ (label ++ bytes)) more rest read event is
    (ap (λ x. place ++ (label ++ x)) here ∙ regroup place label tail more ∙ ap (λ x. x ++ more) (sym same)) fits

-- the rest of a vacuum's line, after its session and statement
abbrev StepTaken : Step → ℕ → ℕ → Event → List ℕ → List ℕ → Type 0
StepTaken step session statement event bytes rest =
    (place_text (session, statement) ++ (step_text step ++ bytes) ≡ tail_text event ++ rest) × IsOfKind kinds.Vacuum event

step_taken : (step : Step) (session statement : ℕ) → IsShort session → IsShort statement → (bytes rest : List ℕ) (event : Event)
    → vacuum_after step session statement bytes ≡ Some (event, rest) → StepTaken step session statement event bytes rest
step_taken steps.Begin session statement a b bytes rest event is =
    let x = bind_some (before text_at (codes "\n") bytes) (λ y. Some (events.VacuumBegin session statement y.0, y.1)) (event, rest) is in
    let here = (takes_before (codes "\n") takes_text).whole bytes x.0.1 x.0.0 x.1 in
    after_place (place_text (session, statement)) (codes " begin ") bytes x.0.1 rest (field x.0.0 ++ codes "\n") (events.VacuumBegin session statement x.0.0) event x.2
    (one_more (place_text (session, statement)) (codes " begin ") (field x.0.0) (codes "\n")) here.0 ((a, b, here.1), refl)
step_taken steps.Slice session statement a b bytes rest event is =
    let x = bind_some (before (both short_number (after (codes " horizon ") long_number)) (codes "\n") bytes) (λ y. Some (events.VacuumSlice session statement y.0.0 y.0.1, y.1)) (event, rest) is in
    let here = (takes_before (codes "\n") (takes_both takes_short (takes_after (codes " horizon ") takes_long))).whole bytes x.0.1 x.0.0 x.1 in
    after_place (place_text (session, statement)) (codes " slice ") bytes x.0.1 rest ((decimal x.0.0.0 ++ (codes " horizon " ++ decimal x.0.0.1)) ++ codes "\n") (events.VacuumSlice session statement x.0.0.0 x.0.0.1) event x.2
    (slice_more (place_text (session, statement)) (codes " slice ") (decimal x.0.0.0) (codes " horizon ") (decimal x.0.0.1) (codes "\n")) here.0 ((a, b, here.1.0, here.1.1), refl)
step_taken steps.End session statement a b bytes rest event is =
    let x = bind_some (after_label (codes "\n") bytes) (λ more. Some (events.VacuumEnd session statement, more)) (event, rest) is in
    after_place (place_text (session, statement)) (codes " end") bytes x.0 rest (codes "\n") (events.VacuumEnd session statement) event x.2
    refl (label_is_taken (codes "\n") bytes x.0 x.1) ((a, b), refl)

pub takes_vacuum : Takes tail_text (IsOfKind kinds.Vacuum) vacuum_at
unfolding vacuum_at
takes_vacuum = record {
  whole = λ bytes rest event is.
      let x = bind_some (both statement_at step_at bytes) (λ x. vacuum_after x.0.1 x.0.0.0 x.0.0.1 x.1) (event, rest) is in
      let here = (takes_both takes_statement takes_step).whole bytes x.0.1 x.0.0 x.1 in
      let there = step_taken x.0.0.1 x.0.0.0.0 x.0.0.0.1 here.1.0.0 here.1.0.1 x.0.1 rest event x.2 in
      (here.0 ∙ append_assoc (place_text x.0.0.0) (step_text x.0.0.1) x.0.1 ∙ there.0, there.1);
}

-- refusals: the number and the first word, and the rest
abbrev pub reason_text : Reason → List ℕ
reason_text reasons.Syntax = codes "1 syntax "
reason_text reasons.Unknown = codes "2 unknown "
reason_text reasons.Exists = codes "3 exists "
reason_text reasons.Clash = codes "4 clash"
reason_text reasons.Range = codes "5 range"
reason_text reasons.NullIn = codes "7 null "
reason_text reasons.Deadlock = codes "10 deadlock"
reason_text reasons.Aborted = codes "11 aborted"
reason_text reasons.InBlock = codes "12 block"
reason_text reasons.Vacuuming = codes "13 vacuum "
reason_text reasons.Limit = codes "14 limit rows "
reason_text reasons.Memory = codes "16 memory"

abbrev IsAny : Reason → Type 0
IsAny reason = Unit {0}

takes_rarer_reason : Takes reason_text IsAny rarer_reason_at
unfolding rarer_reason_at
takes_rarer_reason =
    takes_otherwise (takes_word (codes "11 aborted") reasons.Aborted reason_text IsAny refl tt)
    (takes_otherwise (takes_word (codes "12 block") reasons.InBlock reason_text IsAny refl tt)
    (takes_otherwise (takes_word (codes "13 vacuum ") reasons.Vacuuming reason_text IsAny refl tt)
    (takes_otherwise (takes_word (codes "14 limit rows ") reasons.Limit reason_text IsAny refl tt)
    (takes_word (codes "16 memory") reasons.Memory reason_text IsAny refl tt))))

pub takes_reason : Takes reason_text IsAny reason_at
unfolding reason_at
takes_reason =
    takes_otherwise (takes_word (codes "1 syntax ") reasons.Syntax reason_text IsAny refl tt)
    (takes_otherwise (takes_word (codes "2 unknown ") reasons.Unknown reason_text IsAny refl tt)
    (takes_otherwise (takes_word (codes "3 exists ") reasons.Exists reason_text IsAny refl tt)
    (takes_otherwise (takes_word (codes "4 clash") reasons.Clash reason_text IsAny refl tt)
    (takes_otherwise (takes_word (codes "5 range") reasons.Range reason_text IsAny refl tt)
    (takes_otherwise (takes_word (codes "7 null ") reasons.NullIn reason_text IsAny refl tt)
    (takes_otherwise (takes_word (codes "10 deadlock") reasons.Deadlock reason_text IsAny refl tt) takes_rarer_reason))))))

-- a refusal's number and text
abbrev pub refused_text : Refusal → List ℕ
refused_text refusal = decimal (number_of refusal) ++ codes " " ++ refusal_text refusal

-- what a refusal says after the first word of its text
abbrev pub rest_text : Refusal → List ℕ
rest_text (refusals.Syntax place) = decimal place
rest_text (refusals.Unknown name) = field name
rest_text (refusals.Exists name) = field name
rest_text (refusals.NullIn column) = field column
rest_text (refusals.Deadlock cycle) = numbers_text cycle
rest_text (refusals.Vacuuming session) = decimal session
rest_text (refusals.Limit count) = decimal count
rest_text refusal = []

abbrev pub reason_of : Refusal → Reason
reason_of (refusals.Syntax place) = reasons.Syntax
reason_of (refusals.Unknown name) = reasons.Unknown
reason_of (refusals.Exists name) = reasons.Exists
reason_of refusals.Clash = reasons.Clash
reason_of refusals.Range = reasons.Range
reason_of (refusals.NullIn column) = reasons.NullIn
reason_of (refusals.Deadlock cycle) = reasons.Deadlock
reason_of refusals.Aborted = reasons.Aborted
reason_of refusals.InBlock = reasons.InBlock
reason_of (refusals.Vacuuming session) = reasons.Vacuuming
reason_of (refusals.Limit count) = reasons.Limit
reason_of refusals.Memory = reasons.Memory

pub refused_is : (refusal : Refusal) → refused_text refusal ≡ reason_text (reason_of refusal) ++ rest_text refusal
unfolding digits
refused_is (refusals.Syntax place) = refl
refused_is (refusals.Unknown name) = refl
refused_is (refusals.Exists name) = refl
refused_is refusals.Clash = refl
refused_is refusals.Range = refl
refused_is (refusals.NullIn column) = refl
refused_is (refusals.Deadlock cycle) = refl
refused_is refusals.Aborted = refl
refused_is refusals.InBlock = refl
refused_is (refusals.Vacuuming session) = refl
refused_is (refusals.Limit count) = refl
refused_is refusals.Memory = refl

abbrev IsFor : Reason → Refusal → Type 0
IsFor reason refusal = IsTypedRefusal refusal × (reason_of refusal ≡ reason)

takes_nothing : (refusal : Refusal) → rest_text refusal ≡ [] → IsTypedRefusal refusal → Takes rest_text (IsFor (reason_of refusal)) (nothing refusal)
takes_nothing refusal none fits = record {
  whole = λ bytes rest a is. moved rest_text (IsFor (reason_of refusal)) bytes bytes rest refusal a is (rw none refl) (fits, refl);
}

takes_refusal_after : (reason : Reason) → Takes rest_text (IsFor reason) (refusal_after reason)
takes_refusal_after reasons.Syntax = takes_meaning refusals.Syntax rest_text (IsFor reasons.Syntax) (λ x. refl) (λ x fits. (fits, refl)) takes_long
takes_refusal_after reasons.Unknown = takes_meaning refusals.Unknown rest_text (IsFor reasons.Unknown) (λ x. refl) (λ x fits. (fits, refl)) takes_text
takes_refusal_after reasons.Exists = takes_meaning refusals.Exists rest_text (IsFor reasons.Exists) (λ x. refl) (λ x fits. (fits, refl)) takes_text
takes_refusal_after reasons.Clash = takes_nothing refusals.Clash refl tt
takes_refusal_after reasons.Range = takes_nothing refusals.Range refl tt
takes_refusal_after reasons.NullIn = takes_meaning refusals.NullIn rest_text (IsFor reasons.NullIn) (λ x. refl) (λ x fits. (fits, refl)) takes_text
takes_refusal_after reasons.Deadlock = takes_meaning refusals.Deadlock rest_text (IsFor reasons.Deadlock) (λ x. refl) (λ x fits. (fits, refl)) takes_sessions
takes_refusal_after reasons.Aborted = takes_nothing refusals.Aborted refl tt
takes_refusal_after reasons.InBlock = takes_nothing refusals.InBlock refl tt
takes_refusal_after reasons.Vacuuming = takes_meaning refusals.Vacuuming rest_text (IsFor reasons.Vacuuming) (λ x. refl) (λ x fits. (fits, refl)) takes_short
takes_refusal_after reasons.Limit = takes_meaning refusals.Limit rest_text (IsFor reasons.Limit) (λ x. refl) (λ x fits. (fits, refl)) takes_long
takes_refusal_after reasons.Memory = takes_nothing refusals.Memory refl tt

takes_refusal : Takes refused_text IsTypedRefusal refusal_at
unfolding refusal_at
takes_refusal = record {
  whole = λ bytes rest refusal is.
      let x = bind_some (reason_at bytes) (λ reason. refusal_after reason.0 reason.1) (refusal, rest) is in
      let here = takes_reason.whole bytes x.0.1 x.0.0 x.1 in
      let there = (takes_refusal_after x.0.0).whole x.0.1 rest refusal x.2 in (
        here.0 ∙ ap (λ y. reason_text x.0.0 ++ y) there.0 ∙ sym (append_assoc (reason_text x.0.0) (rest_text refusal) rest)
            ∙ ap (λ y. y ++ rest) (ap (λ reason. reason_text reason ++ rest_text refusal) (sym there.1.1) ∙ sym (refused_is refusal)),
        there.1.0,
      );
}

pub refusal_line : (s a n b t c : List ℕ) → s ++ a ++ n ++ b ++ t ++ c ≡ (s ++ (a ++ (n ++ b ++ t))) ++ c
refusal_line s a n b t c = simp append_assoc

takes_refuse : Takes tail_text (IsOfKind kinds.Refuse) refuse_at
unfolding refuse_at
takes_refuse =
    takes_meaning (λ (x : (ℕ × ℕ) × Refusal). events.Refuse x.0.0 x.0.1 x.1) tail_text (IsOfKind kinds.Refuse)
    (λ x. refusal_line (place_text x.0) (codes " ") (decimal (number_of x.1)) (codes " ") (refusal_text x.1) (codes "\n"))
    (λ x fits. ((fits.0.0, fits.0.1, fits.1), refl))
    (takes_before (codes "\n") (takes_both takes_statement (takes_after (codes " ") takes_refusal)))

-- the first line of an event after its kind
abbrev pub head_text : Head → List ℕ
head_text (heads.Whole event) = tail_text event
head_text (heads.WithRows session statement count) = place_text (session, statement) ++ codes " SELECT " ++ decimal count ++ codes "\n"

abbrev pub IsHead : Kind → Head → Type 0
IsHead kind (heads.Whole event) = IsOfKind kind event
IsHead kind (heads.WithRows session statement count) = (IsShort session × IsShort statement × IsLong count) × (kinds.Answer ≡ kind)

-- the words that an answer begins with
abbrev pub answer_word_text : Word → List ℕ
answer_word_text words.CreateTable = codes " CREATE TABLE"
answer_word_text words.DropTable = codes " DROP TABLE"
answer_word_text words.LockTable = codes " LOCK TABLE"
answer_word_text words.Insert = codes " INSERT "
answer_word_text words.Select = codes " SELECT "
answer_word_text word = []

abbrev pub IsAnswerWord : Word → Type 0
IsAnswerWord words.CreateTable = Unit {0}
IsAnswerWord words.DropTable = Unit {0}
IsAnswerWord words.LockTable = Unit {0}
IsAnswerWord words.Insert = Unit {0}
IsAnswerWord words.Select = Unit {0}
IsAnswerWord word = ⊥

takes_answer_word : Takes answer_word_text IsAnswerWord answer_word_at
unfolding answer_word_at
takes_answer_word =
    takes_otherwise (takes_word (codes " CREATE TABLE") words.CreateTable answer_word_text IsAnswerWord refl tt)
    (takes_otherwise (takes_word (codes " DROP TABLE") words.DropTable answer_word_text IsAnswerWord refl tt)
    (takes_otherwise (takes_word (codes " LOCK TABLE") words.LockTable answer_word_text IsAnswerWord refl tt)
    (takes_otherwise (takes_word (codes " INSERT ") words.Insert answer_word_text IsAnswerWord refl tt)
    (takes_word (codes " SELECT ") words.Select answer_word_text IsAnswerWord refl tt))))

-- the head that was read after a place and a label
after_words : (place label bytes more rest tail : List ℕ) (read head : Head) → ◌≡◌ {A = Option (Head × List ℕ)} (Some (read, more)) (Some (head, rest))
    → head_text read ≡ place ++ (label ++ tail) → bytes ≡ tail ++ more → IsHead kinds.Answer read
    → (place ++ (label ++ bytes) ≡ head_text head ++ rest) × IsHead kinds.Answer head
after_words place label bytes more rest tail read head is same here fits =
    moved head_text (IsHead kinds.Answer) (place ++ (label ++ bytes)) more rest read head is
    (ap (λ x. place ++ (label ++ x)) here ∙ regroup place label tail more ∙ ap (λ x. x ++ more) (sym same)) fits

pub insert_line : (p n c : List ℕ) → p ++ codes " " ++ (codes "INSERT" ++ codes " " ++ n ++ c) ≡ p ++ (codes " INSERT " ++ (n ++ c))
insert_line p n c = simp append_assoc

pub create_line : (p : List ℕ) → p ++ codes " " ++ (codes "CREATE TABLE" ++ codes "\n") ≡ p ++ (codes " CREATE TABLE" ++ codes "\n")
create_line p = simp append_assoc

pub drop_line : (p : List ℕ) → p ++ codes " " ++ (codes "DROP TABLE" ++ codes "\n") ≡ p ++ (codes " DROP TABLE" ++ codes "\n")
drop_line p = simp append_assoc

pub lock_line : (p : List ℕ) → p ++ codes " " ++ (codes "LOCK TABLE" ++ codes "\n") ≡ p ++ (codes " LOCK TABLE" ++ codes "\n")
lock_line p = simp append_assoc

abbrev AnswerTaken : Word → ℕ → ℕ → Head → List ℕ → List ℕ → Type 0
AnswerTaken word session statement head bytes rest =
    (place_text (session, statement) ++ (answer_word_text word ++ bytes) ≡ head_text head ++ rest) × IsHead kinds.Answer head

answer_taken : (word : Word) (session statement : ℕ) → IsAnswerWord word → IsShort session → IsShort statement → (bytes rest : List ℕ) (head : Head)
    → answer_after word session statement bytes ≡ Some (head, rest) → AnswerTaken word session statement head bytes rest
answer_taken words.Begin session statement none a b bytes rest head is = absurd none
answer_taken words.Commit session statement none a b bytes rest head is = absurd none
answer_taken words.Rollback session statement none a b bytes rest head is = absurd none
answer_taken words.CreateTable session statement fits a b bytes rest head is =
    let made : Head = heads.Whole (events.Answer session statement (answers.Plain words.CreateTable)) in
    let x = bind_some (after_label (codes "\n") bytes) (λ more. Some (made, more)) (head, rest) is in
    after_words (place_text (session, statement)) (codes " CREATE TABLE") bytes x.0 rest (codes "\n") made head x.2
    (create_line (place_text (session, statement))) (label_is_taken (codes "\n") bytes x.0 x.1) ((a, b, tt), refl)
answer_taken words.DropTable session statement fits a b bytes rest head is =
    let made : Head = heads.Whole (events.Answer session statement (answers.Plain words.DropTable)) in
    let x = bind_some (after_label (codes "\n") bytes) (λ more. Some (made, more)) (head, rest) is in
    after_words (place_text (session, statement)) (codes " DROP TABLE") bytes x.0 rest (codes "\n") made head x.2
    (drop_line (place_text (session, statement))) (label_is_taken (codes "\n") bytes x.0 x.1) ((a, b, tt), refl)
answer_taken words.LockTable session statement fits a b bytes rest head is =
    let made : Head = heads.Whole (events.Answer session statement (answers.Plain words.LockTable)) in
    let x = bind_some (after_label (codes "\n") bytes) (λ more. Some (made, more)) (head, rest) is in
    after_words (place_text (session, statement)) (codes " LOCK TABLE") bytes x.0 rest (codes "\n") made head x.2
    (lock_line (place_text (session, statement))) (label_is_taken (codes "\n") bytes x.0 x.1) ((a, b, tt), refl)
answer_taken words.Insert session statement fits a b bytes rest head is =
    let x = bind_some (before long_number (codes "\n") bytes) (λ y. Some (heads.Whole (events.Answer session statement (answers.Count words.Insert y.0)), y.1)) (head, rest) is in
    let here = (takes_before (codes "\n") takes_long).whole bytes x.0.1 x.0.0 x.1 in
    after_words (place_text (session, statement)) (codes " INSERT ") bytes x.0.1 rest (decimal x.0.0 ++ codes "\n")
    (heads.Whole (events.Answer session statement (answers.Count words.Insert x.0.0))) head x.2
    (insert_line (place_text (session, statement)) (decimal x.0.0) (codes "\n")) here.0 ((a, b, (refl, here.1)), refl)
answer_taken words.Select session statement fits a b bytes rest head is =
    let x = bind_some (before long_number (codes "\n") bytes) (λ y. Some (heads.WithRows session statement y.0, y.1)) (head, rest) is in
    let here = (takes_before (codes "\n") takes_long).whole bytes x.0.1 x.0.0 x.1 in
    after_words (place_text (session, statement)) (codes " SELECT ") bytes x.0.1 rest (decimal x.0.0 ++ codes "\n")
    (heads.WithRows session statement x.0.0) head x.2
    (one_more (place_text (session, statement)) (codes " SELECT ") (decimal x.0.0) (codes "\n")) here.0 ((a, b, here.1), refl)

takes_answer : Takes head_text (IsHead kinds.Answer) answer_at
unfolding answer_at
takes_answer = record {
  whole = λ bytes rest head is.
      let x = bind_some (both statement_at answer_word_at bytes) (λ x. answer_after x.0.1 x.0.0.0 x.0.0.1 x.1) (head, rest) is in
      let here = (takes_both takes_statement takes_answer_word).whole bytes x.0.1 x.0.0 x.1 in
      let there = answer_taken x.0.0.1 x.0.0.0.0 x.0.0.0.1 here.1.1 here.1.0.0 here.1.0.1 x.0.1 rest head x.2 in
      (here.0 ∙ append_assoc (place_text x.0.0.0) (answer_word_text x.0.0.1) x.0.1 ∙ there.0, there.1);
}

takes_whole : (kind : Kind) {read : Reading Event} → Takes tail_text (IsOfKind kind) read → Takes head_text (IsHead kind) (meaning heads.Whole read)
takes_whole kind one = takes_meaning heads.Whole head_text (IsHead kind) (λ x. refl) (λ x fits. fits) one

takes_head_after : (kind : Kind) → Takes head_text (IsHead kind) (head_after kind)
takes_head_after kinds.Begin = takes_whole kinds.Begin takes_begin
takes_head_after kinds.Pass = takes_whole kinds.Pass takes_pass
takes_head_after kinds.Wait = takes_whole kinds.Wait takes_wait
takes_head_after kinds.Open = takes_whole kinds.Open takes_open
takes_head_after kinds.Answer = takes_answer
takes_head_after kinds.Commit = takes_whole kinds.Commit takes_commit
takes_head_after kinds.Violation = takes_whole kinds.Violation takes_violation
takes_head_after kinds.Refuse = takes_whole kinds.Refuse takes_refuse
takes_head_after kinds.Rollback = takes_whole kinds.Rollback takes_rollback
takes_head_after kinds.Vacuum = takes_whole kinds.Vacuum takes_vacuum
takes_head_after kinds.Refresh = takes_whole kinds.Refresh takes_refresh
takes_head_after kinds.End = takes_whole kinds.End takes_end

abbrev IsAnyKind : Kind → Type 0
IsAnyKind kind = Unit {0}

takes_rarer_kind : Takes kind_text IsAnyKind rarer_kind_at
unfolding rarer_kind_at
takes_rarer_kind =
    takes_otherwise (takes_word (codes " violation ") kinds.Violation kind_text IsAnyKind refl tt)
    (takes_otherwise (takes_word (codes " refuse ") kinds.Refuse kind_text IsAnyKind refl tt)
    (takes_otherwise (takes_word (codes " rollback ") kinds.Rollback kind_text IsAnyKind refl tt)
    (takes_otherwise (takes_word (codes " vacuum ") kinds.Vacuum kind_text IsAnyKind refl tt)
    (takes_otherwise (takes_word (codes " refresh ") kinds.Refresh kind_text IsAnyKind refl tt)
    (takes_word (codes " end ") kinds.End kind_text IsAnyKind refl tt)))))

takes_kind : Takes kind_text IsAnyKind kind_at
unfolding kind_at
takes_kind =
    takes_otherwise (takes_word (codes " begin ") kinds.Begin kind_text IsAnyKind refl tt)
    (takes_otherwise (takes_word (codes " pass ") kinds.Pass kind_text IsAnyKind refl tt)
    (takes_otherwise (takes_word (codes " wait ") kinds.Wait kind_text IsAnyKind refl tt)
    (takes_otherwise (takes_word (codes " open ") kinds.Open kind_text IsAnyKind refl tt)
    (takes_otherwise (takes_word (codes " answer ") kinds.Answer kind_text IsAnyKind refl tt)
    (takes_otherwise (takes_word (codes " commit ") kinds.Commit kind_text IsAnyKind refl tt) takes_rarer_kind)))))

grouped : (n k t r : List ℕ) → n ++ (k ++ (t ++ r)) ≡ (n ++ k ++ t) ++ r
grouped n k t r = simp append_assoc

-- the first line of an event
abbrev pub line_text : ℕ → Kind → Head → List ℕ
line_text number kind head = decimal number ++ kind_text kind ++ head_text head

pub head_taken : (number : ℕ) (bytes rest : List ℕ) (head : Head) → head_at number bytes ≡ Some (head, rest)
    → (kind : Kind) × (bytes ≡ line_text number kind head ++ rest) × IsHead kind head
unfolding head_at
head_taken number bytes rest head is =
    let n = bind_some (number_at number number bytes) (λ n. kind_at n.1 >>= λ kind. head_after kind.0 kind.1) (head, rest) is in
    let kind = bind_some (kind_at n.0.1) (λ kind. head_after kind.0 kind.1) (head, rest) n.2 in
    let first = (takes_number number number).whole bytes n.0.1 n.0.0 n.1 in
    let second = takes_kind.whole n.0.1 kind.0.1 kind.0.0 kind.1 in
    let third = (takes_head_after kind.0.0).whole kind.0.1 rest head kind.2 in
    let same : n.0.0 ≡ number = omega (arith, first.1.0, first.1.1) in (
      kind.0.0,
      first.0 ∙ ap (λ x. decimal x ++ n.0.1) same ∙ ap (λ x. decimal number ++ x) (second.0 ∙ ap (λ x. kind_text kind.0.0 ++ x) third.0)
          ∙ grouped (decimal number) (kind_text kind.0.0) (head_text head) rest,
      third.1,
    )
