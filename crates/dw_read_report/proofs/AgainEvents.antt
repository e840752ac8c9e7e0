-- The first lines of events are read again.
use Rattle.std.proofs.Common.{◌≡◌, ℕ, ◌<◌, ◌^◌, List, [], ◌∷◌, ◌++◌, length, Bool, true, false, Some, None, decimal, codes, refl, sym, ◌∙◌, ap, subst, append_assoc, arith, cond}
use Rattle.std.specs.Str.{IsUtf8, is_utf8}
use Rattle.std.proofs.lemmas.Str.{is_utf8-from_IsUtf8}
use Rattle.std.proofs.lemmas.Grind.{flat_map-append}
use Rattle.dw_model.specs.declared.answers.Word.{Word}
use Rattle.dw_model.specs.declared.answers.Word.TheVariants as words
use Rattle.dw_model.specs.declared.answers.Answer.TheVariants as answers
use Rattle.dw_model.specs.declared.objects.Object.{Object}
use Rattle.dw_model.specs.declared.objects.Object.TheVariants as objects
use Rattle.dw_model.specs.declared.refusals.Refusal.{Refusal}
use Rattle.dw_model.specs.declared.refusals.Refusal.TheVariants as refusals
use Rattle.dw_model.specs.Refusals.{number_of}
use Rattle.dw_journal.specs.declared.Event.{Event}
use Rattle.dw_journal.specs.declared.Event.TheVariants as events
use Rattle.dw_journal.specs.declared.Route.{Route}
use Rattle.dw_journal.specs.declared.Route.TheVariants.{Main, Cluster}
use Rattle.dw_read_report.specs.declared.read_refusals.Reason.{Reason}
use Rattle.dw_read_report.specs.declared.read_refusals.Reason.TheVariants as reasons
use Rattle.dw_read_report.specs.declared.read_events.Kind.{Kind}
use Rattle.dw_read_report.specs.declared.read_events.Kind.TheVariants as kinds
use Rattle.dw_read_report.specs.declared.read_events.Step.{Step}
use Rattle.dw_read_report.specs.declared.read_events.Step.TheVariants as steps
use Rattle.dw_read_report.specs.declared.read_events.Head.{Head}
use Rattle.dw_read_report.specs.declared.read_events.Head.TheVariants as heads
use Rattle.dw_print.specs.Fields.{escape, field, numbers_text, refusal_text}
use Rattle.dw_print.specs.Answers.{word_text}
use Rattle.dw_print.specs.Events.{object_text, route_text}
use Rattle.dw_print.specs.Typed.{IsLong, IsShort, IsTypedObject, IsTypedRefusal, IsTypedRoute}
use Rattle.dw_read_report.specs.Readable.{IsPassWord, IsPlainWord}
use Rattle.dw_read_report.proofs.Fits.{FitsEvent}
use Rattle.dw_read_report.specs.Reading.{Reading, ◌>>=◌, both, field_at, meaning, number_at, otherwise, statement_at, word_at}
use Rattle.dw_read_report.specs.EventReading.{answer_after, answer_at, answer_word_at, begin_at, closed_text_at, commit_at, end_at, head_after, head_at, kind_at, object_at, object_of, open_at, pass_at, pass_word_at, rarer_kind_at, rarer_reason_at, reason_at, refresh_at, refusal_after, refusal_at, refuse_at, rollback_at, route_at, step_at, vacuum_after, vacuum_at, violation_at, wait_at, without_parenthesis}
use Rattle.dw_read_report.proofs.Texts.{parenthesis_goes}
use Rattle.dw_read_report.proofs.TakenParts.{place_text}
use Rattle.dw_read_report.proofs.TakenEvents.{IsAnswerWord, answer_word_text, create_line, drop_line, lock_line, form_text, head_text, insert_line, kind_of, kind_text, one_more, reason_of, reason_text, refused_is, refused_text, refusal_line, rest_text, same_object_text, slice_more, step_text, tail_text, three_more, two_more}
use Rattle.dw_read_report.proofs.Again.{Again, Anything, again_after, again_before, again_both, meant_again, next_is}
use Rattle.dw_read_report.proofs.AgainParts.{IsAfterField, IsAfterItems, IsAfterNumber, again_long, again_number, again_sessions, again_short, again_statement, again_text, field_again}

-- words, each of which is told by its first letters
kind_again : (kind : Kind) (rest : List ℕ) → (kind_at (kind_text kind ++ rest) ≡ Some (kind, rest)) × IsAfterNumber (kind_text kind ++ rest)
unfolding kind_at rarer_kind_at
kind_again kinds.Begin rest = (refl, refl)
kind_again kinds.Pass rest = (refl, refl)
kind_again kinds.Wait rest = (refl, refl)
kind_again kinds.Open rest = (refl, refl)
kind_again kinds.Answer rest = (refl, refl)
kind_again kinds.Commit rest = (refl, refl)
kind_again kinds.Violation rest = (refl, refl)
kind_again kinds.Refuse rest = (refl, refl)
kind_again kinds.Rollback rest = (refl, refl)
kind_again kinds.Vacuum rest = (refl, refl)
kind_again kinds.Refresh rest = (refl, refl)
kind_again kinds.End rest = (refl, refl)

reason_again : (reason : Reason) (rest : List ℕ) → reason_at (reason_text reason ++ rest) ≡ Some (reason, rest)
unfolding reason_at rarer_reason_at
reason_again reasons.Syntax rest = refl
reason_again reasons.Unknown rest = refl
reason_again reasons.Exists rest = refl
reason_again reasons.Clash rest = refl
reason_again reasons.Range rest = refl
reason_again reasons.NullIn rest = refl
reason_again reasons.Deadlock rest = refl
reason_again reasons.Aborted rest = refl
reason_again reasons.InBlock rest = refl
reason_again reasons.Vacuuming rest = refl
reason_again reasons.Limit rest = refl
reason_again reasons.Memory rest = refl

step_again : (step : Step) (rest : List ℕ) → (step_at (step_text step ++ rest) ≡ Some (step, rest)) × IsAfterNumber (step_text step ++ rest)
unfolding step_at
step_again steps.Begin rest = (refl, refl)
step_again steps.Slice rest = (refl, refl)
step_again steps.End rest = (refl, refl)

answer_word_again : (word : Word) (rest : List ℕ) → IsAnswerWord word
    → (answer_word_at (answer_word_text word ++ rest) ≡ Some (word, rest)) × IsAfterNumber (answer_word_text word ++ rest)
unfolding answer_word_at
answer_word_again words.Begin rest none = absurd none
answer_word_again words.Commit rest none = absurd none
answer_word_again words.Rollback rest none = absurd none
answer_word_again words.CreateTable rest fits = (refl, refl)
answer_word_again words.DropTable rest fits = (refl, refl)
answer_word_again words.LockTable rest fits = (refl, refl)
answer_word_again words.Insert rest fits = (refl, refl)
answer_word_again words.Select rest fits = (refl, refl)

pass_word_again : (word : Word) (rest : List ℕ) → IsPassWord word → pass_word_at (word_text word ++ rest) ≡ Some (word, rest)
unfolding pass_word_at
pass_word_again words.Begin rest fits = refl
pass_word_again words.Commit rest fits = refl
pass_word_again words.Rollback rest fits = refl
pass_word_again words.CreateTable rest none = absurd none
pass_word_again words.DropTable rest none = absurd none
pass_word_again words.LockTable rest none = absurd none
pass_word_again words.Insert rest none = absurd none
pass_word_again words.Select rest none = absurd none

again_pass_word : Again word_text IsPassWord Anything pass_word_at
again_pass_word = record { whole = λ word rest fits any. pass_word_again word rest fits }

route_again : (route : Route) (rest : List ℕ) → IsTypedRoute route → IsAfterNumber rest → route_at (route_text route ++ rest) ≡ Some (route, rest)
unfolding route_at
route_again Main rest fits ends = refl
route_again (Cluster cluster) rest fits ends =
    meant_again Cluster (again_after (codes "cluster ") again_short) cluster rest (route_text (Cluster cluster)) fits ends refl

again_route : Again route_text IsTypedRoute IsAfterNumber route_at
again_route = record { whole = route_again }

-- objects
again_closed_text : Again (λ name. field name ++ codes ")") IsUtf8 IsAfterField closed_text_at
unfolding closed_text_at
again_closed_text = record {
  whole = λ name rest fits ends.
      next_is (field_at ((field name ++ codes ")") ++ rest)) (name ++ 41 ∷ [], rest)
      (λ text. without_parenthesis text.0 >>= λ t. cond (is_utf8 t) (Some (t, text.1)) None) (Some (name, rest))
      (ap (λ text. field_at (text ++ rest)) (sym (flat_map-append escape name (41 ∷ []))) ∙ field_again (name ++ 41 ∷ []) rest ends)
      (next_is (without_parenthesis (name ++ 41 ∷ [])) name (λ t. cond (is_utf8 t) (Some (t, rest)) None) (Some (name, rest)) (parenthesis_goes name)
      (rw (is_utf8-from_IsUtf8 name fits) refl));
}

form_again : (rows : Bool) (rest : List ℕ) → otherwise (word_at (codes "rows(") true) (word_at (codes "def(") false) (form_text rows ++ rest) ≡ Some (rows, rest)
form_again true rest = refl
form_again false rest = refl

again_form : Again form_text (λ rows. Unit {0}) Anything (otherwise (word_at (codes "rows(") true) (word_at (codes "def(") false))
again_form = record { whole = λ rows rest fits any. form_again rows rest }

formed_again : (rows : Bool) (name rest : List ℕ) → IsUtf8 name → IsAfterField rest
    → object_at (object_text (object_of (rows, name)) ++ rest) ≡ Some (object_of (rows, name), rest)
unfolding object_at
formed_again rows name rest fits ends =
    meant_again object_of (again_both again_form again_closed_text (λ b more fit. tt)) (rows, name) rest (object_text (object_of (rows, name))) (tt, fits) ends
    (same_object_text (rows, name))

object_again : (object : Object) (rest : List ℕ) → IsTypedObject object → IsAfterField rest → object_at (object_text object ++ rest) ≡ Some (object, rest)
object_again (objects.Rows name) rest fits ends = formed_again true name rest fits ends
object_again (objects.Def name) rest fits ends = formed_again false name rest fits ends

again_object : Again object_text IsTypedObject IsAfterField object_at
again_object = record { whole = object_again }

-- refusals
abbrev IsAfterRefusal : List ℕ → Type 0
IsAfterRefusal rest = IsAfterItems (codes " ") IsAfterNumber rest × IsAfterField rest

rest_again : (refusal : Refusal) (rest : List ℕ) → IsTypedRefusal refusal → IsAfterRefusal rest
    → refusal_after (reason_of refusal) (rest_text refusal ++ rest) ≡ Some (refusal, rest)
rest_again (refusals.Syntax place) rest fits ends = meant_again refusals.Syntax again_long place rest (decimal place) fits ends.0.1 refl
rest_again (refusals.Unknown name) rest fits ends = meant_again refusals.Unknown again_text name rest (field name) fits ends.1 refl
rest_again (refusals.Exists name) rest fits ends = meant_again refusals.Exists again_text name rest (field name) fits ends.1 refl
rest_again refusals.Clash rest fits ends = refl
rest_again refusals.Range rest fits ends = refl
rest_again (refusals.NullIn column) rest fits ends = meant_again refusals.NullIn again_text column rest (field column) fits ends.1 refl
rest_again (refusals.Deadlock cycle) rest fits ends = meant_again refusals.Deadlock again_sessions cycle rest (numbers_text cycle) fits ends.0 refl
rest_again refusals.Aborted rest fits ends = refl
rest_again refusals.InBlock rest fits ends = refl
rest_again (refusals.Vacuuming session) rest fits ends = meant_again refusals.Vacuuming again_short session rest (decimal session) fits ends.0.1 refl
rest_again (refusals.Limit count) rest fits ends = meant_again refusals.Limit again_long count rest (decimal count) fits ends.0.1 refl
rest_again refusals.Memory rest fits ends = refl

again_refusal : Again refused_text IsTypedRefusal IsAfterRefusal refusal_at
unfolding refusal_at
again_refusal = record {
  whole = λ refusal rest fits ends.
      next_is (reason_at (refused_text refusal ++ rest)) (reason_of refusal, rest_text refusal ++ rest) (λ reason. refusal_after reason.0 reason.1) (Some (refusal, rest))
      (ap (λ front. reason_at (front ++ rest)) (refused_is refusal)
      ∙ ap reason_at (append_assoc (reason_text (reason_of refusal)) (rest_text refusal) rest)
      ∙ reason_again (reason_of refusal) (rest_text refusal ++ rest))
      (rest_again refusal rest fits ends);
}

-- the rest of each kind's line
abbrev IsRead : Reading Event → Event → Type 0
IsRead read event = (rest : List ℕ) → FitsEvent event → read (tail_text event ++ rest) ≡ Some (event, rest)

begin_again : (s q : ℕ) → IsRead begin_at (events.Begin s q)
unfolding begin_at
begin_again s q rest fits =
    meant_again (λ (x : ℕ × ℕ). events.Begin x.0 x.1) (again_before (codes "\n") again_statement (λ more. refl)) (s, q) rest
    (tail_text (events.Begin s q)) fits tt refl

rollback_again : (s q : ℕ) → IsRead rollback_at (events.Rollback s q)
unfolding rollback_at
rollback_again s q rest fits =
    meant_again (λ (x : ℕ × ℕ). events.Rollback x.0 x.1) (again_before (codes "\n") again_statement (λ more. refl)) (s, q) rest
    (tail_text (events.Rollback s q)) fits tt refl

pass_again : (s q : ℕ) (word : Word) → IsRead pass_at (events.Pass s q word)
unfolding pass_at
pass_again s q word rest fits =
    meant_again (λ (x : (ℕ × ℕ) × Word). events.Pass x.0.0 x.0.1 x.1)
    (again_before (codes "\n") (again_both again_statement (again_after (codes " ") again_pass_word) (λ b more fit. refl)) (λ more. tt))
    ((s, q), word) rest (tail_text (events.Pass s q word)) ((fits.0, fits.1), fits.2) tt (simp append_assoc)

wait_again : (s q : ℕ) (holders : List ℕ) → IsRead wait_at (events.Wait s q holders)
unfolding wait_at
wait_again s q holders rest fits =
    meant_again (λ (x : (ℕ × ℕ) × List ℕ). events.Wait x.0.0 x.0.1 x.1)
    (again_before (codes "\n") (again_both again_statement (again_after (codes " for") again_sessions) (λ b more fit. refl)) (λ more. (refl, refl)))
    ((s, q), holders) rest (tail_text (events.Wait s q holders)) ((fits.0, fits.1), fits.2) tt (simp append_assoc)

open_again : (s q snapshot : ℕ) (route : Route) → IsRead open_at (events.Opened s q snapshot route)
unfolding open_at
open_again s q snapshot route rest fits =
    meant_again (λ (x : ((ℕ × ℕ) × ℕ) × Route). events.Opened x.0.0.0 x.0.0.1 x.0.1 x.1)
    (again_before (codes "\n") (again_both (again_both again_statement (again_after (codes " snapshot ") again_long) (λ b more fit. refl))
    (again_after (codes " ") again_route) (λ b more fit. refl)) (λ more. refl))
    (((s, q), snapshot), route) rest (tail_text (events.Opened s q snapshot route)) (((fits.0, fits.1), fits.2), fits.3) tt
    (two_more (place_text (s, q)) (codes " snapshot ") (decimal snapshot) (codes " ") (route_text route) (codes "\n"))

commit_again : (s q stamp low high : ℕ) → IsRead commit_at (events.Commit s q stamp low high)
unfolding commit_at
commit_again s q stamp low high rest fits =
    meant_again (λ (x : (((ℕ × ℕ) × ℕ) × ℕ) × ℕ). events.Commit x.0.0.0.0 x.0.0.0.1 x.0.0.1 x.0.1 x.1)
    (again_before (codes "\n") (again_both (again_both (again_both again_statement (again_after (codes " stamp ") again_long) (λ b more fit. refl))
    (again_after (codes " low ") again_long) (λ b more fit. refl)) (again_after (codes " high ") again_long) (λ b more fit. refl)) (λ more. refl))
    ((((s, q), stamp), low), high) rest (tail_text (events.Commit s q stamp low high)) ((((fits.0, fits.1), fits.2), fits.3), fits.4) tt
    (three_more (place_text (s, q)) (codes " stamp ") (decimal stamp) (codes " low ") (decimal low) (codes " high ") (decimal high) (codes "\n"))

violation_again : (s q low high : ℕ) (object : Object) → IsRead violation_at (events.Violation s q low high object)
unfolding violation_at
violation_again s q low high object rest fits =
    meant_again (λ (x : (((ℕ × ℕ) × ℕ) × ℕ) × Object). events.Violation x.0.0.0.0 x.0.0.0.1 x.0.0.1 x.0.1 x.1)
    (again_before (codes "\n") (again_both (again_both (again_both again_statement (again_after (codes " low ") again_long) (λ b more fit. refl))
    (again_after (codes " high ") again_long) (λ b more fit. refl)) (again_after (codes " ") again_object) (λ b more fit. refl)) (λ more. refl))
    ((((s, q), low), high), object) rest (tail_text (events.Violation s q low high object)) ((((fits.0, fits.1), fits.2), fits.3), fits.4) tt
    (three_more (place_text (s, q)) (codes " low ") (decimal low) (codes " high ") (decimal high) (codes " ") (object_text object) (codes "\n"))

refuse_again : (s q : ℕ) (refusal : Refusal) → IsRead refuse_at (events.Refuse s q refusal)
unfolding refuse_at
refuse_again s q refusal rest fits =
    meant_again (λ (x : (ℕ × ℕ) × Refusal). events.Refuse x.0.0 x.0.1 x.1)
    (again_before (codes "\n") (again_both again_statement (again_after (codes " ") again_refusal) (λ b more fit. refl)) (λ more. ((refl, refl), refl)))
    ((s, q), refusal) rest (tail_text (events.Refuse s q refusal)) ((fits.0, fits.1), fits.2) tt
    (refusal_line (place_text (s, q)) (codes " ") (decimal (number_of refusal)) (codes " ") (refusal_text refusal) (codes "\n"))

refresh_again : (cluster stamp : ℕ) → IsRead refresh_at (events.Refresh cluster stamp)
unfolding refresh_at
refresh_again cluster stamp rest fits =
    meant_again (λ (x : ℕ × ℕ). events.Refresh x.0 x.1)
    (again_before (codes "\n") (again_both again_short (again_after (codes " stamp ") again_long) (λ b more fit. refl)) (λ more. refl))
    (cluster, stamp) rest (tail_text (events.Refresh cluster stamp)) fits tt (simp append_assoc)

end_again : (session : ℕ) → IsRead end_at (events.End session)
unfolding end_at
end_again session rest fits =
    meant_again events.End (again_before (codes "\n") again_short (λ more. refl)) session rest (tail_text (events.End session)) fits tt refl

-- vacuums
again_step : Again step_text (λ step. Unit {0}) Anything step_at
again_step = record { whole = λ step rest fits any. (step_again step rest).0 }

regroup_rest : (p l tail rest : List ℕ) → (p ++ (l ++ tail)) ++ rest ≡ (p ++ l) ++ (tail ++ rest)
regroup_rest p l tail rest = simp append_assoc

vacuum_again : (step : Step) (s q : ℕ) (event : Event) (tail rest : List ℕ) → IsShort s → IsShort q
    → tail_text event ≡ place_text (s, q) ++ (step_text step ++ tail) → vacuum_after step s q (tail ++ rest) ≡ Some (event, rest)
    → vacuum_at (tail_text event ++ rest) ≡ Some (event, rest)
unfolding vacuum_at
vacuum_again step s q event tail rest a b same later =
    ap vacuum_at (ap (λ front. front ++ rest) same ∙ regroup_rest (place_text (s, q)) (step_text step) tail rest)
    ∙ next_is (both statement_at step_at ((place_text (s, q) ++ step_text step) ++ (tail ++ rest))) (((s, q), step), tail ++ rest)
    (λ x. vacuum_after x.0.1 x.0.0.0 x.0.0.1 x.1) (Some (event, rest))
    ((again_both again_statement again_step (λ step more fit. (step_again step more).1)).whole ((s, q), step) (tail ++ rest) ((a, b), tt) tt) later

sweep_again : (s q : ℕ) (table : List ℕ) → IsRead vacuum_at (events.VacuumBegin s q table)
sweep_again s q table rest fits =
    vacuum_again steps.Begin s q (events.VacuumBegin s q table) (field table ++ codes "\n") rest fits.0 fits.1
    (one_more (place_text (s, q)) (codes " begin ") (field table) (codes "\n"))
    (meant_again (events.VacuumBegin s q) (again_before (codes "\n") again_text (λ more. refl)) table rest (field table ++ codes "\n") fits.2 tt refl)

slice_again : (s q slice horizon : ℕ) → IsRead vacuum_at (events.VacuumSlice s q slice horizon)
slice_again s q slice horizon rest fits =
    vacuum_again steps.Slice s q (events.VacuumSlice s q slice horizon) ((decimal slice ++ (codes " horizon " ++ decimal horizon)) ++ codes "\n") rest fits.0 fits.1
    (slice_more (place_text (s, q)) (codes " slice ") (decimal slice) (codes " horizon ") (decimal horizon) (codes "\n"))
    (meant_again (λ (x : ℕ × ℕ). events.VacuumSlice s q x.0 x.1)
    (again_before (codes "\n") (again_both again_short (again_after (codes " horizon ") again_long) (λ b more fit. refl)) (λ more. refl))
    (slice, horizon) rest ((decimal slice ++ (codes " horizon " ++ decimal horizon)) ++ codes "\n") (fits.2, fits.3) tt refl)

sweep_end_again : (s q : ℕ) → IsRead vacuum_at (events.VacuumEnd s q)
sweep_end_again s q rest fits = vacuum_again steps.End s q (events.VacuumEnd s q) (codes "\n") rest fits.0 fits.1 refl refl

-- answers
again_answer_word : Again answer_word_text IsAnswerWord Anything answer_word_at
again_answer_word = record { whole = λ word rest fits any. (answer_word_again word rest fits).0 }

answer_again : (word : Word) (s q : ℕ) (head : Head) (tail rest : List ℕ) → IsAnswerWord word → IsShort s → IsShort q
    → head_text head ≡ place_text (s, q) ++ (answer_word_text word ++ tail) → answer_after word s q (tail ++ rest) ≡ Some (head, rest)
    → answer_at (head_text head ++ rest) ≡ Some (head, rest)
unfolding answer_at
answer_again word s q head tail rest fits a b same later =
    ap answer_at (ap (λ front. front ++ rest) same ∙ regroup_rest (place_text (s, q)) (answer_word_text word) tail rest)
    ∙ next_is (both statement_at answer_word_at ((place_text (s, q) ++ answer_word_text word) ++ (tail ++ rest))) (((s, q), word), tail ++ rest)
    (λ x. answer_after x.0.1 x.0.0.0 x.0.0.1 x.1) (Some (head, rest))
    ((again_both again_statement again_answer_word (λ word more fit. (answer_word_again word more fit).1)).whole ((s, q), word) (tail ++ rest) ((a, b), fits) tt) later

abbrev IsHeadRead : Kind → Head → Type 0
IsHeadRead kind head = (rest : List ℕ) → head_after kind (head_text head ++ rest) ≡ Some (head, rest)

plain_again : (word : Word) (s q : ℕ) → IsPlainWord word → IsShort s → IsShort q → IsHeadRead kinds.Answer (heads.Whole (events.Answer s q (answers.Plain word)))
plain_again words.Begin s q none a b rest = absurd none
plain_again words.Commit s q none a b rest = absurd none
plain_again words.Rollback s q none a b rest = absurd none
plain_again words.Insert s q none a b rest = absurd none
plain_again words.Select s q none a b rest = absurd none
plain_again words.CreateTable s q fits a b rest =
    answer_again words.CreateTable s q (heads.Whole (events.Answer s q (answers.Plain words.CreateTable))) (codes "\n") rest tt a b
    (create_line (place_text (s, q))) refl
plain_again words.DropTable s q fits a b rest =
    answer_again words.DropTable s q (heads.Whole (events.Answer s q (answers.Plain words.DropTable))) (codes "\n") rest tt a b
    (drop_line (place_text (s, q))) refl
plain_again words.LockTable s q fits a b rest =
    answer_again words.LockTable s q (heads.Whole (events.Answer s q (answers.Plain words.LockTable))) (codes "\n") rest tt a b
    (lock_line (place_text (s, q))) refl

count_again : (s q count : ℕ) → IsShort s → IsShort q → IsLong count
    → IsHeadRead kinds.Answer (heads.Whole (events.Answer s q (answers.Count words.Insert count)))
count_again s q count a b fits rest =
    answer_again words.Insert s q (heads.Whole (events.Answer s q (answers.Count words.Insert count))) (decimal count ++ codes "\n") rest tt a b
    (insert_line (place_text (s, q)) (decimal count) (codes "\n"))
    (meant_again (λ (n : ℕ). heads.Whole (events.Answer s q (answers.Count words.Insert n))) (again_before (codes "\n") again_long (λ more. refl)) count rest
    (decimal count ++ codes "\n") fits tt refl)

rows_head_again : (s q count : ℕ) → IsShort s → IsShort q → IsLong count → IsHeadRead kinds.Answer (heads.WithRows s q count)
rows_head_again s q count a b fits rest =
    answer_again words.Select s q (heads.WithRows s q count) (decimal count ++ codes "\n") rest tt a b
    (one_more (place_text (s, q)) (codes " SELECT ") (decimal count) (codes "\n"))
    (meant_again (heads.WithRows s q) (again_before (codes "\n") again_long (λ more. refl)) count rest (decimal count ++ codes "\n") fits tt refl)

-- what the first line of an event holds, and the lines after it
abbrev pub first_line : Event → Head
first_line (events.Answer s q (answers.Rows word names rows)) = heads.WithRows s q (length rows)
first_line event = heads.Whole event

whole_again : (read : Reading Event) (event : Event) → IsRead read event → (rest : List ℕ) → FitsEvent event
    → meaning heads.Whole read (tail_text event ++ rest) ≡ Some (heads.Whole event, rest)
whole_again read event is rest fits =
    next_is (read (tail_text event ++ rest)) (event, rest) (λ x. Some (heads.Whole x.0, x.1)) (Some (heads.Whole event, rest)) (is rest fits) refl

first_line_again : (event : Event) → FitsEvent event → IsHeadRead (kind_of event) (first_line event)
first_line_again (events.Begin s q) fits rest = whole_again begin_at (events.Begin s q) (begin_again s q) rest fits
first_line_again (events.Pass s q word) fits rest = whole_again pass_at (events.Pass s q word) (pass_again s q word) rest fits
first_line_again (events.Wait s q holders) fits rest = whole_again wait_at (events.Wait s q holders) (wait_again s q holders) rest fits
first_line_again (events.Opened s q snapshot route) fits rest =
    whole_again open_at (events.Opened s q snapshot route) (open_again s q snapshot route) rest fits
first_line_again (events.Answer s q (answers.Plain word)) fits rest = plain_again word s q fits.2 fits.0 fits.1 rest
first_line_again (events.Answer s q (answers.Count word count)) fits rest =
    subst (λ (w : Word). answer_at (head_text (heads.Whole (events.Answer s q (answers.Count w count))) ++ rest) ≡ Some (heads.Whole (events.Answer s q (answers.Count w count)), rest))
    (sym fits.2.0) (count_again s q count fits.0 fits.1 fits.2.1 rest)
first_line_again (events.Answer s q (answers.Rows word names rows)) fits rest = rows_head_again s q (length rows) fits.0 fits.1 fits.2.1 rest
first_line_again (events.Commit s q stamp low high) fits rest =
    whole_again commit_at (events.Commit s q stamp low high) (commit_again s q stamp low high) rest fits
first_line_again (events.Violation s q low high object) fits rest =
    whole_again violation_at (events.Violation s q low high object) (violation_again s q low high object) rest fits
first_line_again (events.Refuse s q refusal) fits rest = whole_again refuse_at (events.Refuse s q refusal) (refuse_again s q refusal) rest fits
first_line_again (events.Rollback s q) fits rest = whole_again rollback_at (events.Rollback s q) (rollback_again s q) rest fits
first_line_again (events.VacuumBegin s q table) fits rest = whole_again vacuum_at (events.VacuumBegin s q table) (sweep_again s q table) rest fits
first_line_again (events.VacuumSlice s q slice horizon) fits rest =
    whole_again vacuum_at (events.VacuumSlice s q slice horizon) (slice_again s q slice horizon) rest fits
first_line_again (events.VacuumEnd s q) fits rest = whole_again vacuum_at (events.VacuumEnd s q) (sweep_end_again s q) rest fits
first_line_again (events.Refresh cluster stamp) fits rest = whole_again refresh_at (events.Refresh cluster stamp) (refresh_again cluster stamp) rest fits
first_line_again (events.End session) fits rest = whole_again end_at (events.End session) (end_again session) rest fits

pub head_again : (number : ℕ) (event : Event) (rest : List ℕ) → number < 2 ^ 64 → FitsEvent event
    → head_at number (decimal number ++ (kind_text (kind_of event) ++ (head_text (first_line event) ++ rest))) ≡ Some (first_line event, rest)
unfolding head_at
head_again number event rest small fits =
    let kind : Kind = kind_of event in
    let after_kind : List ℕ = head_text (first_line event) ++ rest in
    let read = kind_again kind after_kind in
    next_is (number_at number number (decimal number ++ (kind_text kind ++ after_kind))) (number, kind_text kind ++ after_kind)
    (λ n. kind_at n.1 >>= λ kind. head_after kind.0 kind.1) (Some (first_line event, rest))
    ((again_number number number small).whole number (kind_text kind ++ after_kind) (omega arith, omega arith) read.1)
    (next_is (kind_at (kind_text kind ++ after_kind)) (kind, after_kind) (λ k. head_after k.0 k.1) (Some (first_line event, rest)) read.0
    (first_line_again event fits rest))
