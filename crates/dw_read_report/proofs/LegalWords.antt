-- The events of a legal journal have the words that a report can say.
use Rattle.std.proofs.Common.{◌≡◌, ℕ, zero, suc, Bool, true, false, List, [], ◌∷◌, ◌++◌, map, reverse, refl, sym, subst}
use Rattle.std.specs.Prelude.{Option, Some, None, Result, Ok, Err, filter, if◌then◌else◌, slice_get, unwrap_or}
use Rattle.std.specs.List.{AllByRecursion}
use Rattle.std.proofs.lemmas.List.{reverse-append, reverse-reverse}
use Rattle.std.specs.declared.cmp.Ordering.{Ordering}
use Rattle.std.specs.Ordering.{is_gt}
use Rattle.dw_value.specs.declared.values.Row.{Row}
use Rattle.dw_value.specs.declared.values.Field.{Field}
use Rattle.dw_value.specs.Sorted.{put_sorted, sort}
use Rattle.dw_value.specs.Values.{row_cmp}
use Rattle.dw_model.specs.declared.answers.Answer.{Answer as Reply}
use Rattle.dw_model.specs.declared.answers.Plain.TheVariants.{Done, Refused}
use Rattle.dw_model.specs.declared.changes.Outcome.{Outcome}
use Rattle.dw_model.specs.declared.refusals.Refusal.{Refusal}
use Rattle.dw_model.specs.declared.statements.Literal.{Literal}
use Rattle.dw_model.specs.declared.statements.Query.{Query}
use Rattle.dw_model.specs.declared.statements.Statement.{Statement}
use Rattle.dw_model.specs.declared.statements.Statement.TheVariants as forms
use Rattle.dw_model.specs.declared.tables.Column.{Column}
use Rattle.dw_model.specs.declared.tables.TableDef.{TableDef}
use Rattle.dw_model.specs.Binding.{Definitions, columns_refusal}
use Rattle.dw_model.specs.Bound.{BoundStatement, Create, Drop, Lock, Insert, Select, bound, bound_drop, bound_insert, bound_lock, bound_query, first_missing}
use Rattle.dw_model.specs.Creating.{create_refusal, def_made}
use Rattle.dw_model.specs.Inserting.{insert_refusal, names_given, null_column, rows_made}
use Rattle.dw_model.specs.Refusals.{unless_refused, after_result}
use Rattle.dw_model.specs.Selection.{fields_of, items_of, kinds_of, passes, selected}
use Rattle.dw_model.specs.Databases.{Tables, def_of, rows_of}
use Rattle.dw_model.specs.Files.{Files}
use Rattle.dw_model.specs.Changes.{changed}
use Rattle.dw_model.specs.Alone.{added_outcome, insert_outcome, outcome_of, outcome_on, plain_of}
use Rattle.dw_journal.specs.declared.BlockState.{BlockState}
use Rattle.dw_journal.specs.declared.Event.{Event}
use Rattle.dw_journal.specs.declared.Event.TheVariants as events
use Rattle.dw_journal.specs.declared.Journal.{Journal}
use Rattle.dw_journal.specs.declared.Shape.{Shape}
use Rattle.dw_journal.specs.declared.World.{World}
use Rattle.dw_journal.specs.declared.Given.{Given}
use Rattle.dw_journal.specs.declared.Given.TheVariants as givens
use Rattle.dw_journal.specs.Worlds.{read_in, statement_at}
use Rattle.dw_journal.specs.History.{History, events_of}
use Rattle.dw_journal.specs.Contents.{view}
use Rattle.dw_journal.specs.Transactions.{Transaction}
use Rattle.dw_journal.specs.Turns.{Call, Turn}
use Rattle.dw_journal.specs.Follows.{IsAnswer, is_answer, is_answer_refused, IsDecision, is_commit, is_violation, is_commit_refused, IsOpening, is_wait, is_opening_refused, is_opened, IsSweepOpening, is_sweep_wait, is_sweep_refused, is_sweep_begin, IsTaken, foreign, begin_outside, begin_within, begin_aborted, commit_outside, commit_of_nothing, commit_within, commit_aborted, rollback_outside, rollback_within, rollback_aborted, vacuum_outside, vacuum_within, vacuum_aborted, work_outside, work_within, work_aborted, IsDue, answers, decides, rebuilds, has_rebuilt, takes, ends, sweeps, FollowsAfter, due, refreshes, EachFollows}
use Rattle.dw_journal.specs.Legal.{EachIsLegal, IsLegal, IsLegalAfter, IsLegalAnswer}
use Rattle.dw_read_report.specs.Readable.{HasAny, HasAnswerWords, HasEventWords, HasReportWords, IsPassWord}
use Rattle.dw_read_report.specs.Items.{EachHasItems, HasGivenItems, HasItems}

-- a statement of such scripts has its items
abbrev HasItemsIf : Option Statement → Type 0
HasItemsIf None = Unit {0}
HasItemsIf (Some statement) = HasItems statement

given_items : (script : List Given) (place : ℕ) → AllByRecursion HasGivenItems script → HasItemsIf (read_in (slice_get script place))
given_items [] place each = tt
given_items (givens.Read statement ∷ script) zero each = each.0
given_items (givens.Refused refusal ∷ script) zero each = tt
given_items (given ∷ script) (suc place) each = given_items script place each.1

script_items : (scripts : List (List Given)) (place : ℕ) → AllByRecursion (AllByRecursion HasGivenItems) scripts
    → AllByRecursion HasGivenItems (unwrap_or (slice_get scripts place) [])
script_items [] place each = tt
script_items (script ∷ scripts) zero each = each.0
script_items (script ∷ scripts) (suc place) each = script_items scripts place each.1

statement_items : (world : World) (session statement : ℕ) → EachHasItems world → HasItemsIf (statement_at world session statement)
statement_items world session zero each = tt
statement_items world zero (suc place) each = tt
statement_items world (suc n) (suc place) each =
    given_items (unwrap_or (slice_get world.scripts n) []) place (script_items world.scripts n each)

-- what passes has its word
abbrev HasPassWord : Event → Type 0
HasPassWord (events.Pass session statement word) = IsPassWord word
HasPassWord event = Unit {0}

answer_passes : {session k : ℕ} {event : Event} → IsAnswer session k event → HasPassWord event
answer_passes (is_answer answer) = tt
answer_passes (is_answer_refused refusal) = tt

decision_passes : {session k : ℕ} {event : Event} → IsDecision session k event → HasPassWord event
decision_passes (is_commit stamp low high) = tt
decision_passes (is_violation low high object) = tt
decision_passes (is_commit_refused refusal) = tt

opening_passes : {session k : ℕ} {event : Event} → IsOpening session k event → HasPassWord event
opening_passes (is_wait holders) = tt
opening_passes (is_opening_refused refusal) = tt
opening_passes (is_opened snapshot route) = tt

sweep_passes : {session k : ℕ} {table : List ℕ} {event : Event} → IsSweepOpening session k table event → HasPassWord event
sweep_passes (is_sweep_wait holders) = tt
sweep_passes (is_sweep_refused refusal) = tt
sweep_passes is_sweep_begin = tt

taken_passes : {session k : ℕ} {call : Call} {block : BlockState} {transaction : Option Transaction} {event : Event}
    → IsTaken session k call block transaction event → HasPassWord event
taken_passes foreign = tt
taken_passes begin_outside = tt
taken_passes begin_within = tt
taken_passes begin_aborted = tt
taken_passes commit_outside = tt
taken_passes commit_of_nothing = tt
taken_passes (commit_within decision) = decision_passes decision
taken_passes commit_aborted = tt
taken_passes rollback_outside = tt
taken_passes rollback_within = tt
taken_passes rollback_aborted = tt
taken_passes (vacuum_outside opening) = sweep_passes opening
taken_passes vacuum_within = tt
taken_passes vacuum_aborted = tt
taken_passes (work_outside opening) = opening_passes opening
taken_passes (work_within opening) = opening_passes opening
taken_passes work_aborted = tt

due_passes : {session : ℕ} {block : BlockState} {transaction : Option Transaction} {turn : Turn} {event : Event}
    → IsDue session block transaction turn event → HasPassWord event
due_passes (answers answer) = answer_passes answer
due_passes (decides decision) = decision_passes decision
due_passes rebuilds = tt
due_passes has_rebuilt = tt
due_passes (takes taken) = taken_passes taken
due_passes ends = tt
due_passes sweeps = tt

follows_passes : {older : History} {event : Event} → FollowsAfter older event → HasPassWord event
follows_passes (due session among is) = due_passes is
follows_passes refreshes = tt

-- a sort has the items that it sorts
put_by : {A : Type 0} (R : A → A → Ordering) (P : A → Type 0) (a b : A) (rest : List A) (test : Bool) → is_gt (R a b) ≡ test → P a → P b
    → AllByRecursion P rest → AllByRecursion P (put_sorted R a rest) → AllByRecursion P (put_sorted R a (b ∷ rest))
put_by R P a b rest true is one two others put =
    subst (λ (t : Bool). AllByRecursion P (if t then b ∷ put_sorted R a rest else a ∷ b ∷ rest)) (sym is) (two, put)
put_by R P a b rest false is one two others put =
    subst (λ (t : Bool). AllByRecursion P (if t then b ∷ put_sorted R a rest else a ∷ b ∷ rest)) (sym is) (one, (two, others))

each_put : {A : Type 0} (R : A → A → Ordering) (P : A → Type 0) (a : A) (xs : List A) → P a → AllByRecursion P xs → AllByRecursion P (put_sorted R a xs)
each_put R P a [] one each = (one, tt)
each_put R P a (b ∷ rest) one each = put_by R P a b rest (is_gt (R a b)) refl one each.0 each.1 (each_put R P a rest one each.1)

each_sorted : {A : Type 0} (R : A → A → Ordering) (P : A → Type 0) (xs : List A) → AllByRecursion P xs → AllByRecursion P (sort R xs)
each_sorted R P [] each = tt
each_sorted R P (x ∷ xs) each = each_put R P x (sort R xs) each.0 (each_sorted R P xs each.1)

-- what is made of each item of a list
each_made : {A B : Type 0} (P : B → Type 0) (made : A → B) (xs : List A) → ((a : A) → P (made a)) → AllByRecursion P (map made xs)
each_made P made [] is = tt
each_made P made (x ∷ xs) is = (is x, each_made P made xs is)

each_mapped : {A B : Type 0} (P : B → Type 0) (made : A → B) (xs : List A) → AllByRecursion (λ a. P (made a)) xs → AllByRecursion P (map made xs)
each_mapped P made [] each = tt
each_mapped P made (x ∷ xs) each = (each.0, each_mapped P made xs each.1)

-- the rows of a query with an item have fields
row_fields : (columns : List Column) (items : List (List ℕ)) (row : Row) → HasAny items → HasAny (fields_of (kinds_of columns items) (items_of columns items row))
row_fields columns [] row none = none
row_fields columns (item ∷ items) row any = tt

rows_fields : (columns : List Column) (query : Query) (rows : List Row) → HasAny query.items
    → AllByRecursion HasAny (map (fields_of (kinds_of columns query.items)) (selected query columns rows))
rows_fields columns query rows any =
    let fields : Row → List Field = fields_of (kinds_of columns query.items) in
    each_mapped HasAny fields (selected query columns rows)
    (each_sorted row_cmp (λ row. HasAny (fields row)) (map (items_of columns query.items) (filter (passes columns query.keep) rows))
    (each_made (λ row. HasAny (fields row)) (items_of columns query.items) (filter (passes columns query.keep) rows)
    (λ row. row_fields columns query.items row any)))

-- a bound query has its items
abbrev HasBoundItems : BoundStatement → Type 0
HasBoundItems (Select columns query) = HasAny query.items
HasBoundItems statement = Unit {0}

abbrev GivesItems : Result BoundStatement Refusal → Type 0
GivesItems (Ok statement) = HasBoundItems statement
GivesItems (Err refusal) = Unit {0}

unless_items : (refusal : Option Refusal) (statement : BoundStatement) → HasBoundItems statement → GivesItems (unless_refused refusal (Ok statement))
unless_items None statement has = has
unless_items (Some refusal) statement has = tt

drop_items : (table : List ℕ) (def : Option TableDef) → GivesItems (bound_drop table def)
drop_items table None = tt
drop_items table (Some def) = tt

lock_items : (missing : Option (List ℕ)) → GivesItems (bound_lock missing)
lock_items None = tt
lock_items (Some table) = tt

insert_items : (table : List ℕ) (listed : List (List ℕ)) (tuples : List (List Literal)) (def : Option TableDef) → GivesItems (bound_insert table listed tuples def)
insert_items table listed tuples None = tt
insert_items table listed tuples (Some def) =
    unless_items (insert_refusal def.columns listed tuples) (Insert table def.columns (names_given def.columns listed) tuples) tt

query_items : (query : Query) (def : Option TableDef) → HasAny query.items → GivesItems (bound_query query def)
query_items query None any = tt
query_items query (Some def) any = unless_items (columns_refusal def.columns query) (Select def.columns query) any

bound_items : (definitions : Definitions) (statement : Statement) → HasItems statement → GivesItems (bound definitions statement)
bound_items definitions forms.Begin has = tt
bound_items definitions forms.Commit has = tt
bound_items definitions forms.Rollback has = tt
bound_items definitions (forms.Vacuum table) has = tt
bound_items definitions (forms.Create spec) has =
    unless_items (create_refusal spec (definitions spec.name)) (Create spec.name (def_made spec)) tt
bound_items definitions (forms.Drop table) has = drop_items table (definitions table)
bound_items definitions (forms.Lock tables) has = lock_items (first_missing definitions tables)
bound_items definitions (forms.Insert table columns rows) has = insert_items table columns rows (definitions table)
bound_items definitions (forms.Select query) has = query_items query (definitions query.table) has

-- what it comes to has the words of its form
abbrev GivesWords : Result Outcome Refusal → Type 0
GivesWords (Ok outcome) = HasAnswerWords outcome.answer
GivesWords (Err refusal) = Unit {0}

added_words : (table : List ℕ) (rows : List Row) (column : Option (List ℕ)) → GivesWords (added_outcome table rows column)
added_words table rows None = refl
added_words table rows (Some column) = tt

insert_words : (table : List ℕ) (columns : List Column) (rows : Option (List Row)) → GivesWords (insert_outcome table columns rows)
insert_words table columns None = tt
insert_words table columns (Some rows) = added_words table rows (null_column columns rows)

outcome_words : (files : Files) (rows : List ℕ → List Row) (statement : BoundStatement) → HasBoundItems statement → GivesWords (outcome_of files rows statement)
outcome_words files rows (Create table def) has = tt
outcome_words files rows (Drop table) has = tt
outcome_words files rows Lock has = tt
outcome_words files rows (Insert table columns names tuples) has = insert_words table columns (rows_made columns names tuples)
outcome_words files rows (Select columns query) has = (refl, has, rows_fields columns query (rows query.table) has)

after_words : (files : Files) (rows : List ℕ → List Row) (statement : Result BoundStatement Refusal) → GivesItems statement
    → GivesWords (after_result (outcome_of files rows) statement)
after_words files rows (Ok statement) has = outcome_words files rows statement has
after_words files rows (Err refusal) has = tt

on_words : (files : Files) (statement : Statement) (tables : Tables) → HasItems statement → GivesWords (outcome_on files statement tables)
on_words files statement tables has =
    after_words files (rows_of tables) (bound (def_of tables) statement) (bound_items (def_of tables) statement has)

done_is : (a b : Reply) (x y : Tables) → Done a x ≡ Done b y → a ≡ b
done_is a b x y is = cc

done_words : (tables : Tables) (result : Result Outcome Refusal) (answer : Reply) (next : Tables) → GivesWords result → plain_of tables result ≡ Done answer next
    → HasAnswerWords answer
done_words tables (Ok outcome) answer next has is = subst HasAnswerWords (done_is outcome.answer answer (changed outcome.change tables) next is) has
done_words tables (Err refusal) answer next has is = absurd (cc is)

answer_words : (files : Files) (statement : Option Statement) (tables : Tables) (answer : Reply) → HasItemsIf statement → IsLegalAnswer files statement tables answer
    → HasAnswerWords answer
answer_words files None tables answer has legal = absurd legal
answer_words files (Some statement) tables answer has legal =
    done_words tables (outcome_on files statement tables) answer legal.0 (on_words files statement tables has) legal.1

-- an event that follows and is legal
event_words : (older : History) (event : Event) → EachHasItems older.world → FollowsAfter older event → IsLegalAfter older event → HasEventWords event
event_words older (events.Begin s k) each follows legal = tt
event_words older (events.Pass s k word) each follows legal = follows_passes follows
event_words older (events.Wait s k holders) each follows legal = tt
event_words older (events.Opened s k snapshot route) each follows legal = tt
event_words older (events.Answer s k answer) each follows legal =
    answer_words older.world.files (statement_at older.world s k) (view older s) answer (statement_items older.world s k each) legal
event_words older (events.Commit s k stamp low high) each follows legal = tt
event_words older (events.Violation s k low high object) each follows legal = tt
event_words older (events.Refuse s k refusal) each follows legal = tt
event_words older (events.Rollback s k) each follows legal = tt
event_words older (events.VacuumBegin s k table) each follows legal = tt
event_words older (events.VacuumSlice s k slice horizon) each follows legal = tt
event_words older (events.VacuumEnd s k) each follows legal = tt
event_words older (events.Refresh cluster stamp) each follows legal = tt
event_words older (events.End s) each follows legal = tt

events_words : (shape : Shape) (world : World) (events : List Event) → EachHasItems world → EachFollows shape world events → EachIsLegal shape world events
    → AllByRecursion HasEventWords events
events_words shape world [] each follows legal = tt
events_words shape world (event ∷ older) each follows legal = (
  event_words (record { shape = shape; world = world; events = older }) event each follows.0 legal.0,
  events_words shape world older each follows.1 legal.1,
)

-- a list that is turned round has the same items
each_appended : {A : Type 0} (P : A → Type 0) (xs ys : List A) → AllByRecursion P xs → AllByRecursion P ys → AllByRecursion P (xs ++ ys)
each_appended P [] ys first second = second
each_appended P (x ∷ xs) ys first second = (first.0, each_appended P xs ys first.1 second)

each_reversed : {A : Type 0} (P : A → Type 0) (xs : List A) → AllByRecursion P xs → AllByRecursion P (reverse xs)
each_reversed P [] each = tt
each_reversed P (x ∷ xs) each =
    subst (AllByRecursion P) (sym (reverse-append (x ∷ []) xs)) (each_appended P (reverse xs) (x ∷ []) (each_reversed P xs each.1) (each.0, tt))

pub journal_words : (world : World) (journal : Journal) → EachHasItems world → IsLegal world journal → HasReportWords journal
journal_words world journal each legal =
    subst (AllByRecursion HasEventWords) (reverse-reverse journal.events)
    (each_reversed HasEventWords (events_of journal) (events_words journal.shape world (events_of journal) each legal.follows legal.legal))
