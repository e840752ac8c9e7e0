-- What one event makes of the views of sessions and of the committed database.
use Rattle.std.proofs.Common.{◌≡◌, ℕ, zero, suc, ◌+◌, ◌-◌, ◌≤◌, Bool, true, false, ◌≢◌, inl, inr, List, [], ◌∷◌, ◌++◌, map, length, replicate, get_or, refl, sym, ap, subst, ◌∙◌, arith}
use Rattle.std.specs.Prelude.{slice_get, Option, Some, None, if◌then◌else◌, ◌==◌, ◌⊎◌}
use Rattle.std.specs.FinMap as map_of
use Rattle.std.specs.List.{cons_option}
use Rattle.std.proofs.Math.ListN.{set}
use Rattle.std.proofs.lemmas.Bool.{eqb-true, eq-eqb}
use Rattle.std.proofs.lemmas.List.{map-append, length-replicate, length-set}
use Rattle.std.proofs.lemmas.Option.{slice_get_read}
use Rattle.dw_model.specs.declared.answers.Answer.{Answer as Reply}
use Rattle.dw_model.specs.declared.answers.Plain.TheVariants.{Done}
use Rattle.dw_model.specs.declared.answers.Word.{Word}
use Rattle.dw_model.specs.declared.changes.Change.{Change}
use Rattle.dw_model.specs.declared.statements.Statement.{Statement}
use Rattle.dw_model.specs.Alone.{alone, change_of, next_of}
use Rattle.dw_model.specs.Databases.{Tables}
use Rattle.dw_model.specs.Files.{Files}
use Rattle.dw_journal.specs.declared.Event.{Event}
use Rattle.dw_journal.specs.declared.Event.TheVariants.{Begin, Pass, Wait, Opened, Answer}
use Rattle.dw_journal.specs.declared.Route.{Route}
use Rattle.dw_journal.specs.declared.Shape.{Shape}
use Rattle.dw_journal.specs.declared.World.{World}
use Rattle.dw_journal.specs.Worlds.{session_count, statement_at}
use Rattle.dw_journal.specs.History.{History, with_event, session_of, is_of}
use Rattle.dw_journal.specs.Transactions.{Transaction, transaction_of, transaction_after, opened_in, committed, commits, statement_with, statements_in, answered_statements}
use Rattle.dw_journal.specs.Contents.{contents, contents_at, view, view_after, changes_of}
use Rattle.dw_journal.proofs.AloneLemmas.{next_of-done}
use Rattle.dw_journal.proofs.Stand.{commits-event, contents-event, state_newest}
use Rattle.dw_journal.proofs.TakenObjects.{answered_statements-more}
use Rattle.dw_commit.specs.declared.views.View.{View}
use Rattle.dw_commit.specs.Views.{IsViewOf}
use Rattle.dw_commit.proofs.ViewLemmas.{statements_in-answered, IsViewOf-answered}
use Rattle.dw_engine.specs.EngineInvariant.{Sees, HasView, HaveNoVacuum, EngineInvariant}

-- any event leaves the view of an open transaction
HasView-event : (history : History) (event : Event) (session : ℕ) (transaction : Option Transaction) (view : Option View)
    → HasView history session transaction view → HasView (with_event history event) session transaction view
HasView-event history event session None None has = tt
HasView-event history event session None (Some view) has = has
HasView-event history event session (Some transaction) None has = has
HasView-event history event session (Some transaction) (Some view) has = record {
  snapshot = omega (arith, has.snapshot, commits-event event history.events);
  seen = subst (λ (start : Tables). IsViewOf history.world.files (statements_in history.world session transaction.answered) start view)
      (sym (contents-event history.world event history.events transaction.snapshot has.snapshot)) has.seen;
}

-- what stands at a place once one place is set
set_cases : {A : Type 0} (items : List A) (place p : ℕ) (item found : A) → slice_get (set items place item) p ≡ Some found
    → ((p ≡ place) × (found ≡ item)) ⊎ ((p ≢ place) × (slice_get items p ≡ Some found))
set_cases [] place p item found is = cc
set_cases (x ∷ items) zero zero item found is = inl (refl, cc)
set_cases (x ∷ items) zero (suc p) item found is = inr (omega arith, is)
set_cases (x ∷ items) (suc place) zero item found is = inr (omega arith, is)
set_cases (x ∷ items) (suc place) (suc p) item found is =
    elim (set_cases items place p item found is) [
      | inl here ↦ inl (ap suc here.0, here.1)
      | inr there ↦ inr (omega (arith, there.0), there.1)
    ]

is_self : (session : ℕ) → (session == session) ≡ true
is_self session = eq-eqb session session refl

is_other_by : (a b : ℕ) (same : Bool) → (a == b) ≡ same → a ≢ b → same ≡ false
is_other_by a b true is differ = absurd (differ (eqb-true a b is))
is_other_by a b false is differ = refl

transaction_of-other : (event : Event) (older : List Event) (session other : ℕ) → session_of event ≡ Some session → session ≢ other
    → transaction_of other (event ∷ older) ≡ transaction_of other older
transaction_of-other event older session other is differ =
    let no : is_of other event ≡ false = rw is (is_other_by session other (session == other) refl differ) in
    rw no refl

-- there is none where no transaction is open, and else it is the transaction's
pub none_by : (history : History) (session : ℕ) (transaction : Option Transaction) → HasView history session transaction None → transaction ≡ None
none_by history session None has = refl
none_by history session (Some transaction) has = absurd has

pub some_by : (history : History) (session : ℕ) (transaction : Option Transaction) (seen : View) → HasView history session transaction (Some seen)
    → (t : Transaction) × (transaction ≡ Some t) × Sees history session t seen
some_by history session None seen has = absurd has
some_by history session (Some transaction) seen has = (transaction, refl, has)

-- what a session sees is its view, or the newest database
pub seen_view : (history : History) (session : ℕ) (seen : View) → HasView history session (transaction_of session history.events) (Some seen)
    → seen.database ≡ view history session
seen_view history session seen has =
    let one = some_by history session (transaction_of session history.events) seen has in
    rw one.1 one.2.seen.database

pub seen_newest : (history : History) (session : ℕ) (newest : Tables) → HasView history session (transaction_of session history.events) None
    → newest ≡ contents history → newest ≡ view history session
seen_newest history session newest has is = rw (none_by history session (transaction_of session history.events) has) is

-- a transaction's first statement is opened: it sees what is committed
pub HasView-opened : (history : History) (session k snapshot : ℕ) (route : Route) (seen : View) → transaction_of session history.events ≡ None
    → snapshot ≡ commits history.events → seen.database ≡ contents history → seen.changes ≡ []
    → HasView (with_event history (Opened session k snapshot route)) session (transaction_of session (Opened session k snapshot route ∷ history.events)) (Some seen)
HasView-opened history session k snapshot route seen none all database changes =
    rw (is_self session, none, all) (record {
      snapshot = omega arith;
      seen = record { database = database ∙ sym (state_newest history.world (committed history.events) (commits history.events) (omega arith)); changes = changes };
    })

-- the open statement is answered
pub HasView-answered : (history : History) (session k : ℕ) (answer : Reply) (statement : Statement) (seen next : View)
    → statement_at history.world session k ≡ Some statement
    → HasView history session (transaction_of session history.events) (Some seen) → alone history.world.files statement seen.database ≡ Done answer next.database
    → next.changes ≡ seen.changes ++ change_of history.world.files statement seen.database ∷ []
    → HasView (with_event history (Answer session k answer)) session (transaction_of session (Answer session k answer ∷ history.events)) (Some next)
HasView-answered history session k answer statement seen next given has is_done grown =
    let one = some_by history session (transaction_of session history.events) seen has in
    rw (is_self session, one.1) (record {
      snapshot = one.2.snapshot;
      seen = subst (λ (statements : List Statement). IsViewOf history.world.files statements (contents_at history.world history.events one.0.snapshot) next)
          (sym (statements_in-answered history.world session k answer statement one.0.answered given))
          (IsViewOf-answered history.world.files _ _ statement answer seen next one.2.seen is_done grown);
    })

-- events that touch no transaction
same_both : (b : Bool) (transaction : Option Transaction) → (if b then transaction else transaction) ≡ transaction
same_both true transaction = refl
same_both false transaction = refl

pub transaction_of-begin : (session k : ℕ) (older : List Event) (other : ℕ) → transaction_of other (Begin session k ∷ older) ≡ transaction_of other older
transaction_of-begin session k older other = same_both (session == other) (transaction_of other older)

pub transaction_of-pass : (session k : ℕ) (word : Word) (older : List Event) (other : ℕ) → transaction_of other (Pass session k word ∷ older) ≡ transaction_of other older
transaction_of-pass session k word older other = same_both (session == other) (transaction_of other older)

pub transaction_of-wait : (session k : ℕ) (holders : List ℕ) (older : List Event) (other : ℕ) → transaction_of other (Wait session k holders ∷ older) ≡ transaction_of other older
transaction_of-wait session k holders older other = same_both (session == other) (transaction_of other older)

-- a further statement of a transaction is opened
opened_further : (b : Bool) (snapshot session other : ℕ) (older : List Event) (transaction : Transaction) → (b ≡ true → session ≡ other)
    → transaction_of session older ≡ Some transaction
    → (if b then opened_in snapshot (transaction_of other older) else transaction_of other older) ≡ transaction_of other older
opened_further false snapshot session other older transaction same is = refl
opened_further true snapshot session other older transaction same is =
    let is_open : transaction_of other older ≡ Some transaction = subst (λ (s : ℕ). transaction_of s older ≡ Some transaction) (same refl) is in
    rw is_open refl

pub transaction_of-opened : (session k snapshot : ℕ) (route : Route) (older : List Event) (transaction : Transaction) (other : ℕ)
    → transaction_of session older ≡ Some transaction → transaction_of other (Opened session k snapshot route ∷ older) ≡ transaction_of other older
transaction_of-opened session k snapshot route older transaction other is =
    opened_further (session == other) snapshot session other older transaction (eqb-true session other) is

module _ (history : History) (database : Tables) (views : List (Option View)) (invariant : EngineInvariant history database views) where
  -- the view of a session, at its place
  pub HasView-at : (session place : ℕ) (seen : Option View) → 1 ≤ session → place ≡ session - 1 → slice_get views place ≡ Some seen
      → HasView history session (transaction_of session history.events) seen
  HasView-at session place seen some is at =
      let same : place + 1 ≡ session = omega (arith, is) in
      subst (λ (s : ℕ). HasView history s (transaction_of s history.events) seen) same (invariant.each place seen at)

  pub within : (session place : ℕ) → 1 ≤ session → session ≤ session_count history.world → place ≡ session - 1 → suc place ≤ length views
  within session place some is_session is = omega (arith, invariant.as_many, some, is_session, is)

  pub HasView-read : (session place : ℕ) (seen : Option View) → 1 ≤ session → session ≤ session_count history.world → place ≡ session - 1
      → seen ≡ get_or views place seen → HasView history session (transaction_of session history.events) seen
  HasView-read session place seen some is_session is at =
      HasView-at session place seen some is (slice_get_read views (length views) place seen refl (within session place some is_session is) at)

  -- an event of a session, which now has this view
  pub EngineInvariant-event : (session place : ℕ) (event : Event) (after : History) (next : Tables) (view : Option View) → 1 ≤ session → place ≡ session - 1
      → session_of event ≡ Some session → after ≡ with_event history event → next ≡ contents (with_event history event)
      → HasView (with_event history event) session (transaction_of session (event ∷ history.events)) view
      → EngineInvariant after next (set views place view)
  EngineInvariant-event session place event after next view some at is now newest has =
      let same : session ≡ place + 1 = omega (arith, some, at) in
      let here : HasView (with_event history event) (place + 1) (transaction_of (place + 1) (event ∷ history.events)) view =
      subst (λ (s : ℕ). HasView (with_event history event) s (transaction_of s (event ∷ history.events)) view) same has in
      subst (λ (h : History). EngineInvariant h next (set views place view)) (sym now) (record {
        newest = newest;
        as_many = length-set views place view ∙ invariant.as_many;
        no_vacuum = invariant.no_vacuum;
        each = λ p found stands. elim (set_cases views place p view found stands) [
          | inl one ↦ subst (λ (q : ℕ). HasView (with_event history event) (q + 1) (transaction_of (q + 1) (event ∷ history.events)) found) (sym one.0)
              (subst (λ (v : Option View). HasView (with_event history event) (place + 1) (transaction_of (place + 1) (event ∷ history.events)) v) (sym one.1) here)
          | inr other ↦ subst (λ (t : Option Transaction). HasView (with_event history event) (p + 1) t found)
              (sym (transaction_of-other event history.events (place + 1) (p + 1) (is ∙ ap Some same) (omega (arith, other.0))))
              (HasView-event history event (p + 1) (transaction_of (p + 1) history.events) found (invariant.each p found other.1))
        ];
      })

  -- an event of a session that ends its transaction, if it had one
  pub EngineInvariant-ended : (session place : ℕ) (event : Event) (after : History) (next : Tables) → 1 ≤ session → place ≡ session - 1
      → session_of event ≡ Some session → after ≡ with_event history event → next ≡ contents (with_event history event)
      → transaction_after event (transaction_of session history.events) ≡ None
      → EngineInvariant after next (set views place None)
  EngineInvariant-ended session place event after next some at is now newest ends =
      let self : is_of session event ≡ true = rw is (is_self session) in
      EngineInvariant-event session place event after next None some at is now newest (rw (self, ends) tt)

  -- an event that is of no transaction and commits nothing
  pub EngineInvariant-kept : (event : Event) (after : History) → after ≡ with_event history event → contents (with_event history event) ≡ contents history
      → ((session : ℕ) → transaction_of session (event ∷ history.events) ≡ transaction_of session history.events)
      → EngineInvariant after database views
  EngineInvariant-kept event after now same none =
      subst (λ (h : History). EngineInvariant h database views) (sym now) (record {
        newest = invariant.newest ∙ sym same;
        as_many = invariant.as_many;
        no_vacuum = invariant.no_vacuum;
        each = λ p found at. subst (λ (t : Option Transaction). HasView (with_event history event) (p + 1) t found) (sym (none (p + 1)))
            (HasView-event history event (p + 1) (transaction_of (p + 1) history.events) found (invariant.each p found at));
      })

none_at : (count place : ℕ) (view : Option View) → slice_get (replicate count None) place ≡ Some view → view ≡ None
none_at zero place view is = cc
none_at (suc count) zero view is = cc
none_at (suc count) (suc place) view is = none_at count place view is

-- an engine on which nothing has happened
pub EngineInvariant-new : (history : History) (shape : Shape) (world : World) (database : Tables) (views : List (Option View)) (count : ℕ)
    → history ≡ record { shape = shape; world = world; events = [] } → database ≡ map_of.empty → views ≡ replicate count None
    → count ≡ session_count world → HaveNoVacuum world → EngineInvariant history database views
EngineInvariant-new history shape world database views count is empty none all no_vacuum =
    let start : History = record { shape = shape; world = world; events = [] } in
    subst (λ (h : History). EngineInvariant h database views) (sym is) (record {
      newest = empty;
      as_many = ap (λ (vs : List (Option View)). length vs) none ∙ length-replicate count None ∙ all;
      each = λ place view at.
          let is_none : view ≡ None = none_at count place view (ap (λ (vs : List (Option View)). slice_get vs place) (sym none) ∙ at) in
          subst (λ (v : Option View). HasView start (place + 1) None v) (sym is_none) tt;
      no_vacuum = no_vacuum;
    })
