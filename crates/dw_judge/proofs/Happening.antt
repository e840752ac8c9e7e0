-- The summary stands for the history once more, after one more event.
use Rattle.std.proofs.Common.{◌≡◌, ◌≢◌, ℕ, zero, suc, ◌+◌, ◌<◌, Bool, true, false, List, [], ◌∷◌, length, drop, inl, inr, refl, sym, ap, subst, ◌∙◌, arith}
use Rattle.std.specs.Prelude.{Option, Some, None, is_some, ◌⊎◌, option_map, slice_get, reverse, unwrap_or, ◌==◌}
use Rattle.std.specs.List.{cons_option, filter_map, range_with_len}
use Rattle.std.proofs.Math.ListN.{set}
use Rattle.std.proofs.lemmas.Bool.{eqb-true, eq-eqb}
use Rattle.std.proofs.lemmas.List.{length-map, length-set, length-reverse}
use Rattle.dw_model.specs.Databases.{Tables}
use Rattle.dw_journal.specs.declared.Certified.{Certified}
use Rattle.dw_journal.specs.declared.Event.{Event}
use Rattle.dw_journal.specs.declared.Event.TheVariants.{VacuumBegin, VacuumEnd}
use Rattle.dw_journal.specs.declared.Taken.{Taken}
use Rattle.dw_journal.specs.Worlds.{session_count}
use Rattle.dw_journal.specs.History.{History, session_of, is_of, statements_after, with_event}
use Rattle.dw_journal.specs.Blocks.{block_after}
use Rattle.dw_journal.specs.Transactions.{Transaction, transaction_of, commits, horizon, least_of, open_snapshots, snapshot_in, snapshot_of, statements_in}
use Rattle.dw_journal.specs.Vacuums.{swept_after, swept_by}
use Rattle.dw_journal.specs.Legal.{certified}
use Rattle.dw_journal.proofs.Stand.{commits-event, contents-event}
use Rattle.dw_commit.specs.Views.{IsViewOf}
use Rattle.dw_judge.specs.declared.sessions.OpenOne.{OpenOne}
use Rattle.dw_judge.specs.declared.sessions.Session.{Session}
use Rattle.dw_judge.specs.declared.summaries.Summary.{Summary}
use Rattle.dw_judge.specs.Changes.{IsKeptBut, IsReady, session_after}
use Rattle.dw_judge.specs.Readings.{snapshot_kept}
use Rattle.dw_judge.specs.Summaries.{AreHorizons, HasOpen, IsKept, IsOpen, StandsFor, stamp_kept, sweeps_after}

is_self : (session : ℕ) → (session == session) ≡ true
is_self session = eq-eqb session session refl

is_other_by : (a b : ℕ) (same : Bool) → (a == b) ≡ same → a ≢ b → same ≡ false
is_other_by a b true is differ = absurd (differ (eqb-true a b is))
is_other_by a b false is differ = refl

pub own_event : (event : Event) (session : ℕ) → session_of event ≡ Some session → is_of session event ≡ true
own_event event session own = rw own (is_self session)

pub other_event : (event : Event) (session other : ℕ) → session_of event ≡ Some session → session ≢ other → is_of other event ≡ false
other_event event session other own differ = rw own (is_other_by session other (session == other) refl differ)

-- what stands at a place once one place is set
pub set_cases : {A : Type 0} (items : List A) (place p : ℕ) (item found : A) → slice_get (set items place item) p ≡ Some found
    → ((p ≡ place) × (found ≡ item)) ⊎ ((p ≢ place) × (slice_get items p ≡ Some found))
set_cases [] place p item found is = cc
set_cases (x ∷ items) zero zero item found is = inl (refl, cc)
set_cases (x ∷ items) zero (suc p) item found is = inr (omega arith, is)
set_cases (x ∷ items) (suc place) zero item found is = inr (omega arith, is)
set_cases (x ∷ items) (suc place) (suc p) item found is =
    elim (set_cases items place p item found is) [
      | inl here ↦ inl (ap suc here.0, here.1)
      | inr there ↦ inr (omega (arith, there.0), there.1)
    ]

-- an event leaves what is open of a session of which it isn't
pub IsOpen-other : (history : History) (event : Event) (session : ℕ) (transaction : Transaction) (kept : OpenOne) → is_of session event ≡ false
    → IsOpen history session transaction kept → IsOpen (with_event history event) session transaction kept
IsOpen-other history event session transaction kept apart is = record {
  snapshot = omega (arith, is.snapshot, commits-event event history.events);
  taken = rw apart is.taken;
  seen = subst (λ (start : Tables). IsViewOf history.world.files (statements_in history.world session transaction.answered) start kept.view)
      (sym (contents-event history.world event history.events transaction.snapshot is.snapshot)) is.seen;
}

HasOpen-other : (history : History) (event : Event) (session : ℕ) (transaction : Option Transaction) (kept : Option OpenOne) → is_of session event ≡ false
    → HasOpen history session transaction kept → HasOpen (with_event history event) session transaction kept
HasOpen-other history event session None None apart has = rw apart has
HasOpen-other history event session None (Some kept) apart has = has
HasOpen-other history event session (Some transaction) None apart has = has
HasOpen-other history event session (Some transaction) (Some kept) apart has = IsOpen-other history event session transaction kept apart has

swept_is : (event : Event) (before : Option (List ℕ)) → sweeps_after event (is_some before) ≡ is_some (swept_after event before)
swept_is (VacuumBegin session statement table) before = refl
swept_is (VacuumEnd session statement) before = refl
swept_is event before = refl

pub IsKept-other : (events : List Event) (history : History) (event : Event) (session : ℕ) (kept : Session) → is_of session event ≡ false
    → IsKept events history session kept → IsKept events (with_event history event) session kept
IsKept-other events history event session kept apart is = record {
  taken = rw apart is.taken;
  block = rw apart is.block;
  newest = rw apart is.newest;
  sweeps = rw apart is.sweeps;
  transaction = rw apart (HasOpen-other history event session (transaction_of session history.events) kept.transaction apart is.transaction);
}

IsKept-own : (events : List Event) (history : History) (event : Event) (session place : ℕ) (transaction : Option OpenOne) (kept : Session)
    → is_of session event ≡ true → slice_get events place ≡ Some event
    → HasOpen (with_event history event) session (transaction_of session (event ∷ history.events)) transaction
    → IsKeptBut events history session kept → IsKept events (with_event history event) session (session_after history.world event place transaction kept)
IsKept-own events history event session place transaction kept mine here has is = record {
  taken = rw mine (ap (statements_after event) is.taken);
  block = rw mine (ap (block_after history.world event) is.block);
  newest = rw mine here;
  sweeps = rw mine (ap (sweeps_after event) is.sweeps ∙ swept_is event (swept_by session history.events));
  transaction = has;
}

-- what each item of a list gives is what the numbers from a on give
pub filter_mirrored : {X Y : Type 0} (f : X → Option Y) (g : ℕ → Option Y) (xs : List X) (a : ℕ)
    → ((i : ℕ) (x : X) → slice_get xs i ≡ Some x → f x ≡ g (a + i)) → filter_map f xs ≡ filter_map g (range_with_len a (length xs))
filter_mirrored f g [] a each = refl
filter_mirrored {X} {Y} f g (x ∷ xs) a each =
    let first : f x ≡ g a = each 0 x refl ∙ ap g (omega arith) in
    let later : filter_map f xs ≡ filter_map g (range_with_len (a + 1) (length xs)) =
    filter_mirrored f g xs (a + 1) (λ i y is. each (suc i) y is ∙ ap g (omega arith)) in
    ap (λ (o : Option Y). cons_option o (filter_map f xs)) first ∙ ap (cons_option (g a)) later

snapshot_is : (history : History) (session : ℕ) (transaction : Option Transaction) (kept : Option OpenOne) → HasOpen history session transaction kept
    → option_map (λ (one : OpenOne). one.taken.snapshot) kept ≡ snapshot_in transaction
snapshot_is history session None None has = refl
snapshot_is history session None (Some kept) has = absurd has
snapshot_is history session (Some transaction) None has = absurd has
snapshot_is history session (Some transaction) (Some kept) has = ap (λ (taken : Taken). Some taken.snapshot) has.taken

pub commits_certified : (history : History) (done : List Certified) → reverse done ≡ certified history → length done ≡ commits history.events
commits_certified history done is =
    sym (length-reverse done) ∙ ap length is ∙ simp length-map

-- the horizon, read off what is kept of the sessions
snapshots_are : (events : List Event) (history : History) (sessions : List Session) (count : ℕ) → length sessions ≡ suc count
    → ((session : ℕ) (kept : Session) → slice_get sessions session ≡ Some kept → IsKept events history session kept)
    → filter_map snapshot_kept (drop 1 sessions) ≡ open_snapshots count history.events
snapshots_are events history [] count number each = absurd (omega (arith, number))
snapshots_are events history (background ∷ sessions) count number each =
    let all : length sessions ≡ count = omega (arith, number) in
    filter_mirrored snapshot_kept (λ (session : ℕ). snapshot_of session history.events) sessions 1
    (λ i kept is. snapshot_is history (suc i) (transaction_of (suc i) history.events) kept.transaction (each (suc i) kept is).transaction
    ∙ ap (λ (session : ℕ). snapshot_of session history.events) (omega arith))
    ∙ ap (λ (n : ℕ). open_snapshots n history.events) all

pub horizon_is : (events : List Event) (history : History) (sessions : List Session) (done : List Certified) (count : ℕ) → length sessions ≡ suc count
    → ((session : ℕ) (kept : Session) → slice_get sessions session ≡ Some kept → IsKept events history session kept)
    → reverse done ≡ certified history
    → unwrap_or (least_of (filter_map snapshot_kept (drop 1 sessions))) (length done) ≡ horizon count history.events
horizon_is events history sessions done count number each certified_are =
    ap (λ (snapshots : List ℕ). unwrap_or (least_of snapshots) (length done)) (snapshots_are events history sessions count number each)
    ∙ ap (unwrap_or (least_of (open_snapshots count history.events))) (commits_certified history done certified_are)

module _ (events : List Event) (history : History) (event : Event) (session place : ℕ) (transaction : Option OpenOne) (summary : Summary)
    (own : session_of event ≡ Some session) (here : slice_get events place ≡ Some event) (within : session < length summary.sessions.items)
    (ready : IsReady events history event session transaction summary) where
  abbrev after : History
  after = with_event history event

  each_after : (kept : Session) → slice_get summary.sessions.items session ≡ Some kept
      → (other : ℕ) (found : Session) → slice_get (set summary.sessions.items session (session_after history.world event place transaction kept)) other ≡ Some found
      → IsKept events after other found
  each_after kept there other found stands =
      elim (set_cases summary.sessions.items session other (session_after history.world event place transaction kept) found stands) [
        | inl one ↦ subst (λ (n : ℕ). IsKept events after n found) (sym one.0)
            (subst (λ (s : Session). IsKept events after session s) (sym one.1)
            (IsKept-own events history event session place transaction kept (own_event event session own) here ready.has_open (ready.own kept there)))
        | inr more ↦ IsKept-other events history event other found (other_event event session other own (λ (is : session ≡ other). more.0 (sym is))) (ready.others other found more.0 more.1)
      ]

  horizons_after : (due : ℕ) → due ≡ horizon (session_count history.world) after.events → AreHorizons after (set summary.horizons.items session due)
  horizons_after due is other found stands =
      elim (set_cases summary.horizons.items session other due found stands) [
        | inl one ↦
            let mine : is_of other event ≡ true = subst (λ (n : ℕ). is_of n event ≡ true) (sym one.0) (own_event event session own) in
            rw mine (one.1 ∙ is)
        | inr more ↦
            let apart = other_event event session other own (λ (is : session ≡ other). more.0 (sym is)) in
            rw apart (ready.horizons other found more.1)
      ]

  pub stands_after : (changed : Summary)
      → ((kept : Session) → slice_get summary.sessions.items session ≡ Some kept
      → changed.sessions.items ≡ set summary.sessions.items session (session_after history.world event place transaction kept))
      → changed.horizons.items ≡ set summary.horizons.items session (unwrap_or (least_of (filter_map snapshot_kept (drop 1 changed.sessions.items))) (length summary.commits.items))
      → changed.commits ≡ summary.commits → changed.database ≡ summary.database → changed.stamps ≡ summary.stamps
      → (kept : Session) → slice_get summary.sessions.items session ≡ Some kept
      → StandsFor events after changed
  stands_after changed put marked commits_are database_is stamps_are kept there =
      let put_is = put kept there in
      let number : length changed.sessions.items ≡ suc (session_count history.world) =
      ap length put_is ∙ length-set summary.sessions.items session (session_after history.world event place transaction kept) ∙ ready.number in
      let each : (other : ℕ) (found : Session) → slice_get changed.sessions.items other ≡ Some found → IsKept events after other found =
      λ other found stands. each_after kept there other found (ap (λ (l : List Session). slice_get l other) (sym put_is) ∙ stands) in
      let due = unwrap_or (least_of (filter_map snapshot_kept (drop 1 changed.sessions.items))) (length summary.commits.items) in
      let horizon_now : due ≡ horizon (session_count history.world) after.events =
      horizon_is events after changed.sessions.items summary.commits.items (session_count history.world) number each ready.certified_are in
      record {
        number = number;
        as_many = ap length marked ∙ length-set summary.horizons.items session due ∙ ready.as_many;
        each = each;
        horizons = subst (AreHorizons after) (sym marked) (horizons_after due horizon_now);
        certified_are = ap (λ c. reverse c.items) commits_are ∙ ready.certified_are;
        newest = database_is ∙ ready.newest;
        stamps = λ cluster. ap (λ s. stamp_kept s.items cluster) stamps_are ∙ ready.stamps cluster;
      }

pub at_place : {X : Type 0} (xs : List X) (i : ℕ) → i < length xs → (x : X) × (slice_get xs i ≡ Some x)
at_place [] i within = absurd (omega arith)
at_place (x ∷ xs) zero within = (x, refl)
at_place (x ∷ xs) (suc i) within = at_place xs i (omega arith)
