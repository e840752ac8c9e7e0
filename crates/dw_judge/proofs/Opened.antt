-- What is kept tells what a session sees, and where a statement is worked on.
use Rattle.std.proofs.Common.{◌≡◌, ℕ, zero, suc, ◌+◌, ◌-◌, ◌<◌, ◌≤◌, Bool, true, false, List, [], ◌∷◌, cond, length, drop, not, refl, sym, ap, ◌∙◌, arith}
use Rattle.std.specs.Prelude.{Option, Some, None, ◌&&◌, nat_eq, nat_le, nat_lt, option_map, slice_get, unwrap_or, is_some, if◌then◌else◌}
use Rattle.std.specs.Bool.{Decides}
use Rattle.std.specs.List.{count_by, find, fold, range_with_len}
use Rattle.std.proofs.lemmas.Bool.{false≢true}
use Rattle.std.proofs.lemmas.Option.{slice_get_past}
use Rattle.dw_model.specs.declared.refusals.Refusal.{Refusal}
use Rattle.dw_model.specs.declared.statements.Statement.{Statement}
use Rattle.dw_model.specs.Bound.{bound_refusal}
use Rattle.dw_model.specs.Databases.{Tables, def_of}
use Rattle.dw_journal.specs.declared.Event.{Event}
use Rattle.dw_journal.specs.declared.Route.{Route}
use Rattle.dw_journal.specs.declared.Route.TheVariants.{Main, Cluster}
use Rattle.dw_journal.specs.declared.Taken.{Taken}
use Rattle.dw_journal.specs.Worlds.{session_count}
use Rattle.dw_journal.specs.History.{History, newest_event}
use Rattle.dw_journal.specs.Transactions.{Transaction, transaction_of, written_in, commits}
use Rattle.dw_journal.specs.Contents.{contents, view, view_in}
use Rattle.dw_journal.specs.Routes.{can_take, cluster_or_main, has_written_none, is_open_on, is_select, may_leave, open_on, refreshed, route_of, shows}
use Rattle.dw_journal.specs.Legal.{IsLegalOpened, blockers_of, snapshot_due, snapshot_in_or}
use Rattle.dw_judge.specs.declared.sessions.OpenOne.{OpenOne}
use Rattle.dw_judge.specs.declared.sessions.Session.{Session}
use Rattle.dw_judge.specs.declared.summaries.Summary.{Summary}
use Rattle.dw_judge.specs.Judging.{leaves_kept, route_kept, seen_in, snapshot_due_in, takes_kept, written_none_in}
use Rattle.dw_judge.specs.Readings.{is_kept_open_on}
use Rattle.dw_judge.specs.Summaries.{HasOpen, IsKept, StandsFor}
use Rattle.dw_judge.proofs.Happening.{commits_certified}
use Rattle.dw_judge.proofs.Judged.{refuted, taken_is}

-- ---- what a session sees
seen_by : (history : History) (session : ℕ) (transaction : Option Transaction) (kept : Option OpenOne) (database : Tables) → HasOpen history session transaction kept
    → database ≡ contents history → seen_in database kept ≡ view_in history session transaction
seen_by history session None None database has is = is
seen_by history session None (Some kept) database has is = absurd has
seen_by history session (Some transaction) None database has is = absurd has
seen_by history session (Some transaction) (Some kept) database has is = has.seen.database

snapshot_by : (history : History) (session : ℕ) (transaction : Option Transaction) (kept : Option OpenOne) (count : ℕ) → HasOpen history session transaction kept
    → count ≡ commits history.events → snapshot_due_in count kept ≡ snapshot_in_or (commits history.events) transaction
snapshot_by history session None None count has is = is
snapshot_by history session None (Some kept) count has is = absurd has
snapshot_by history session (Some transaction) None count has is = absurd has
snapshot_by history session (Some transaction) (Some kept) count has is = ap (λ (taken : Taken). taken.snapshot) has.taken

-- ---- how many statements are open on a route
fold_mirrored : {X : Type 0} (p : X → Bool) (g : ℕ → Bool) (xs : List X) (a so_far : ℕ) → ((i : ℕ) (x : X) → slice_get xs i ≡ Some x → p x ≡ g (a + i))
    → fold (λ (n : ℕ) (x : X). n + cond (p x) 1 0) so_far xs ≡ fold (λ (n m : ℕ). n + cond (g m) 1 0) so_far (range_with_len a (length xs))
fold_mirrored p g [] a so_far each = refl
fold_mirrored {X} p g (x ∷ xs) a so_far each =
    let first : p x ≡ g a = each 0 x refl ∙ ap g (omega arith) in
    ap (λ (b : Bool). fold (λ (n : ℕ) (y : X). n + cond (p y) 1 0) (so_far + cond b 1 0) xs) first
    ∙ fold_mirrored p g xs (a + 1) (so_far + cond (g a) 1 0) (λ i y is. each (suc i) y is ∙ ap g (omega arith))

count_mirrored : {X : Type 0} (p : X → Bool) (g : ℕ → Bool) (xs : List X) (a : ℕ) → ((i : ℕ) (x : X) → slice_get xs i ≡ Some x → p x ≡ g (a + i))
    → count_by p xs ≡ count_by g (range_with_len a (length xs))
count_mirrored p g xs a each = fold_mirrored p g xs a 0 each

find_same : (p q : ℕ → Bool) → ((n : ℕ) → p n ≡ q n) → (ns : List ℕ) → find p ns ≡ find q ns
find_same p q same [] = refl
find_same p q same (n ∷ ns) = rw (same n, find_same p q same ns) refl

open_by : (events : List Event) (history : History) (sessions : List Session) → length sessions ≡ suc (session_count history.world)
    → ((session : ℕ) (kept : Session) → slice_get sessions session ≡ Some kept → IsKept events history session kept)
    → (route : Route) → count_by (is_kept_open_on events route) (drop 1 sessions) ≡ open_on history route
open_by events history [] number each route = absurd (omega (arith, number))
open_by events history (background ∷ sessions) number each route =
    let all : length sessions ≡ session_count history.world = omega (arith, number) in
    count_mirrored (is_kept_open_on events route) (λ (session : ℕ). is_open_on route (newest_event session history.events)) sessions 1
    (λ i kept is. ap (is_open_on route) ((each (suc i) kept is).newest) ∙ ap (λ (session : ℕ). is_open_on route (newest_event session history.events)) (omega arith))
    ∙ ap (λ (n : ℕ). count_by (λ (session : ℕ). is_open_on route (newest_event session history.events)) (range_with_len 1 n)) all

written_is : (found : Option OpenOne) → nat_eq (length (written_in (option_map (λ (one : OpenOne). one.taken) found))) 0 ≡ written_none_in found
written_is None = refl
written_is (Some one) = refl

module _ (events : List Event) (history : History) (summary : Summary) (stands : StandsFor events history summary) (session : ℕ) (kept : Session) (is_kept : IsKept events history session kept) where
  pub seen_is : seen_in summary.database kept.transaction ≡ view history session
  seen_is = seen_by history session (transaction_of session history.events) kept.transaction summary.database is_kept.transaction stands.newest

  pub snapshot_due_is : (count : ℕ) → count ≡ length summary.commits.items → snapshot_due_in count kept.transaction ≡ snapshot_due history session
  snapshot_due_is count counted =
      snapshot_by history session (transaction_of session history.events) kept.transaction count is_kept.transaction
      (counted ∙ commits_certified history summary.commits.items stands.certified_are)

  open_is : (route : Route) → count_by (is_kept_open_on events route) (drop 1 summary.sessions.items) ≡ open_on history route
  open_is route = open_by events history summary.sessions.items stands.number stands.each route

  takes_is : (snapshot cluster : ℕ) → takes_kept events (drop 1 summary.sessions.items) summary.stamps.items history.shape.slots snapshot cluster ≡ can_take history snapshot cluster
  takes_is snapshot cluster =
      ap (λ (stamp : Option ℕ). shows stamp snapshot && nat_lt (count_by (is_kept_open_on events (Cluster cluster)) (drop 1 summary.sessions.items)) history.shape.slots) (stands.stamps cluster)
      ∙ ap (λ (n : ℕ). shows (refreshed cluster history.events) snapshot && nat_lt n history.shape.slots) (open_is (Cluster cluster))

  written_kept : has_written_none history session ≡ written_none_in kept.transaction
  written_kept =
      ap (λ (taken : Option Taken). nat_eq (length (written_in taken)) 0) (taken_is events history session kept kept.transaction is_kept refl) ∙ written_is kept.transaction

  leaves_is : (statement : Statement) → leaves_kept statement history.shape.slots (count_by (is_kept_open_on events Main) (drop 1 summary.sessions.items)) kept.transaction ≡ may_leave history session statement
  leaves_is statement =
      ap (λ (n : ℕ). (is_select statement && nat_le history.shape.slots n) && written_none_in kept.transaction) (open_is Main)
      ∙ ap (λ (b : Bool). (is_select statement && nat_le history.shape.slots (open_on history Main)) && b) (sym written_kept)

  pub route_is : (snapshot : ℕ) (statement : Statement)
      → route_kept events history.shape (drop 1 summary.sessions.items) summary.stamps.items kept.transaction snapshot statement ≡ route_of history session snapshot statement
  route_is snapshot statement =
      let clusters = range_with_len 1 history.shape.clusters in
      let takes = takes_kept events (drop 1 summary.sessions.items) summary.stamps.items history.shape.slots snapshot in
      ap (λ (b : Bool). if b then cluster_or_main (find takes clusters) else Main) (leaves_is statement)
      ∙ ap (λ (found : Option ℕ). if may_leave history session statement then cluster_or_main found else Main) (find_same takes (can_take history snapshot) (takes_is snapshot) clusters)

  module _ (statement snapshot : ℕ) (route : Route) (given : Statement) where
    bound_by : (found : Option Refusal) (bound : Bool) → bound ≡ not (is_some found) → bound ≡ true → found ≡ None
    bound_by None bound is so = refl
    bound_by (Some refusal) bound is so = absurd (false≢true (sym is ∙ so))

    none_bound : (found : Option Refusal) (bound : Bool) → bound ≡ not (is_some found) → bound ≡ false → found ≡ None → ⊥
    none_bound None bound is so none = false≢true (sym so ∙ is)
    none_bound (Some refusal) bound is so none = cc

    -- a lock stands in its way
    pub opening_blocked : (free : Bool) → Decides free (blockers_of history session statement ≡ []) → free ≡ false
        → Decides false (IsLegalOpened history session statement snapshot route (Some given))
    opening_blocked free decides is = refuted (λ legal. false≢true (sym is ∙ decides.1 legal.0))

    pub opening_unbound : (bound : Bool) → bound ≡ not (is_some (bound_refusal given (def_of (seen_in summary.database kept.transaction)))) → bound ≡ false
        → Decides false (IsLegalOpened history session statement snapshot route (Some given))
    opening_unbound bound is so =
        refuted (λ legal. none_bound (bound_refusal given (def_of (seen_in summary.database kept.transaction))) bound is so
        (ap (λ (d : Tables). bound_refusal given (def_of d)) seen_is ∙ legal.1))

    pub opening_decided : (free : Bool) → Decides free (blockers_of history session statement ≡ []) → free ≡ true
        → (count due : ℕ) (worked : Route) (bound result : Bool) → bound ≡ not (is_some (bound_refusal given (def_of (seen_in summary.database kept.transaction)))) → bound ≡ true
        → count ≡ length summary.commits.items → due ≡ snapshot_due_in count kept.transaction
        → worked ≡ route_kept events history.shape (drop 1 summary.sessions.items) summary.stamps.items kept.transaction snapshot given
        → Decides result ((snapshot ≡ due) × (route ≡ worked)) → Decides result (IsLegalOpened history session statement snapshot route (Some given))
    opening_decided free decides unblocked count due worked bound result is_bound so counted due_is worked_is tested =
        let none = bound_by (bound_refusal given (def_of (seen_in summary.database kept.transaction))) bound is_bound so in
        let all_due = due_is ∙ snapshot_due_is count counted in
        let all_worked = worked_is ∙ route_is snapshot given in (
          (λ is. let t = tested.0 is in
              (decides.0 unblocked, sym (ap (λ (d : Tables). bound_refusal given (def_of d)) seen_is) ∙ none, t.0 ∙ all_due, t.1 ∙ all_worked)),
          (λ legal. tested.1 (legal.2 ∙ sym all_due, legal.3 ∙ sym all_worked)),
        )

-- ---- the clusters that are gone through
pub past_stamps : (events : List Event) (sessions : List Session) (stamps : List (Option ℕ)) (slots snapshot cluster count : ℕ) → length stamps ≤ cluster
    → find (takes_kept events sessions stamps slots snapshot) (range_with_len cluster count) ≡ None
past_stamps events sessions stamps slots snapshot cluster zero past = refl
past_stamps events sessions stamps slots snapshot cluster (suc count) past =
    let none : takes_kept events sessions stamps slots snapshot cluster ≡ false =
    ap (λ (stamp : Option (Option ℕ)). shows (unwrap_or stamp None) snapshot && nat_lt (count_by (is_kept_open_on events (Cluster cluster)) sessions) slots) (slice_get_past stamps cluster past) in
    rw none (past_stamps events sessions stamps slots snapshot (cluster + 1) count (omega arith))

-- one more number is gone through
range_first : (a n : ℕ) → 0 < n → range_with_len a n ≡ a ∷ range_with_len (a + 1) (n - 1)
range_first a zero some = absurd (omega arith)
range_first a (suc n) some = ap (λ (m : ℕ). a ∷ range_with_len (a + 1) m) (omega arith)

pub find_next : (p : ℕ → Bool) (before count : ℕ) → before < count → p (before + 1) ≡ false
    → find p (range_with_len (before + 1) (count - before)) ≡ find p (range_with_len (before + 1 + 1) (count - (before + 1)))
find_next p before count within fails =
    ap (find p) (range_first (before + 1) (count - before) (omega arith)) ∙ rw fails (ap (λ (m : ℕ). find p (range_with_len (before + 1 + 1) m)) (omega arith))

pub find_here : (p : ℕ → Bool) (before count : ℕ) → before < count → p (before + 1) ≡ true
    → find p (range_with_len (before + 1) (count - before)) ≡ Some (before + 1)
find_here p before count within passes =
    ap (find p) (range_first (before + 1) (count - before) (omega arith)) ∙ rw passes refl
