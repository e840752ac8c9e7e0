-- What a legal journal says of its transactions: what each saw, its watermarks, and that its statements gave its answers on
-- what it saw.
use Rattle.std.proofs.Common.{◌≡◌, ℕ, ◌+◌, ◌<◌, ◌≤◌, Bool, true, false, cond, List, [], ◌∷◌, ◌++◌, length, map, refl, sym, ap, subst, ◌∙◌, arith}
use Rattle.std.specs.Prelude.{Option, Some, None, ◌==◌, option_map}
use Rattle.std.specs.List.{cons_option}
use Rattle.std.proofs.lemmas.Bool.Decides.{nat_tests}
use Rattle.dw_model.specs.declared.answers.Answer.{Answer as Reply}
use Rattle.dw_model.specs.declared.answers.Plain.TheVariants.{Done}
use Rattle.dw_model.specs.declared.statements.Statement.{Statement}
use Rattle.dw_model.specs.Databases.{Tables}
use Rattle.dw_model.specs.Files.{Files}
use Rattle.dw_model.specs.Alone.{alone, next_of}
use Rattle.dw_journal.specs.declared.Event.{Event}
use Rattle.dw_journal.specs.declared.Event.TheVariants.{Begin, Pass, Wait, Opened, Answer, Commit, Violation, Refuse, Rollback, VacuumBegin, VacuumSlice, VacuumEnd, Refresh, End}
use Rattle.dw_journal.specs.declared.Route.{Route}
use Rattle.dw_journal.specs.declared.Shape.{Shape}
use Rattle.dw_journal.specs.declared.Taken.{Taken}
use Rattle.dw_journal.specs.declared.World.{World}
use Rattle.dw_journal.specs.Worlds.{statement_at}
use Rattle.dw_journal.specs.History.{History, is_of}
use Rattle.dw_journal.specs.Transactions.{Transaction, transaction_of, transaction_after, opened_in, answered_in, opened_statements, CommittedTransaction, committed, committed_as, commits, answered_statements, statement_with, statements_in, snapshot_in, taken_by, taken_over}
use Rattle.dw_journal.specs.Follows.{EachFollows}
use Rattle.dw_journal.specs.Contents.{contents_at, states, state_at, view, view_in, view_after}
use Rattle.dw_journal.specs.Watermarks.{low_watermark, high_watermark}
use Rattle.dw_journal.specs.Legal.{EachIsLegal, IsLegalAfter, IsLegalAnswer, IsLegalOpened, IsLegalCommit, certified, certified_as, low_by, high_by, snapshot_in_or}
use Rattle.dw_journal.specs.Serial.{RunsAlone}
use Rattle.dw_journal.proofs.Stand.{commits-event, contents-event}
use Rattle.dw_journal.proofs.OpenedStatements.{AreAnswered, numbers_of, settled_at}
use Rattle.dw_journal.proofs.TakenObjects.{answered_statements-more}
use Rattle.dw_journal.proofs.AloneLemmas.{next_of-done}

-- A session's open transaction saw no commit that isn't there, and its statements gave its answers on what it saw.
abbrev pub RunsOnItsSnapshot : World → List Event → ℕ → Option Transaction → Type 0
RunsOnItsSnapshot world events session None = Unit {0}
RunsOnItsSnapshot world events session (Some t) =
    (t.snapshot ≤ commits events)
    × RunsAlone world.files (answered_statements world session t.answered) (contents_at world events t.snapshot) (view_after world.files (contents_at world events t.snapshot) (statements_in world session t.answered))

-- Each committed transaction has its place as its stamp, and its watermarks over the older ones. It saw no commit but theirs,
-- its statements gave its answers on what it saw, and all that were opened were answered.
abbrev pub AreCommitted : World → List CommittedTransaction → Type 0
AreCommitted world [] = Unit {0}
AreCommitted world (x ∷ older) =
    (x.stamp ≡ length older + 1) × (x.snapshot ≤ length older)
    × (x.low ≡ low_watermark (taken_by world x) (map (certified_as world) older))
    × (high_watermark (taken_by world x) (map (certified_as world) older) < x.low)
    × RunsAlone world.files (answered_statements world x.session x.answered) (state_at (states world older) x.snapshot) (view_after world.files (state_at (states world older) x.snapshot) (statements_in world x.session x.answered))
    × (x.opened ≡ numbers_of x.answered)
    × AreCommitted world older

-- one more event leaves what was said of an open transaction
kept : (world : World) (event : Event) (older : List Event) (session : ℕ) (t : Option Transaction) → RunsOnItsSnapshot world older session t → RunsOnItsSnapshot world (event ∷ older) session t
kept world event older session None runs = tt
kept world event older session (Some t) runs =
    let same = contents-event world event older t.snapshot runs.0 in (
      omega (arith, runs.0, commits-event event older),
      subst (λ (start : Tables). RunsAlone world.files (answered_statements world session t.answered) start (view_after world.files start (statements_in world session t.answered))) (sym same) runs.1,
    )

opened : (world : World) (event : Event) (older : List Event) (session snapshot : ℕ) (t : Option Transaction) → RunsOnItsSnapshot world older session t
    → snapshot ≡ snapshot_in_or (commits older) t → RunsOnItsSnapshot world (event ∷ older) session (opened_in snapshot t)
opened world event older session snapshot None runs seen = (omega (arith, seen, commits-event event older), refl)
opened world event older session snapshot (Some t) runs seen = kept world event older session (Some t) runs

-- a run goes on by one statement
runs-more : (files : Files) (answered : List (Statement × Reply)) (start mid next : Tables) (statement : Statement) (answer : Reply) → RunsAlone files answered start mid
    → alone files statement mid ≡ Done answer next → RunsAlone files (answered ++ (statement, answer) ∷ []) start next
runs-more files [] start mid next statement answer runs done = (next, (subst (λ (tables : Tables). alone files statement tables ≡ Done answer next) runs done, refl))
runs-more files (first ∷ rest) start mid next statement answer runs done = (runs.0, (runs.1.0, runs-more files rest runs.0 mid next statement answer runs.1.1 done))

view-more : (files : Files) (statements : List Statement) (start : Tables) (statement : Statement)
    → view_after files start (statements ++ statement ∷ []) ≡ next_of files statement (view_after files start statements)
view-more files [] start statement = refl
view-more files (first ∷ rest) start statement = view-more files rest (next_of files first start) statement

map-more : {X Y : Type 0} (f : X → Y) (xs : List X) (x : X) → map f (xs ++ x ∷ []) ≡ map f xs ++ f x ∷ []
map-more f [] x = refl
map-more f (first ∷ rest) x = ap (λ ys. f first ∷ ys) (map-more f rest x)

module _ (world : World) (session k : ℕ) (answer : Reply) (statement : Statement) (here : statement_at world session k ≡ Some statement) where
  answered-more : (answered : List (ℕ × Reply)) → answered_statements world session ((k, answer) ∷ answered) ≡ answered_statements world session answered ++ (statement, answer) ∷ []
  answered-more answered =
      let last : statement_with (statement_at world session k) answer ≡ Some (statement, answer) = rw here refl in
      answered_statements-more world session k answer answered
      ∙ ap (λ found. answered_statements world session answered ++ cons_option found []) last

  statements-more : (answered : List (ℕ × Reply)) → statements_in world session ((k, answer) ∷ answered) ≡ statements_in world session answered ++ statement ∷ []
  statements-more answered =
      ap (map (λ (pair : Statement × Reply). pair.0)) (answered-more answered)
      ∙ map-more (λ (pair : Statement × Reply). pair.0) (answered_statements world session answered) (statement, answer)

  runs-answered : (start next : Tables) (answered : List (ℕ × Reply))
      → RunsAlone world.files (answered_statements world session answered) start (view_after world.files start (statements_in world session answered))
      → alone world.files statement (view_after world.files start (statements_in world session answered)) ≡ Done answer next
      → RunsAlone world.files (answered_statements world session ((k, answer) ∷ answered)) start (view_after world.files start (statements_in world session ((k, answer) ∷ answered)))
  runs-answered start next answered runs done =
      let all = runs-more world.files (answered_statements world session answered) start _ next statement answer runs done in
      let left : next_of world.files statement (view_after world.files start (statements_in world session answered)) ≡ next =
      next_of-done world.files statement (view_after world.files start (statements_in world session answered)) next answer done in
      let last : next ≡ view_after world.files start (statements_in world session ((k, answer) ∷ answered)) =
      sym left ∙ sym (view-more world.files (statements_in world session answered) start statement) ∙ ap (view_after world.files start) (sym (statements-more answered)) in
      subst (λ (list : List (Statement × Reply)). RunsAlone world.files list start (view_after world.files start (statements_in world session ((k, answer) ∷ answered)))) (sym (answered-more answered))
      (subst (RunsAlone world.files (answered_statements world session answered ++ (statement, answer) ∷ []) start) last all)

-- a statement is answered
answered_by : (shape : Shape) (world : World) (older : List Event) (session k : ℕ) (answer : Reply) (given : Option Statement) → statement_at world session k ≡ given
    → (t : Option Transaction) → transaction_of session older ≡ t → RunsOnItsSnapshot world older session t
    → IsLegalAnswer world.files given (view (record { shape = shape; world = world; events = older }) session) answer
    → RunsOnItsSnapshot world older session (answered_in k answer t)
answered_by shape world older session k answer None here t is runs legal = absurd legal
answered_by shape world older session k answer (Some statement) here None is runs legal = tt
answered_by shape world older session k answer (Some statement) here (Some t) is runs legal =
    let start = contents_at world older t.snapshot in
    let at : History = record { shape = shape; world = world; events = older } in
    let seen : view at session ≡ view_after world.files start (statements_in world session t.answered) = ap (view_in at session) is in
    let done = subst (λ (tables : Tables). alone world.files statement tables ≡ Done answer legal.0) seen legal.1 in
    (runs.0, runs-answered world session k answer statement here start legal.0 t.answered runs.1 done)

opened_by : (older : History) (session k snapshot : ℕ) (route : Route) (given : Option Statement)
    → IsLegalOpened older session k snapshot route given → snapshot ≡ snapshot_in_or (commits older.events) (transaction_of session older.events)
opened_by older session k snapshot route None legal = absurd legal
opened_by older session k snapshot route (Some given) legal = legal.2

same_number : (a b : ℕ) → (a == b) ≡ true → a ≡ b
same_number a b e = grind (arith, nat_tests, e)

module _ (shape : Shape) (world : World) where
  abbrev at : List Event → History
  at events = record { shape = shape; world = world; events = events }

  -- what an event of its session makes of a transaction
  own_event : (event : Event) (older : List Event) (session : ℕ) → is_of session event ≡ true
      → IsLegalAfter (at older) event → RunsOnItsSnapshot world older session (transaction_of session older)
      → RunsOnItsSnapshot world (event ∷ older) session (transaction_after event (transaction_of session older))
  own_event (Begin s st) older session is legal runs = kept world (Begin s st) older session (transaction_of session older) runs
  own_event (Pass s st word) older session is legal runs = kept world (Pass s st word) older session (transaction_of session older) runs
  own_event (Wait s st holders) older session is legal runs = kept world (Wait s st holders) older session (transaction_of session older) runs
  own_event (Opened s st snapshot route) older session is legal runs =
      let same = same_number s session is in
      let seen = opened_by (at older) s st snapshot route (statement_at world s st) legal in
      opened world (Opened s st snapshot route) older session snapshot (transaction_of session older) runs
      (subst (λ (n : ℕ). snapshot ≡ snapshot_in_or (commits older) (transaction_of n older)) same seen)
  own_event (Answer s st answer) older session is legal runs =
      let same = same_number s session is in
      let here = subst (λ (n : ℕ). IsLegalAnswer world.files (statement_at world n st) (view (at older) n) answer) same legal in
      kept world (Answer s st answer) older session (answered_in st answer (transaction_of session older))
      (answered_by shape world older session st answer (statement_at world session st) refl (transaction_of session older) refl runs here)
  own_event (Commit s st stamp low high) older session is legal runs = tt
  own_event (Violation s st low high object) older session is legal runs = tt
  own_event (Refuse s st refusal) older session is legal runs = tt
  own_event (Rollback s st) older session is legal runs = tt
  own_event (VacuumBegin s st table) older session is legal runs = kept world (VacuumBegin s st table) older session (transaction_of session older) runs
  own_event (VacuumSlice s st slice horizon) older session is legal runs = kept world (VacuumSlice s st slice horizon) older session (transaction_of session older) runs
  own_event (VacuumEnd s st) older session is legal runs = kept world (VacuumEnd s st) older session (transaction_of session older) runs
  own_event (Refresh cluster stamp) older session is legal runs = cc
  own_event (End s) older session is legal runs = tt

  any_event : (event : Event) (older : List Event) (session : ℕ) (own : Bool) → is_of session event ≡ own
      → IsLegalAfter (at older) event → RunsOnItsSnapshot world older session (transaction_of session older)
      → RunsOnItsSnapshot world (event ∷ older) session (cond own (transaction_after event (transaction_of session older)) (transaction_of session older))
  any_event event older session true is legal runs = own_event event older session is legal runs
  any_event event older session false is legal runs = kept world event older session (transaction_of session older) runs

  -- the open transactions of a legal journal ran on their snapshots
  pub open_runs : (events : List Event) → EachIsLegal shape world events → (session : ℕ)
      → RunsOnItsSnapshot world events session (transaction_of session events)
  open_runs [] legal session = tt
  open_runs (event ∷ older) legal session =
      any_event event older session (is_of session event) refl legal.0 (open_runs older legal.1 session)

  -- a transaction is committed
  commit_fits : (older : List Event) (session stamp low high : ℕ) (opened : List ℕ) (t : Option Transaction) → opened_statements session older ≡ opened → transaction_of session older ≡ t
      → AreAnswered opened t → RunsOnItsSnapshot world older session t → IsLegalCommit (at older) session stamp low high → AreCommitted world (committed older)
      → AreCommitted world (committed_as session stamp low opened t ∷ committed older)
  commit_fits older session stamp low high opened None is_opened is are runs legal fits =
      let taken : Option Transaction → Option Taken = λ t. option_map (taken_over world session (opened_statements session older)) (snapshot_in t) in
      let none : (low ≡ 0) × (high ≡ 0) = (legal.1 ∙ ap (λ t. low_by (certified (at older)) (taken t)) is, legal.2 ∙ ap (λ t. high_by (certified (at older)) (taken t)) is) in
      absurd (omega (arith, none.0, none.1, legal.3))
  commit_fits older session stamp low high opened (Some t) is_opened is are runs legal fits =
      let taken : List ℕ → Option Transaction → Option Taken = λ o t. option_map (taken_over world session o) (snapshot_in t) in
      let low_is = legal.1 ∙ ap (λ t. low_by (certified (at older)) (taken (opened_statements session older) t)) is ∙ ap (λ o. low_by (certified (at older)) (taken o (Some t))) is_opened in
      let high_is = legal.2 ∙ ap (λ t. high_by (certified (at older)) (taken (opened_statements session older) t)) is ∙ ap (λ o. high_by (certified (at older)) (taken o (Some t))) is_opened in
      (legal.0, runs.0, low_is, subst (λ (h : ℕ). h < low) high_is legal.3, runs.1, are, fits)

  -- so the committed transactions are as they were certified
  pub are_committed : (events : List Event) → EachFollows shape world events → EachIsLegal shape world events → AreCommitted world (committed events)
  are_committed [] each legal = tt
  are_committed (Begin s st ∷ older) each legal = are_committed older each.1 legal.1
  are_committed (Pass s st word ∷ older) each legal = are_committed older each.1 legal.1
  are_committed (Wait s st holders ∷ older) each legal = are_committed older each.1 legal.1
  are_committed (Opened s st snapshot route ∷ older) each legal = are_committed older each.1 legal.1
  are_committed (Answer s st answer ∷ older) each legal = are_committed older each.1 legal.1
  are_committed (Commit s st stamp low high ∷ older) each legal =
      commit_fits older s stamp low high (opened_statements s older) (transaction_of s older) refl refl
      (settled_at shape world older each.1 s (Commit s st stamp low high) refl each.0 refl) (open_runs older legal.1 s) legal.0 (are_committed older each.1 legal.1)
  are_committed (Violation s st low high object ∷ older) each legal = are_committed older each.1 legal.1
  are_committed (Refuse s st refusal ∷ older) each legal = are_committed older each.1 legal.1
  are_committed (Rollback s st ∷ older) each legal = are_committed older each.1 legal.1
  are_committed (VacuumBegin s st table ∷ older) each legal = are_committed older each.1 legal.1
  are_committed (VacuumSlice s st slice horizon ∷ older) each legal = are_committed older each.1 legal.1
  are_committed (VacuumEnd s st ∷ older) each legal = are_committed older each.1 legal.1
  are_committed (Refresh cluster stamp ∷ older) each legal = are_committed older each.1 legal.1
  are_committed (End s ∷ older) each legal = are_committed older each.1 legal.1
