-- The summary is ready for an event, where its session's transaction is taken out.
use Rattle.std.proofs.Common.{◌≡◌, ◌≢◌, ℕ, suc, Bool, true, false, List, ◌∷◌, length, inl, inr, refl, sym, ap, subst, ◌∙◌, arith}
use Rattle.std.specs.Prelude.{Option, Some, None, slice_get, reverse, if◌then◌else◌}
use Rattle.std.proofs.Math.ListN.{set}
use Rattle.std.proofs.lemmas.List.{length-set}
use Rattle.dw_model.specs.Databases.{Tables}
use Rattle.dw_journal.specs.declared.Event.{Event}
use Rattle.dw_journal.specs.declared.Event.TheVariants.{Begin, Pass, Wait, Violation, Refuse, Rollback, VacuumBegin, VacuumSlice, VacuumEnd, End}
use Rattle.dw_journal.specs.Worlds.{session_count}
use Rattle.dw_journal.specs.History.{History, session_of, is_of, with_event}
use Rattle.dw_journal.specs.Transactions.{Transaction, transaction_of, opened_statements, statements_in}
use Rattle.dw_journal.specs.Contents.{contents}
use Rattle.dw_journal.specs.Routes.{refreshed}
use Rattle.dw_journal.specs.Legal.{certified}
use Rattle.dw_journal.proofs.Stand.{commits-event, contents-event}
use Rattle.dw_commit.specs.Views.{IsViewOf}
use Rattle.dw_judge.specs.declared.sessions.OpenOne.{OpenOne}
use Rattle.dw_judge.specs.declared.sessions.Session.{Session}
use Rattle.dw_judge.specs.declared.summaries.Summary.{Summary}
use Rattle.dw_judge.specs.Changes.{EndsTransaction, IsKeptBut, IsReady, LeavesTransaction}
use Rattle.dw_judge.specs.Summaries.{AreHorizons, HasOpen, IsKept, IsOpen, StandsFor, stamp_kept}
use Rattle.dw_judge.proofs.Happening.{own_event, set_cases}

but : (events : List Event) (history : History) (session : ℕ) (kept : Session) → IsKept events history session kept → IsKeptBut events history session (record kept { transaction = None })
but events history session kept is = record { taken = is.taken; block = is.block; newest = is.newest; sweeps = is.sweeps }

-- with the transaction of the event's session taken out
module _ (events : List Event) (history : History) (event : Event) (session : ℕ) (summary : Summary) (stands : StandsFor events history summary)
    (kept : Session) (there : slice_get summary.sessions.items session ≡ Some kept) (sessions : List Session)
    (left : sessions ≡ set summary.sessions.items session (record kept { transaction = None })) where
  left_number : length sessions ≡ suc (session_count history.world)
  left_number = ap length left ∙ length-set summary.sessions.items session (record kept { transaction = None }) ∙ stands.number

  left_others : (other : ℕ) (found : Session) → other ≢ session → slice_get sessions other ≡ Some found → IsKept events history other found
  left_others other found apart is =
      elim (set_cases summary.sessions.items session other (record kept { transaction = None }) found (ap (λ (l : List Session). slice_get l other) (sym left) ∙ is)) [
        | inl one ↦ absurd (apart one.0)
        | inr more ↦ stands.each other found more.1
      ]

  left_own : (found : Session) → slice_get sessions session ≡ Some found → IsKeptBut events history session found
  left_own found is =
      elim (set_cases summary.sessions.items session session (record kept { transaction = None }) found (ap (λ (l : List Session). slice_get l session) (sym left) ∙ is)) [
        | inl one ↦ subst (IsKeptBut events history session) (sym one.1) (but events history session kept (stands.each session kept there))
        | inr more ↦ absurd (more.0 refl)
      ]

  pub ready_by : (changed : Summary) (transaction : Option OpenOne) → changed.sessions.items ≡ sessions → changed.horizons ≡ summary.horizons
      → reverse changed.commits.items ≡ certified (with_event history event) → changed.database ≡ contents (with_event history event)
      → changed.stamps ≡ summary.stamps → ((cluster : ℕ) → refreshed cluster (with_event history event).events ≡ refreshed cluster history.events)
      → HasOpen (with_event history event) session (transaction_of session (with_event history event).events) transaction
      → IsReady events history event session transaction changed
  ready_by changed transaction same horizons_are done_are newest stamps_are unrefreshed has = record {
    number = ap length same ∙ left_number;
    as_many = ap (λ h. length h.items) horizons_are ∙ stands.as_many;
    others = λ other found apart is. left_others other found apart (ap (λ (l : List Session). slice_get l other) (sym same) ∙ is);
    own = λ found is. left_own found (ap (λ (l : List Session). slice_get l session) (sym same) ∙ is);
    horizons = subst (λ h. AreHorizons history h.items) (sym horizons_are) stands.horizons;
    certified_are = done_are;
    newest = newest;
    stamps = λ cluster. ap (λ s. stamp_kept s.items cluster) stamps_are ∙ stands.stamps cluster ∙ sym (unrefreshed cluster);
    has_open = has;
  }

-- ---- events that leave the transaction
goes_certified : (history : History) (event : Event) → LeavesTransaction event → certified history ≡ certified (with_event history event)
goes_certified history (Begin session statement) leaves = refl
goes_certified history (Pass session statement word) leaves = refl
goes_certified history (Wait session statement holders) leaves = refl
goes_certified history (VacuumBegin session statement table) leaves = refl
goes_certified history (VacuumSlice session statement slice horizon) leaves = refl
goes_certified history (VacuumEnd session statement) leaves = refl
goes_certified history event leaves = absurd leaves

goes_contents : (history : History) (event : Event) → LeavesTransaction event → contents history ≡ contents (with_event history event)
goes_contents history (Begin session statement) leaves = refl
goes_contents history (Pass session statement word) leaves = refl
goes_contents history (Wait session statement holders) leaves = refl
goes_contents history (VacuumBegin session statement table) leaves = refl
goes_contents history (VacuumSlice session statement slice horizon) leaves = refl
goes_contents history (VacuumEnd session statement) leaves = refl
goes_contents history event leaves = absurd leaves

goes_refreshed : (history : History) (event : Event) → LeavesTransaction event → (cluster : ℕ) → refreshed cluster (with_event history event).events ≡ refreshed cluster history.events
goes_refreshed history (Begin session statement) leaves cluster = refl
goes_refreshed history (Pass session statement word) leaves cluster = refl
goes_refreshed history (Wait session statement holders) leaves cluster = refl
goes_refreshed history (VacuumBegin session statement table) leaves cluster = refl
goes_refreshed history (VacuumSlice session statement slice horizon) leaves cluster = refl
goes_refreshed history (VacuumEnd session statement) leaves cluster = refl
goes_refreshed history event leaves cluster = absurd leaves

same_both : {A : Type 0} (b : Bool) (a : A) → (if b then a else a) ≡ a
same_both true a = refl
same_both false a = refl

goes_transaction : (session : ℕ) (event : Event) (older : List Event) → LeavesTransaction event → transaction_of session (event ∷ older) ≡ transaction_of session older
goes_transaction session (Begin s statement) older leaves = same_both _ (transaction_of session older)
goes_transaction session (Pass s statement word) older leaves = same_both _ (transaction_of session older)
goes_transaction session (Wait s statement holders) older leaves = same_both _ (transaction_of session older)
goes_transaction session (VacuumBegin s statement table) older leaves = same_both _ (transaction_of session older)
goes_transaction session (VacuumSlice s statement slice horizon) older leaves = same_both _ (transaction_of session older)
goes_transaction session (VacuumEnd s statement) older leaves = same_both _ (transaction_of session older)
goes_transaction session event older leaves = absurd leaves

goes_opened : (session : ℕ) (event : Event) (older : List Event) → LeavesTransaction event → opened_statements session (event ∷ older) ≡ opened_statements session older
goes_opened session (Begin s statement) older leaves = same_both _ (opened_statements session older)
goes_opened session (Pass s statement word) older leaves = same_both _ (opened_statements session older)
goes_opened session (Wait s statement holders) older leaves = same_both _ (opened_statements session older)
goes_opened session (VacuumBegin s statement table) older leaves = same_both _ (opened_statements session older)
goes_opened session (VacuumSlice s statement slice horizon) older leaves = same_both _ (opened_statements session older)
goes_opened session (VacuumEnd s statement) older leaves = same_both _ (opened_statements session older)
goes_opened session event older leaves = absurd leaves

-- an event that opens nothing leaves what is open
pub IsOpen-kept : (history : History) (event : Event) (session : ℕ) (transaction : Transaction) (kept : OpenOne)
    → opened_statements session (event ∷ history.events) ≡ opened_statements session history.events
    → IsOpen history session transaction kept → IsOpen (with_event history event) session transaction kept
IsOpen-kept history event session transaction kept same is = record {
  snapshot = omega (arith, is.snapshot, commits-event event history.events);
  taken = rw same is.taken;
  seen = subst (λ (start : Tables). IsViewOf history.world.files (statements_in history.world session transaction.answered) start kept.view)
      (sym (contents-event history.world event history.events transaction.snapshot is.snapshot)) is.seen;
}

pub HasOpen-kept : (history : History) (event : Event) (session : ℕ) (transaction : Option Transaction) (kept : Option OpenOne)
    → opened_statements session (event ∷ history.events) ≡ opened_statements session history.events
    → HasOpen history session transaction kept → HasOpen (with_event history event) session transaction kept
HasOpen-kept history event session None None same has = same ∙ has
HasOpen-kept history event session None (Some kept) same has = has
HasOpen-kept history event session (Some transaction) None same has = has
HasOpen-kept history event session (Some transaction) (Some kept) same has = IsOpen-kept history event session transaction kept same has

pub ready_goes : (events : List Event) (history : History) (event : Event) (session : ℕ) (summary : Summary) → StandsFor events history summary → LeavesTransaction event
    → (kept : Session) → slice_get summary.sessions.items session ≡ Some kept → (changed : Summary)
    → changed.sessions.items ≡ set summary.sessions.items session (record kept { transaction = None })
    → changed.horizons ≡ summary.horizons → changed.commits ≡ summary.commits → changed.database ≡ summary.database → changed.stamps ≡ summary.stamps
    → (transaction : Option OpenOne) → transaction ≡ kept.transaction → IsReady events history event session transaction changed
ready_goes events history event session summary stands leaves kept there changed left horizons_are done_are newest stamps_are transaction is =
    ready_by events history event session summary stands kept there _ left changed transaction refl horizons_are
    (ap (λ c. reverse c.items) done_are ∙ stands.certified_are ∙ goes_certified history event leaves)
    (newest ∙ stands.newest ∙ goes_contents history event leaves) stamps_are (goes_refreshed history event leaves)
    (subst (λ (t : Option Transaction). HasOpen (with_event history event) session t transaction) (sym (goes_transaction session event history.events leaves))
    (subst (λ (o : Option OpenOne). HasOpen (with_event history event) session (transaction_of session history.events) o) (sym is)
    (HasOpen-kept history event session (transaction_of session history.events) kept.transaction (goes_opened session event history.events leaves) (stands.each session kept there).transaction)))

-- ---- events that end the transaction
ends_certified : (history : History) (event : Event) → EndsTransaction event → certified history ≡ certified (with_event history event)
ends_certified history (Violation session statement low high object) ends = refl
ends_certified history (Refuse session statement refusal) ends = refl
ends_certified history (Rollback session statement) ends = refl
ends_certified history (End session) ends = refl
ends_certified history event ends = absurd ends

ends_contents : (history : History) (event : Event) → EndsTransaction event → contents history ≡ contents (with_event history event)
ends_contents history (Violation session statement low high object) ends = refl
ends_contents history (Refuse session statement refusal) ends = refl
ends_contents history (Rollback session statement) ends = refl
ends_contents history (End session) ends = refl
ends_contents history event ends = absurd ends

ends_refreshed : (history : History) (event : Event) → EndsTransaction event → (cluster : ℕ) → refreshed cluster (with_event history event).events ≡ refreshed cluster history.events
ends_refreshed history (Violation session statement low high object) ends cluster = refl
ends_refreshed history (Refuse session statement refusal) ends cluster = refl
ends_refreshed history (Rollback session statement) ends cluster = refl
ends_refreshed history (End session) ends cluster = refl
ends_refreshed history event ends cluster = absurd ends

ends_open : (history : History) (event : Event) (session : ℕ) → EndsTransaction event → is_of session event ≡ true
    → HasOpen (with_event history event) session (transaction_of session (with_event history event).events) None
ends_open history (Violation s statement low high object) session ends mine = rw mine (rw mine refl)
ends_open history (Refuse s statement refusal) session ends mine = rw mine (rw mine refl)
ends_open history (Rollback s statement) session ends mine = rw mine (rw mine refl)
ends_open history (End s) session ends mine = rw mine (rw mine refl)
ends_open history event session ends mine = absurd ends

pub ready_ends : (events : List Event) (history : History) (event : Event) (session : ℕ) (summary : Summary) → StandsFor events history summary → EndsTransaction event
    → session_of event ≡ Some session → (kept : Session) → slice_get summary.sessions.items session ≡ Some kept → (changed : Summary)
    → changed.sessions.items ≡ set summary.sessions.items session (record kept { transaction = None })
    → changed.horizons ≡ summary.horizons → changed.commits ≡ summary.commits → changed.database ≡ summary.database → changed.stamps ≡ summary.stamps
    → IsReady events history event session None changed
ready_ends events history event session summary stands ends own kept there changed left horizons_are done_are newest stamps_are =
    ready_by events history event session summary stands kept there _ left changed None refl horizons_are
    (ap (λ c. reverse c.items) done_are ∙ stands.certified_are ∙ ends_certified history event ends)
    (newest ∙ stands.newest ∙ ends_contents history event ends) stamps_are (ends_refreshed history event ends)
    (ends_open history event session ends (own_event event session own))
