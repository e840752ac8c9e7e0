-- The summary is ready for an opening, an answer and a commit, and stands for the history after a refresh.
use Rattle.std.proofs.Common.{◌≡◌, ℕ, List, [], ◌∷◌, ◌++◌, reverse, refl, sym, ap, subst, ◌∙◌}
use Rattle.std.specs.Prelude.{Option, Some, None, slice_get}
use Rattle.std.proofs.Math.ListN.{set}
use Rattle.dw_model.specs.declared.answers.Answer.{Answer as Reply}
use Rattle.dw_model.specs.declared.statements.Statement.{Statement}
use Rattle.dw_model.specs.Databases.{Tables}
use Rattle.dw_journal.specs.declared.Event.{Event}
use Rattle.dw_journal.specs.declared.Event.TheVariants.{Opened, Answer, Commit}
use Rattle.dw_journal.specs.declared.Route.{Route}
use Rattle.dw_journal.specs.Worlds.{statement_at}
use Rattle.dw_journal.specs.History.{History, with_event}
use Rattle.dw_journal.specs.Transactions.{transaction_of}
use Rattle.dw_journal.specs.Contents.{after_commit, view}
use Rattle.dw_journal.specs.Legal.{IsLegalAfter, IsLegalAnswer, IsLegalCommit, snapshot_due}
use Rattle.dw_judge.specs.declared.sessions.OpenOne.{OpenOne}
use Rattle.dw_judge.specs.declared.sessions.Session.{Session}
use Rattle.dw_judge.specs.declared.summaries.Summary.{Summary}
use Rattle.dw_judge.specs.AnswersJudged.{IsAnsweredBy}
use Rattle.dw_judge.specs.Changes.{IsReady, begun_in, widened_by}
use Rattle.dw_judge.specs.Judging.{seen_in}
use Rattle.dw_judge.specs.Summaries.{HasOpen, StandsFor}
use Rattle.dw_judge.proofs.Judged.{commit_of_none, taken_is}
use Rattle.dw_judge.proofs.Moving.{ready_by}
use Rattle.dw_judge.proofs.Opened.{seen_is}
use Rattle.dw_judge.proofs.Opens.{answers, commit_certifies, commit_closes, commit_leaves, opens}
use Rattle.std.proofs.lemmas.Bool.{false≢true}

module _ (events : List Event) (history : History) (session : ℕ) (summary : Summary) (stands : StandsFor events history summary)
    (kept : Session) (kept_there : slice_get summary.sessions.items session ≡ Some kept) (changed : Summary)
    (left : changed.sessions.items ≡ set summary.sessions.items session (record kept { transaction = None }))
    (horizons_are : changed.horizons ≡ summary.horizons) (stamps_are : changed.stamps ≡ summary.stamps)
    (found : Option OpenOne) (found_is : found ≡ kept.transaction) where
  has_found : HasOpen history session (transaction_of session history.events) found
  has_found = subst (λ (o : Option OpenOne). HasOpen history session (transaction_of session history.events) o) (sym found_is) (stands.each session kept kept_there).transaction

  pub ready_opened : (event : Event) (k snapshot : ℕ) (route : Route) (given : Statement) → event ≡ Opened session k snapshot route → statement_at history.world session k ≡ Some given
      → snapshot ≡ snapshot_due history session → changed.commits ≡ summary.commits → changed.database ≡ summary.database
      → (one wide : OpenOne) → one ≡ begun_in snapshot summary.database found → wide ≡ widened_by given one
      → IsReady events history event session (Some wide) changed
  ready_opened event k snapshot route given is there due done_are newest one wide one_is wide_is =
      subst (λ (e : Event). IsReady events history e session (Some wide) changed) (sym is)
      (ready_by events history (Opened session k snapshot route) session summary stands kept kept_there _ left changed (Some wide) refl horizons_are
      (ap (λ c. reverse c.items) done_are ∙ stands.certified_are) (newest ∙ stands.newest) stamps_are (λ cluster. refl)
      (subst (λ (o : OpenOne). HasOpen (with_event history (Opened session k snapshot route)) session (transaction_of session (Opened session k snapshot route ∷ history.events)) (Some o))
      (sym (wide_is ∙ ap (widened_by given) one_is))
      (opens history session k snapshot route given there found summary.database has_found stands.newest due)))

  pub ready_answered : (event : Event) (k : ℕ) (answer : Reply) → event ≡ Answer session k answer → changed.commits ≡ summary.commits → changed.database ≡ summary.database
      → (next : Option OpenOne) → IsAnsweredBy history.world.files (statement_at history.world session k) answer found next
      → IsReady events history event session next changed
  ready_answered event k answer is done_are newest next answered =
      subst (λ (e : Event). IsReady events history e session next changed) (sym is)
      (ready_by events history (Answer session k answer) session summary stands kept kept_there _ left changed next refl horizons_are
      (ap (λ c. reverse c.items) done_are ∙ stands.certified_are) (newest ∙ stands.newest) stamps_are (λ cluster. refl)
      (answers history session k answer found next has_found answered))

  pub ready_committed : (event : Event) (k stamp low high : ℕ) → event ≡ Commit session k stamp low high → (one : OpenOne) → found ≡ Some one
      → changed.commits.items ≡ summary.commits.items ++ record { low = low; taken = one.taken } ∷ []
      → changed.database ≡ after_commit (record { taken = one.taken; changes = one.view.changes; view = one.view.database }) summary.database
      → IsReady events history event session None changed
  ready_committed event k stamp low high is one one_is done_are installed =
      let has = subst (λ (o : Option OpenOne). HasOpen history session (transaction_of session history.events) o) one_is has_found in
      subst (λ (e : Event). IsReady events history e session None changed) (sym is)
      (ready_by events history (Commit session k stamp low high) session summary stands kept kept_there _ left changed None refl horizons_are
      (ap reverse done_are ∙ commit_certifies history session k stamp low high one has summary.commits.items stands.certified_are)
      (commit_leaves history session k stamp low high one has changed.database summary.database stands.newest installed) stamps_are (λ cluster. refl)
      (commit_closes history session k stamp low high))

module _ (events : List Event) (history : History) (session : ℕ) (summary : Summary) (stands : StandsFor events history summary)
    (kept : Session) (kept_there : slice_get summary.sessions.items session ≡ Some kept) (found : Option OpenOne) (found_is : found ≡ kept.transaction) where
  -- a transaction whose commit is legal is open
  pub commit_open : (stamp low high : ℕ) → IsLegalCommit history session stamp low high → found ≡ None → ⊥
  commit_open stamp low high legal none =
      false≢true ((commit_of_none history session (taken_is events history session kept None (stands.each session kept kept_there) (sym found_is ∙ none)) stamp low high).1 legal)

  sees : seen_in summary.database found ≡ view history session
  sees = ap (seen_in summary.database) found_is ∙ seen_is events history summary stands session kept (stands.each session kept kept_there)

  pub answer_legal : (event : Event) (k : ℕ) (answer : Reply) → event ≡ Answer session k answer
      → IsLegalAnswer history.world.files (statement_at history.world session k) (seen_in summary.database found) answer → IsLegalAfter history event
  answer_legal event k answer is legal =
      subst (IsLegalAfter history) (sym is) (subst (λ (t : Tables). IsLegalAnswer history.world.files (statement_at history.world session k) t answer) sees legal)

  pub answer_illegal : (event : Event) (k : ℕ) (answer : Reply) → event ≡ Answer session k answer
      → (IsLegalAnswer history.world.files (statement_at history.world session k) (seen_in summary.database found) answer → ⊥) → IsLegalAfter history event → ⊥
  answer_illegal event k answer is never legal =
      never (subst (λ (t : Tables). IsLegalAnswer history.world.files (statement_at history.world session k) t answer) (sym sees) (subst (IsLegalAfter history) is legal))
