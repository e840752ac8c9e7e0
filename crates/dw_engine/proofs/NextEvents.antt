-- Which event may come next, by what is due of a session.
use Rattle.std.proofs.Common.{◌≡◌, ℕ, ◌≤◌, [], refl, ◌∙◌, inl, inr}
use Rattle.std.specs.Prelude.{Some, None, ◌⊎◌}
use Rattle.dw_model.specs.declared.answers.Answer.{Answer as Reply}
use Rattle.dw_model.specs.declared.answers.Plain.TheVariants.{Done}
use Rattle.dw_model.specs.declared.answers.Word.TheVariants as words
use Rattle.dw_model.specs.declared.refusals.Refusal.{Refusal}
use Rattle.dw_model.specs.declared.refusals.Refusal.TheVariants.{Aborted as AbortedRefusal, Memory}
use Rattle.dw_model.specs.declared.statements.Statement.{Statement}
use Rattle.dw_model.specs.Databases.{Tables, def_of}
use Rattle.dw_model.specs.Bound.{bound_refusal}
use Rattle.dw_model.specs.Alone.{alone}
use Rattle.dw_model.specs.Limits.{limit_refusal}
use Rattle.dw_journal.specs.declared.Event.{Event}
use Rattle.dw_journal.specs.declared.Event.TheVariants.{Begin, Pass, Answer, Commit, Refuse, Rollback, End}
use Rattle.dw_journal.specs.Worlds.{session_count, statement_at}
use Rattle.dw_journal.specs.History.{History}
use Rattle.dw_journal.specs.declared.BlockState.{BlockState}
use Rattle.dw_journal.specs.declared.BlockState.TheVariants.{Outside, Within, Aborted}
use Rattle.dw_journal.specs.Blocks.{block_of}
use Rattle.dw_journal.specs.Transactions.{Transaction, transaction_of}
use Rattle.dw_journal.specs.Contents.{view}
use Rattle.dw_journal.specs.Turns.{Call, IsForeign, Begins, Commits, RollsBack, Works, AnswerOf, CommitOf, Taking, AtEnd, turn_of, number_due, statement_due}
use Rattle.dw_journal.specs.Follows.{IsTaken, is_answer, is_answer_refused, is_commit, is_opening_refused, is_opened, answers, decides, takes, ends, foreign, begin_outside, begin_within, begin_aborted, commit_outside, commit_of_nothing, commit_within, commit_aborted, rollback_outside, rollback_within, rollback_aborted, work_outside, work_within, work_aborted, FollowsAfter, due}
use Rattle.dw_journal.specs.Legal.{IsLegalAnswer, IsLegalOpened, IsNextEvent, IsRefusal, IsTakingRefusal, IsWorkRefusal, blockers_of, snapshot_due, work_refusal}
use Rattle.dw_core.specs.DueEvents.{opening_due, route_due}

module _ (history : History) (session : ℕ) (within : session ≤ session_count history.world) (k : ℕ) where
  module _ (call : Call) (block : BlockState) (turn : turn_of history session ≡ Taking k call)
      (stands : block_of history session ≡ block) where
    -- what the next statement calls for follows
    follows : {event : Event} → IsTaken session k call block (transaction_of session history.events) event
        → FollowsAfter history event
    follows taken = due session within (rw (turn, stands) (takes taken))

    -- and its refusal, which is the first that applies, is legal
    refusal_legal : (refusal : Refusal)
        → IsTakingRefusal history session refusal k call block
        → IsRefusal history session k refusal (turn_of history session)
    refusal_legal refusal first = rw (turn, stands) first

    taken_refused : (refusal : Refusal)
        → IsTaken session k call block (transaction_of session history.events) (Refuse session k refusal)
        → IsTakingRefusal history session refusal k call block
        → IsNextEvent history (Refuse session k refusal)
    taken_refused refusal taken first = (follows taken, refusal_legal refusal first)

  module _ (turn : turn_of history session ≡ Taking k Begins) where
    pub begin_comes : block_of history session ≡ Outside → IsNextEvent history (Begin session k)
    begin_comes stands = (follows Begins Outside turn stands begin_outside, tt)

    pub begin_passes : block_of history session ≡ Within → IsNextEvent history (Pass session k words.Begin)
    begin_passes stands = (follows Begins Within turn stands begin_within, tt)

    pub begin_refused : block_of history session ≡ Aborted → IsNextEvent history (Refuse session k AbortedRefusal)
    begin_refused stands = taken_refused Begins Aborted turn stands AbortedRefusal begin_aborted refl

  module _ (turn : turn_of history session ≡ Taking k Commits) where
    pub commit_passes : block_of history session ≡ Outside → IsNextEvent history (Pass session k words.Commit)
    commit_passes stands = (follows Commits Outside turn stands commit_outside, tt)

    pub commit_rolls_back : block_of history session ≡ Aborted → IsNextEvent history (Rollback session k)
    commit_rolls_back stands = (follows Commits Aborted turn stands commit_aborted, tt)

    -- in a block in which nothing was opened there is nothing to commit
    pub commit_passes_within : block_of history session ≡ Within
        → transaction_of session history.events ≡ None → IsNextEvent history (Pass session k words.Commit)
    commit_passes_within stands none = (due session within (rw (turn, stands, none) (takes commit_of_nothing)), tt)

    pub commit_follows_within : (transaction : Transaction) (stamp low high : ℕ)
        → block_of history session ≡ Within → transaction_of session history.events ≡ Some transaction
        → FollowsAfter history (Commit session k stamp low high)
    commit_follows_within transaction stamp low high stands some =
        due session within (rw (turn, stands, some) (takes (commit_within (is_commit stamp low high))))

  module _ (turn : turn_of history session ≡ Taking k RollsBack) where
    pub rollback_passes : block_of history session ≡ Outside → IsNextEvent history (Pass session k words.Rollback)
    rollback_passes stands = (follows RollsBack Outside turn stands rollback_outside, tt)

    pub rollback_comes : (block : BlockState) → (block ≡ Within) ⊎ (block ≡ Aborted)
        → block_of history session ≡ block → IsNextEvent history (Rollback session k)
    rollback_comes block (inl is) stands = (follows RollsBack Within turn (stands ∙ is) rollback_within, tt)
    rollback_comes block (inr is) stands = (follows RollsBack Aborted turn (stands ∙ is) rollback_aborted, tt)

  -- what isn't in the grammar is refused
  foreign_first : (refusal : Refusal) (block : BlockState)
      → IsTakingRefusal history session refusal k (IsForeign refusal) block
  foreign_first refusal Outside = refl
  foreign_first refusal Within = refl
  foreign_first refusal Aborted = refl

  pub foreign_refused : (refusal : Refusal) → turn_of history session ≡ Taking k (IsForeign refusal) → IsNextEvent history (Refuse session k refusal)
  foreign_refused refusal turn =
      let block = block_of history session in
      taken_refused (IsForeign refusal) block turn refl refusal foreign (foreign_first refusal block)

  -- a statement that is run on what the session sees
  module _ (statement : Statement) (turn : turn_of history session ≡ Taking k (Works statement)) where
    pub work_in_aborted : block_of history session ≡ Aborted → IsNextEvent history (Refuse session k AbortedRefusal)
    work_in_aborted stands = taken_refused (Works statement) Aborted turn stands AbortedRefusal work_aborted refl

    -- no lock stands in its way
    module _ (free : blockers_of history session k ≡ []) where
      bound_first : (block : BlockState) → (block ≡ Outside) ⊎ (block ≡ Within) → (refusal : Refusal)
          → bound_refusal statement (def_of (view history session)) ≡ Some refusal
          → IsTakingRefusal history session refusal k (Works statement) block
      bound_first Outside is refusal bound = rw free bound
      bound_first Within is refusal bound = rw free bound
      bound_first Aborted (inl is) refusal bound = cc
      bound_first Aborted (inr is) refusal bound = cc

      refused_taken : (block : BlockState) → (block ≡ Outside) ⊎ (block ≡ Within) → (refusal : Refusal)
          → IsTaken session k (Works statement) block (transaction_of session history.events) (Refuse session k refusal)
      refused_taken Outside is refusal = work_outside (is_opening_refused refusal)
      refused_taken Within is refusal = work_within (is_opening_refused refusal)
      refused_taken Aborted (inl is) refusal = cc
      refused_taken Aborted (inr is) refusal = cc

      pub bound_refused : (block : BlockState) → (block ≡ Outside) ⊎ (block ≡ Within) → block_of history session ≡ block
          → (refusal : Refusal) → bound_refusal statement (def_of (view history session)) ≡ Some refusal
          → IsNextEvent history (Refuse session k refusal)
      bound_refused block is stands refusal bound =
          taken_refused (Works statement) block turn stands refusal (refused_taken block is refusal) (bound_first block is refusal bound)

  -- the answer or the refusal of an open statement
  module _ (statement : Statement) (turn : turn_of history session ≡ AnswerOf k)
      (given : statement_at history.world session k ≡ Some statement) where
    pub answer_comes : (answer : Reply) (next : Tables) → alone history.world.files statement (view history session) ≡ Done answer next
        → limit_refusal statement next ≡ None → IsNextEvent history (Answer session k answer)
    answer_comes answer next is_done limit =
        let legal : IsLegalAnswer history.world.files (statement_at history.world session k) (view history session) answer =
        rw given (next, is_done, limit) in
        (due session within (rw turn (answers (is_answer answer))), legal)

    pub open_refused : (refusal : Refusal)
        → (refusal ≡ Memory) ⊎ (work_refusal statement (alone history.world.files statement (view history session)) ≡ Some refusal)
        → IsNextEvent history (Refuse session k refusal)
    open_refused refusal owed =
        let either : (refusal ≡ Memory) ⊎ IsWorkRefusal history.world.files (statement_at history.world session k) (view history session) refusal =
        rw given owed in
        let legal : IsRefusal history session k refusal (turn_of history session) = rw turn either in
        (due session within (rw turn (answers (is_answer_refused refusal))), legal)

  pub commit_follows : (stamp low high : ℕ) → turn_of history session ≡ CommitOf k
      → FollowsAfter history (Commit session k stamp low high)
  commit_follows stamp low high turn = due session within (rw turn (decides (is_commit stamp low high)))

  pub end_comes : turn_of history session ≡ AtEnd → IsNextEvent history (End session)
  end_comes turn = (due session within (rw turn ends), tt)

-- the opening of the next statement
module _ (history : History) (session : ℕ) (within : session ≤ session_count history.world) (statement : Statement)
    (turn : turn_of history session ≡ Taking (number_due history session) (Works statement))
    (given : statement_due history session ≡ Some statement)
    (free : blockers_of history session (number_due history session) ≡ [])
    (bound : bound_refusal statement (def_of (view history session)) ≡ None) where
  opening_taken : (block : BlockState) → (block ≡ Outside) ⊎ (block ≡ Within)
      → IsTaken session (number_due history session) (Works statement) block (transaction_of session history.events) (opening_due history session)
  opening_taken Outside is = work_outside (is_opened _ _)
  opening_taken Within is = work_within (is_opened _ _)
  opening_taken Aborted (inl is) = cc
  opening_taken Aborted (inr is) = cc

  pub opening_comes : (block : BlockState) → (block ≡ Outside) ⊎ (block ≡ Within) → block_of history session ≡ block
      → IsNextEvent history (opening_due history session)
  opening_comes block is stands =
      let legal : IsLegalOpened history session (number_due history session) (snapshot_due history session) (route_due history session) (statement_due history session) =
      rw given (free, bound, refl, refl) in
      (follows history session within (number_due history session) (Works statement) block turn stands (opening_taken block is), legal)
