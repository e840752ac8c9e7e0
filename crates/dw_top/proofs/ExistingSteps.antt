-- Each session has a step, and one that refuses nothing for want of memory.
use Rattle.std.proofs.Common.{◌≡◌, ◌≢◌, ℕ, ◌+◌, ◌<◌, ◌≤◌, Bool, true, false, List, [], ◌∷◌, length, refl, sym, ap, subst, ◌∙◌, arith, inl, inr}
use Rattle.std.specs.Prelude.{Option, Some, None, ◌⊎◌, ◌==◌}
use Rattle.std.proofs.lemmas.Bool.{cases_lt}
use Rattle.std.proofs.lemmas.Bool.Decides.{eqb_tells}
use Rattle.dw_model.specs.declared.answers.Answer.{Answer as Reply}
use Rattle.dw_model.specs.declared.answers.Plain.{Plain}
use Rattle.dw_model.specs.declared.answers.Plain.TheVariants.{Done, Refused}
use Rattle.dw_model.specs.declared.answers.Word.TheVariants as words
use Rattle.dw_model.specs.declared.objects.Object.{Object}
use Rattle.dw_model.specs.declared.refusals.Refusal.{Refusal}
use Rattle.dw_model.specs.declared.refusals.Refusal.TheVariants.{Deadlock, Aborted as AbortedRefusal}
use Rattle.dw_model.specs.declared.statements.Statement.{Statement}
use Rattle.dw_model.specs.declared.statements.Statement.TheVariants as forms
use Rattle.dw_model.specs.Alone.{alone}
use Rattle.dw_model.specs.Bound.{bound_refusal}
use Rattle.dw_model.specs.Databases.{Tables, def_of}
use Rattle.dw_model.specs.Limits.{limit_refusal}
use Rattle.dw_journal.specs.declared.BlockState.{BlockState}
use Rattle.dw_journal.specs.declared.BlockState.TheVariants.{Outside, Within, Aborted}
use Rattle.dw_journal.specs.declared.Certified.{Certified}
use Rattle.dw_journal.specs.declared.Event.{Event}
use Rattle.dw_journal.specs.declared.Event.TheVariants.{Begin, Pass, Wait, Answer, Commit, Violation, Refuse, Rollback, End}
use Rattle.dw_journal.specs.declared.Given.{Given}
use Rattle.dw_journal.specs.declared.Given.TheVariants as givens
use Rattle.dw_journal.specs.declared.Taken.{Taken}
use Rattle.dw_journal.specs.Worlds.{IsSession, given_at, read_in, statement_at}
use Rattle.dw_journal.specs.Blocks.{block_of}
use Rattle.dw_journal.specs.Contents.{view}
use Rattle.dw_journal.specs.Driven.{WithoutMemory, is_memory_refusal}
use Rattle.dw_journal.specs.Follows.{FollowsAfter, IsDecision, commit_within, decides, due, is_commit, is_violation, takes}
use Rattle.dw_journal.specs.History.{History, newest_event, session_of, with_event}
use Rattle.dw_journal.specs.Legal.{IsLockWait, IsNextEvent, blockers_of, certified, cycle_of, high_by, high_of, low_by, low_of, object_by, work_refusal}
use Rattle.dw_journal.specs.Progress.{waits_or_sweeps}
use Rattle.dw_journal.specs.Transactions.{Transaction, commits, taken_of, transaction_of}
use Rattle.dw_journal.specs.Turns.{Turn, AnswerOf, Begins, Commits, RollsBack, Taking, Works, call_of, number_due, number_of, turn_of}
use Rattle.dw_journal.specs.Watermarks.{high_over, low_watermark, violated_object}
use Rattle.dw_journal.proofs.EdgeLemmas.{high_over-le}
use Rattle.dw_ssn.proofs.Violated.{named}
use Rattle.dw_core.specs.Asking.{IsToAsk}
use Rattle.dw_core.specs.DueEvents.{opening_due}
use Rattle.dw_core.proofs.Asking.{deadlock_comes, is_lock_wait, wait_comes, wait_follows}
use Rattle.dw_engine.specs.EngineInvariant.{HaveNoVacuum}
use Rattle.dw_engine.specs.Steps.{IsStep, at_end, repeats, waited, moved}
use Rattle.dw_engine.proofs.Commits.{is_taken}
use Rattle.dw_engine.proofs.DueTurns.{ended_here}
use Rattle.dw_engine.proofs.NextEvents.{answer_comes, begin_comes, begin_passes, begin_refused, bound_refused, commit_passes, commit_passes_within, commit_rolls_back, end_comes, foreign_refused, open_refused, opening_comes, rollback_comes, rollback_passes, work_in_aborted}
use Rattle.dw_engine.proofs.Stuck.{stuck_again, stuck_now}
use Rattle.dw_top.specs.Existing.{WereRead}
use Rattle.dw_top.proofs.ExistingRefusals.{IsOwn, bound_refusal_own, other_refusal, work_refusal_own}
use Rattle.dw_top.proofs.ExistingTurns.{IsLeft, IsWell, is_answered, is_done, is_last, is_next, is_open, left_of}

-- the session has a step; it refuses nothing for want of memory where the scripts were read
pub record CanStep (history : History) (session : ℕ) : Type 0 where
  pub after : History
  pub step : IsStep session history after
  pub remembers : WereRead history.world → WithoutMemory history.events → WithoutMemory after.events

-- ---- the object that a violation names is there
named_there : (taken : Taken) (commits : List Certified) → low_watermark taken commits ≤ length commits
    → (found : Option Object) → violated_object taken commits ≡ found → (object : Object) × (found ≡ Some object)
named_there taken commits within (Some object) is = (object, refl)
named_there taken commits within None is = cc (named taken (low_watermark taken commits) commits None refl (sym is) within)

object_there : (commits : List Certified) (taken : Option Taken) → taken ≢ None → low_by commits taken ≤ high_by commits taken
    → (object : Object) × (object_by commits taken ≡ Some object)
object_there commits None some le = absurd (some refl)
object_there commits (Some taken) some le =
    let most : high_over taken commits ≤ length commits = high_over-le taken commits in
    let least : low_watermark taken commits ≤ high_over taken commits = le in
    named_there taken commits (omega (arith, least, most)) (violated_object taken commits) refl

-- ---- an event is this wait, or it isn't
front_same : (x y : ℕ) (xs ys : List ℕ) → x ∷ xs ≡ y ∷ ys → x ≡ y
front_same x y xs ys e = cc

rest_same : (x y : ℕ) (xs ys : List ℕ) → x ∷ xs ≡ y ∷ ys → xs ≡ ys
rest_same x y xs ys e = cc

none_some : (y : ℕ) (ys : List ℕ) → [] ≢ y ∷ ys
none_some y ys e = cc

some_none : (x : ℕ) (xs : List ℕ) → x ∷ xs ≢ []
some_none x xs e = cc

fronts_same : (x y : ℕ) (xs ys : List ℕ) → x ≡ y → xs ≡ ys → x ∷ xs ≡ y ∷ ys
fronts_same x y xs ys front rest = ap (λ (z : ℕ). z ∷ xs) front ∙ ap (λ (zs : List ℕ). y ∷ zs) rest

same_by : (x y : ℕ) (xs ys : List ℕ) → ((x == y) ≡ true) × (x ≡ y) ⊎ ((x == y) ≡ false) × (x ≢ y) → (xs ≡ ys) ⊎ (xs ≢ ys) → (x ∷ xs ≡ y ∷ ys) ⊎ (x ∷ xs ≢ y ∷ ys)
same_by x y xs ys (inr other) rest = inr (λ e. other.1 (front_same x y xs ys e))
same_by x y xs ys (inl front) (inl rest) = inl (fronts_same x y xs ys front.1 rest)
same_by x y xs ys (inl front) (inr other) = inr (λ e. other (rest_same x y xs ys e))

same_or_not : (xs ys : List ℕ) → (xs ≡ ys) ⊎ (xs ≢ ys)
same_or_not [] [] = inl refl
same_or_not [] (y ∷ ys) = inr (none_some y ys)
same_or_not (x ∷ xs) [] = inr (some_none x xs)
same_or_not (x ∷ xs) (y ∷ ys) = same_by x y xs ys (eqb_tells x y) (same_or_not xs ys)

abbrev is_wait_event : Option Event → Bool
is_wait_event (Some (Wait session k holders)) = true
is_wait_event newest = false

module _ (session k : ℕ) (holders : List ℕ) where
  no_wait : (newest : Option Event) → is_wait_event newest ≡ false → newest ≢ Some (Wait session k holders)
  no_wait newest other e = cc (ap is_wait_event e, other)

  wait_session : (s j : ℕ) (others : List ℕ) → Some (Wait s j others) ≡ Some (Wait session k holders) → s ≡ session
  wait_session s j others e = cc

  wait_number : (s j : ℕ) (others : List ℕ) → Some (Wait s j others) ≡ Some (Wait session k holders) → j ≡ k
  wait_number s j others e = cc

  wait_holders : (s j : ℕ) (others : List ℕ) → Some (Wait s j others) ≡ Some (Wait session k holders) → others ≡ holders
  wait_holders s j others e = cc

  same_wait : (s j : ℕ) (others : List ℕ) → s ≡ session → j ≡ k → others ≡ holders → Some (Wait s j others) ≡ Some (Wait session k holders)
  same_wait s j others a b c = cc (a, b, c)

  wait_by : (s j : ℕ) (others : List ℕ) → ((s == session) ≡ true) × (s ≡ session) ⊎ ((s == session) ≡ false) × (s ≢ session)
      → ((j == k) ≡ true) × (j ≡ k) ⊎ ((j == k) ≡ false) × (j ≢ k) → (others ≡ holders) ⊎ (others ≢ holders)
      → (Some (Wait s j others) ≡ Some (Wait session k holders)) ⊎ (Some (Wait s j others) ≢ Some (Wait session k holders))
  wait_by s j others (inr a) b c = inr (λ e. a.1 (wait_session s j others e))
  wait_by s j others (inl a) (inr b) c = inr (λ e. b.1 (wait_number s j others e))
  wait_by s j others (inl a) (inl b) (inr c) = inr (λ e. c (wait_holders s j others e))
  wait_by s j others (inl a) (inl b) (inl c) = inl (same_wait s j others a.1 b.1 c)

  wait_or_not : (newest : Option Event) → (newest ≡ Some (Wait session k holders)) ⊎ (newest ≢ Some (Wait session k holders))
  wait_or_not (Some (Wait s j others)) = wait_by s j others (eqb_tells s session) (eqb_tells j k) (same_or_not others holders)
  wait_or_not newest = inr (no_wait newest refl)

-- ---- the step of a session, by what is due of it
module _ (history : History) (session : ℕ) (there : IsSession history.world session) (sweepless : HaveNoVacuum history.world) where
  abbrev Can : Type 0
  Can = CanStep history session

  comes : (event : Event) → session_of event ≡ Some session → waits_or_sweeps event ≡ false → IsNextEvent history event
      → (WereRead history.world → is_memory_refusal event ≡ false) → Can
  comes event own plain next fine =
      record { after = with_event history event; step = moved event own plain next; remembers = λ read older. (fine read, older) }

  stays : IsStep session history history → Can
  stays step = record { after = history; step = step; remembers = λ read older. older }

  -- the answer or the refusal of an open statement
  module _ (k : ℕ) (statement : Statement) (turn : turn_of history session ≡ AnswerOf k) (given : statement_at history.world session k ≡ Some statement) where
    refuses_open : (refusal : Refusal) → work_refusal statement (alone history.world.files statement (view history session)) ≡ Some refusal → Can
    refuses_open refusal is =
        comes (Refuse session k refusal) refl refl (open_refused history session there.1 k statement turn given refusal (inr is))
        (λ read. subst IsOwn is (work_refusal_own history.world.files statement (view history session)))

    answers_by : (answer : Reply) (next : Tables) (limit : Option Refusal) → alone history.world.files statement (view history session) ≡ Done answer next
        → limit_refusal statement next ≡ limit → Can
    answers_by answer next None is fits =
        comes (Answer session k answer) refl refl (answer_comes history session there.1 k statement turn given answer next is fits) (λ read. refl)
    answers_by answer next (Some refusal) is over = refuses_open refusal (ap (work_refusal statement) is ∙ over)

    answers : (plain : Plain) → alone history.world.files statement (view history session) ≡ plain → Can
    answers (Done answer next) is = answers_by answer next (limit_refusal statement next) is refl
    answers (Refused refusal) is = refuses_open refusal (ap (work_refusal statement) is)

  -- the decision on a commit
  module _ (k : ℕ) (one : Transaction) (open_one : transaction_of session history.events ≡ Some one)
      (follows : (event : Event) → IsDecision session k event → FollowsAfter history event) where
    decision : (high_of history session < low_of history session) ⊎ (low_of history session ≤ high_of history session) → Can
    decision (inl less) =
        let stamp = commits history.events + 1 in
        let low = low_of history session in
        let high = high_of history session in
        comes (Commit session k stamp low high) refl refl (follows (Commit session k stamp low high) (is_commit stamp low high), (refl, refl, refl, less)) (λ read. refl)
    decision (inr most) =
        let low = low_of history session in
        let high = high_of history session in
        let found = object_there (certified history) (taken_of history session) (is_taken history session one open_one) most in
        comes (Violation session k low high found.0) refl refl
        (follows (Violation session k low high found.0) (is_violation low high found.0), (refl, refl, most, found.1)) (λ read. refl)

    decides_it : Can
    decides_it = decision (cases_lt (high_of history session) (low_of history session))

  -- the words that begin and end blocks
  begins : (k : ℕ) → turn_of history session ≡ Taking k Begins → (block : BlockState) → block_of history session ≡ block → Can
  begins k turn Outside stands = comes (Begin session k) refl refl (begin_comes history session there.1 k turn stands) (λ read. refl)
  begins k turn Within stands = comes (Pass session k words.Begin) refl refl (begin_passes history session there.1 k turn stands) (λ read. refl)
  begins k turn Aborted stands = comes (Refuse session k AbortedRefusal) refl refl (begin_refused history session there.1 k turn stands) (λ read. refl)

  commits_within : (k : ℕ) → turn_of history session ≡ Taking k Commits → block_of history session ≡ Within
      → (transaction : Option Transaction) → transaction_of session history.events ≡ transaction → Can
  commits_within k turn stands None none =
      comes (Pass session k words.Commit) refl refl (commit_passes_within history session there.1 k turn stands none) (λ read. refl)
  commits_within k turn stands (Some one) some =
      decides_it k one some (λ event decision. due session there.1 (rw (turn, stands, some) (takes (commit_within decision))))

  commits_block : (k : ℕ) → turn_of history session ≡ Taking k Commits → (block : BlockState) → block_of history session ≡ block → Can
  commits_block k turn Outside stands = comes (Pass session k words.Commit) refl refl (commit_passes history session there.1 k turn stands) (λ read. refl)
  commits_block k turn Within stands = commits_within k turn stands (transaction_of session history.events) refl
  commits_block k turn Aborted stands = comes (Rollback session k) refl refl (commit_rolls_back history session there.1 k turn stands) (λ read. refl)

  rolls_back : (k : ℕ) → turn_of history session ≡ Taking k RollsBack → (block : BlockState) → block_of history session ≡ block → Can
  rolls_back k turn Outside stands = comes (Pass session k words.Rollback) refl refl (rollback_passes history session there.1 k turn stands) (λ read. refl)
  rolls_back k turn Within stands = comes (Rollback session k) refl refl (rollback_comes history session there.1 k turn Within (inl refl) stands) (λ read. refl)
  rolls_back k turn Aborted stands = comes (Rollback session k) refl refl (rollback_comes history session there.1 k turn Aborted (inr refl) stands) (λ read. refl)

  -- a statement that is run on what the session sees asks for its locks, and is opened once it has them
  module _ (statement : Statement) (turn : turn_of history session ≡ Taking (number_due history session) (Works statement))
      (given : statement_at history.world session (number_due history session) ≡ Some statement)
      (block : BlockState) (is : (block ≡ Outside) ⊎ (block ≡ Within)) (stands : block_of history session ≡ block) (asks : IsToAsk history session) where
    opens : blockers_of history session (number_due history session) ≡ [] → (refused : Option Refusal) → bound_refusal statement (def_of (view history session)) ≡ refused → Can
    opens free None bound =
        comes (opening_due history session) refl refl (opening_comes history session there.1 statement turn given free bound block is stands) (λ read. refl)
    opens free (Some refusal) bound =
        comes (Refuse session (number_due history session) refusal) refl refl
        (bound_refused history session there.1 (number_due history session) statement turn free block is stands refusal bound)
        (λ read. subst IsOwn bound (bound_refusal_own statement (def_of (view history session))))

    waits_by_newest : (holders : List ℕ) → IsLockWait history session (number_due history session) holders
        → (newest_event session history.events ≡ Some (Wait session (number_due history session) holders))
        ⊎ (newest_event session history.events ≢ Some (Wait session (number_due history session) holders)) → Can
    waits_by_newest holders waits (inl again) =
        stays (repeats (record {
          statement = number_due history session;
          holders = holders;
          newest = again;
          follows = wait_follows history session there asks holders;
          waits = is_lock_wait history session there asks holders waits;
        }) (stuck_again history session (number_due history session) holders again waits))
    waits_by_newest holders waits (inr now) =
        record {
          after = with_event history (Wait session (number_due history session) holders);
          step = waited holders (wait_comes history session there asks holders waits now) (stuck_now history session (number_due history session) holders waits);
          remembers = λ read older. (refl, older);
        }

    blocked_by : (first : ℕ) (rest : List ℕ) → blockers_of history session (number_due history session) ≡ first ∷ rest
        → (cycle : Option (List ℕ)) → cycle_of history session (number_due history session) ≡ cycle → Can
    blocked_by first rest blocked None open_end =
        let holders = first ∷ rest in
        waits_by_newest holders (sym blocked, omega arith, open_end)
        (wait_or_not session (number_due history session) holders (newest_event session history.events))
    blocked_by first rest blocked (Some cycle) closes =
        comes (Refuse session (number_due history session) (Deadlock cycle)) refl refl
        (deadlock_comes history session there asks cycle (first, rest, blocked) closes) (λ read. refl)

    asks_for : (holders : List ℕ) → blockers_of history session (number_due history session) ≡ holders → Can
    asks_for [] free = opens free (bound_refusal statement (def_of (view history session))) refl
    asks_for (first ∷ rest) blocked = blocked_by first rest blocked (cycle_of history session (number_due history session)) refl

  outside_not : block_of history session ≡ Outside → block_of history session ≢ Aborted
  outside_not stands is = cc (stands, is)

  within_not : block_of history session ≡ Within → block_of history session ≢ Aborted
  within_not stands is = cc (stands, is)

  works_by : (statement : Statement) → turn_of history session ≡ Taking (number_due history session) (Works statement)
      → statement_at history.world session (number_due history session) ≡ Some statement
      → (block : BlockState) → block_of history session ≡ block → Can
  works_by statement turn given Outside stands =
      asks_for statement turn given Outside (inl refl) stands ((statement, turn), outside_not stands)
      (blockers_of history session (number_due history session)) refl
  works_by statement turn given Within stands =
      asks_for statement turn given Within (inr refl) stands ((statement, turn), within_not stands)
      (blockers_of history session (number_due history session)) refl
  works_by statement turn given Aborted stands =
      comes (Refuse session (number_due history session) AbortedRefusal) refl refl
      (work_in_aborted history session there.1 (number_due history session) statement turn stands) (λ read. refl)

  works : (k : ℕ) (statement : Statement) → turn_of history session ≡ Taking k (Works statement) → statement_at history.world session k ≡ Some statement → Can
  works k statement turn given =
      let same : number_due history session ≡ k = ap number_of turn in
      works_by statement (turn ∙ ap (λ (n : ℕ). Taking n (Works statement)) (sym same))
      (ap (statement_at history.world session) same ∙ given) (block_of history session) refl

  takes_read : (k : ℕ) (statement : Statement) → turn_of history session ≡ Taking k (call_of (givens.Read statement))
      → statement_at history.world session k ≡ Some statement → Can
  takes_read k forms.Begin turn given = begins k turn (block_of history session) refl
  takes_read k forms.Commit turn given = commits_block k turn (block_of history session) refl
  takes_read k forms.Rollback turn given = rolls_back k turn (block_of history session) refl
  takes_read k (forms.Vacuum table) turn given = absurd (sweepless session k table given)
  takes_read k (forms.Create spec) turn given = works k (forms.Create spec) turn given
  takes_read k (forms.Drop table) turn given = works k (forms.Drop table) turn given
  takes_read k (forms.Lock tables) turn given = works k (forms.Lock tables) turn given
  takes_read k (forms.Insert table columns rows) turn given = works k (forms.Insert table columns rows) turn given
  takes_read k (forms.Select query) turn given = works k (forms.Select query) turn given

  takes_given : (k : ℕ) (given : Given) → turn_of history session ≡ Taking k (call_of given) → given_at history.world session k ≡ Some given → Can
  takes_given k (givens.Read statement) turn is = takes_read k statement turn (ap read_in is)
  takes_given k (givens.Refused refusal) turn is =
      comes (Refuse session k refusal) refl refl (foreign_refused history session there.1 k refusal turn)
      (λ read. other_refusal refusal (λ memory. read session k (is ∙ ap (λ (r : Refusal). Some (givens.Refused r)) memory)))

  step_by : {turn : Turn} → IsLeft history session turn → turn_of history session ≡ turn → Can
  step_by is_done now = stays (at_end (ended_here history session there.0 now))
  step_by (is_open k statement given) now = answers k statement now given (alone history.world.files statement (view history session)) refl
  step_by (is_answered k one some) now = decides_it k one some (λ event decision. due session there.1 (rw now (decides decision)))
  step_by (is_next k given is) now = takes_given k given now is
  step_by is_last now = comes (End session) refl refl (end_comes history session there.1 0 now) (λ read. refl)

  pub step_exists : IsWell history → Can
  step_exists well = step_by (left_of history session there.0 well) refl
