-- Of the events that are due of a session, just one is legal, but for want of memory.
use Rattle.std.proofs.Common.{inl, inr, ◌≡◌, ℕ, ◌+◌, ◌<◌, Bool, true, false, List, [], ◌∷◌, length, refl, sym, ap, ◌∙◌, arith}
use Rattle.std.specs.Prelude.{Option, Some, None, ◌⊎◌, if◌then◌else◌}
use Rattle.dw_model.specs.declared.answers.Answer.{Answer as Reply}
use Rattle.dw_model.specs.declared.answers.Plain.{Plain}
use Rattle.dw_model.specs.declared.answers.Plain.TheVariants.{Done}
use Rattle.dw_model.specs.declared.refusals.Refusal.{Refusal}
use Rattle.dw_model.specs.declared.refusals.Refusal.TheVariants.{Memory}
use Rattle.dw_model.specs.declared.statements.Statement.{Statement}
use Rattle.dw_model.specs.declared.statements.Statement.TheVariants as forms
use Rattle.dw_model.specs.Databases.{Tables}
use Rattle.dw_model.specs.Limits.{limit_refusal}
use Rattle.dw_journal.specs.declared.Event.{Event}
use Rattle.dw_journal.specs.declared.Event.TheVariants.{Begin, Pass, Wait, Opened, Answer, Commit, Violation, Refuse, Rollback, VacuumBegin, VacuumSlice, VacuumEnd, Refresh, End}
use Rattle.dw_journal.specs.declared.Given.{Given}
use Rattle.dw_journal.specs.declared.Given.TheVariants.{Read, Refused}
use Rattle.dw_journal.specs.declared.Shape.{Shape}
use Rattle.dw_journal.specs.declared.BlockState.{BlockState}
use Rattle.dw_journal.specs.declared.BlockState.TheVariants.{Outside, Within, Aborted}
use Rattle.dw_model.specs.Files.{Files}
use Rattle.dw_journal.specs.Worlds.{read_in}
use Rattle.dw_journal.specs.History.{History, session_of}
use Rattle.dw_journal.specs.Blocks.{is_memory}
use Rattle.dw_journal.specs.Transactions.{Transaction}
use Rattle.dw_journal.specs.Locks.{wants_in, sweep_lock}
use Rattle.dw_journal.specs.Turns.{Call, Sweeps, Works, call_of, Turn, SliceOf, SweepEndOf, Taking, Idle, turn_after, taking}
use Rattle.dw_journal.specs.Follows.{is_answer, is_answer_refused, is_commit, is_violation, is_commit_refused, is_wait, is_opening_refused, is_opened, is_sweep_wait, is_sweep_refused, is_sweep_begin, foreign, begin_outside, begin_within, begin_aborted, commit_outside, commit_of_nothing, commit_within, commit_aborted, rollback_outside, rollback_within, rollback_aborted, vacuum_outside, vacuum_within, vacuum_aborted, work_outside, work_within, work_aborted, IsDue, answers, decides, rebuilds, has_rebuilt, takes, ends, sweeps}
use Rattle.dw_journal.specs.Legal.{IsLegalAfter, IsWait, IsLegalAnswer, IsWorkRefusal, unless_blocked, work_refusal}

-- what is due of a session is an event of it
pub due_session : {session : ℕ} {block : BlockState} {transaction : Option Transaction} {turn : Turn} {event : Event}
    → IsDue session block transaction turn event → session_of event ≡ Some session
due_session (answers (is_answer answer)) = refl
due_session (answers (is_answer_refused refusal)) = refl
due_session (decides (is_commit stamp low high)) = refl
due_session (decides (is_violation low high object)) = refl
due_session (decides (is_commit_refused refusal)) = refl
due_session rebuilds = refl
due_session has_rebuilt = refl
due_session (takes foreign) = refl
due_session (takes begin_outside) = refl
due_session (takes begin_within) = refl
due_session (takes begin_aborted) = refl
due_session (takes commit_outside) = refl
due_session (takes commit_of_nothing) = refl
due_session (takes (commit_within (is_commit stamp low high))) = refl
due_session (takes (commit_within (is_violation low high object))) = refl
due_session (takes (commit_within (is_commit_refused refusal))) = refl
due_session (takes commit_aborted) = refl
due_session (takes rollback_outside) = refl
due_session (takes rollback_within) = refl
due_session (takes rollback_aborted) = refl
due_session (takes (vacuum_outside (is_sweep_wait holders))) = refl
due_session (takes (vacuum_outside (is_sweep_refused refusal))) = refl
due_session (takes (vacuum_outside is_sweep_begin)) = refl
due_session (takes vacuum_within) = refl
due_session (takes vacuum_aborted) = refl
due_session (takes (work_outside (is_wait holders))) = refl
due_session (takes (work_outside (is_opening_refused refusal))) = refl
due_session (takes (work_outside (is_opened snapshot route))) = refl
due_session (takes (work_within (is_wait holders))) = refl
due_session (takes (work_within (is_opening_refused refusal))) = refl
due_session (takes (work_within (is_opened snapshot route))) = refl
due_session (takes work_aborted) = refl
due_session ends = refl
due_session sweeps = refl

-- legal but for the rule that a wait isn't repeated
abbrev pub IsLegalBut : History → Event → Type 0
IsLegalBut older (Wait session statement holders) = IsWait older session statement holders
IsLegalBut older event = IsLegalAfter older event

pub legal_but : (older : History) (event : Event) → IsLegalAfter older event → IsLegalBut older event
legal_but older (Begin session statement) legal = legal
legal_but older (Pass session statement word) legal = legal
legal_but older (Wait session statement holders) legal = legal.0
legal_but older (Opened session statement snapshot route) legal = legal
legal_but older (Answer session statement answer) legal = legal
legal_but older (Commit session statement stamp low high) legal = legal
legal_but older (Violation session statement low high object) legal = legal
legal_but older (Refuse session statement refusal) legal = legal
legal_but older (Rollback session statement) legal = legal
legal_but older (VacuumBegin session statement table) legal = legal
legal_but older (VacuumSlice session statement slice horizon) legal = legal
legal_but older (VacuumEnd session statement) legal = legal
legal_but older (Refresh cluster stamp) legal = legal
legal_but older (End session) legal = legal

-- two answers of a statement are the same, and an answered statement isn't refused
same_done : (a b : Reply) (m n : Tables) → ◌≡◌ {A = Plain} (Done a m) (Done b n) → a ≡ b
same_done a b m n e = cc

pub same_answer : (files : Files) (statement : Option Statement) (tables : Tables) (a b : Reply) → IsLegalAnswer files statement tables a → IsLegalAnswer files statement tables b → a ≡ b
same_answer files None tables a b first second = absurd first
same_answer files (Some statement) tables a b first second = same_done a b first.0 second.0 (sym first.1 ∙ second.1)

pub same_refusal : (found : Option Refusal) (a b : Refusal) → found ≡ Some a → found ≡ Some b → a ≡ b
same_refusal found a b first second = cc

pub not_memory : (refusal : Refusal) → refusal ≡ Memory → is_memory refusal ≡ false → ⊥
not_memory refusal is none = cc (ap is_memory is, none)

pub work_refused : (files : Files) (statement : Option Statement) (tables : Tables) (refusal : Refusal) → (refusal ≡ Memory) ⊎ IsWorkRefusal files statement tables refusal
    → is_memory refusal ≡ false → IsWorkRefusal files statement tables refusal
work_refused files statement tables refusal (inl is) none = absurd (not_memory refusal is none)
work_refused files statement tables refusal (inr is) none = is

pub same_work_refusal : (files : Files) (statement : Option Statement) (tables : Tables) (a b : Refusal) → IsWorkRefusal files statement tables a → IsWorkRefusal files statement tables b → a ≡ b
same_work_refusal files None tables a b first second = absurd first
same_work_refusal files (Some statement) tables a b first second = same_refusal _ a b first second

pub answered_refused : (files : Files) (statement : Option Statement) (tables : Tables) (answer : Reply) (refusal : Refusal) → IsLegalAnswer files statement tables answer
    → IsWorkRefusal files statement tables refusal → ⊥
answered_refused files None tables answer refusal is refused = is
answered_refused files (Some statement) tables answer refusal is refused =
    let same : limit_refusal statement is.0 ≡ Some refusal = sym (ap (work_refusal statement) is.1) ∙ refused in
    cc (same, is.2)

-- a wait has holders, so that nothing that needs none is legal
pub blocked : (found : List ℕ) (holders : List ℕ) → holders ≡ found → 0 < length holders → found ≡ [] → ⊥
blocked found holders is some none =
    let same : holders ≡ [] = is ∙ none in
    let e : length holders ≡ 0 = ap length same in
    omega (arith, e, some)

pub waiting_refused : (found : List ℕ) (cycle : Option (List ℕ)) (otherwise : Option Refusal) (holders : List ℕ) (refusal : Refusal)
    → holders ≡ found → 0 < length holders → cycle ≡ None → unless_blocked found cycle otherwise ≡ Some refusal → ⊥
waiting_refused [] cycle otherwise holders refusal is some no_cycle due_refusal = blocked [] holders is some refl
waiting_refused (holder ∷ found) None otherwise holders refusal is some no_cycle due_refusal = cc
waiting_refused (holder ∷ found) (Some cycle) otherwise holders refusal is some no_cycle due_refusal = cc

-- a turn to take a statement is that of the script
taking_given : (k j : ℕ) (given : Option Given) (call : Call) → taking k given ≡ Taking j call
    → (g : Given) × (k ≡ j) × (given ≡ Some g) × (call_of g ≡ call)
taking_given k j None call is = cc
taking_given k j (Some given) call is = (given, cc, refl, cc)

sweeping_not : (shape : Shape) (k slice j : ℕ) (call : Call) (b : Bool) → (if b then SliceOf k slice else SweepEndOf k) ≡ Taking j call → ⊥
sweeping_not shape k slice j call true is = cc
sweeping_not shape k slice j call false is = cc

-- so is each turn to take a statement
pub turn_given : (shape : Shape) (block : BlockState) (last : Option Event) (k j : ℕ) (given : Option Given) (call : Call)
    → turn_after shape block last (taking k given) ≡ Taking j call → (g : Given) × (k ≡ j) × (given ≡ Some g) × (call_of g ≡ call)
turn_given shape block None k j given call is = taking_given k j given call is
turn_given shape block (Some (Begin session statement)) k j given call is = taking_given k j given call is
turn_given shape block (Some (Pass session statement word)) k j given call is = taking_given k j given call is
turn_given shape block (Some (Wait session statement holders)) k j given call is = taking_given k j given call is
turn_given shape block (Some (Opened session statement snapshot route)) k j given call is = cc
turn_given shape Outside (Some (Answer session statement answer)) k j given call is = cc
turn_given shape Within (Some (Answer session statement answer)) k j given call is = taking_given k j given call is
turn_given shape Aborted (Some (Answer session statement answer)) k j given call is = taking_given k j given call is
turn_given shape block (Some (Commit session statement stamp low high)) k j given call is = taking_given k j given call is
turn_given shape block (Some (Violation session statement low high object)) k j given call is = taking_given k j given call is
turn_given shape block (Some (Refuse session statement refusal)) k j given call is = taking_given k j given call is
turn_given shape block (Some (Rollback session statement)) k j given call is = taking_given k j given call is
turn_given shape block (Some (VacuumBegin session statement table)) k j given call is = absurd (sweeping_not shape statement 0 j call _ is)
turn_given shape block (Some (VacuumSlice session statement slice horizon)) k j given call is = absurd (sweeping_not shape statement (slice + 1) j call _ is)
turn_given shape block (Some (VacuumEnd session statement)) k j given call is = taking_given k j given call is
turn_given shape block (Some (Refresh cluster stamp)) k j given call is = taking_given k j given call is
turn_given shape block (Some (End session)) k j given call is = cc

taking_busy : (k : ℕ) (given : Option Given) → taking k given ≡ Idle → ⊥
taking_busy k None is = cc
taking_busy k (Some given) is = cc

sweeping_busy : (k slice : ℕ) (b : Bool) → (if b then SliceOf k slice else SweepEndOf k) ≡ Idle → ⊥
sweeping_busy k slice true is = cc
sweeping_busy k slice false is = cc

-- a session with a script is never idle
pub turn_busy : (shape : Shape) (block : BlockState) (last : Option Event) (k : ℕ) (given : Option Given)
    → turn_after shape block last (taking k given) ≡ Idle → ⊥
turn_busy shape block None k given is = taking_busy k given is
turn_busy shape block (Some (Begin session statement)) k given is = taking_busy k given is
turn_busy shape block (Some (Pass session statement word)) k given is = taking_busy k given is
turn_busy shape block (Some (Wait session statement holders)) k given is = taking_busy k given is
turn_busy shape block (Some (Opened session statement snapshot route)) k given is = cc
turn_busy shape Outside (Some (Answer session statement answer)) k given is = cc
turn_busy shape Within (Some (Answer session statement answer)) k given is = taking_busy k given is
turn_busy shape Aborted (Some (Answer session statement answer)) k given is = taking_busy k given is
turn_busy shape block (Some (Commit session statement stamp low high)) k given is = taking_busy k given is
turn_busy shape block (Some (Violation session statement low high object)) k given is = taking_busy k given is
turn_busy shape block (Some (Refuse session statement refusal)) k given is = taking_busy k given is
turn_busy shape block (Some (Rollback session statement)) k given is = taking_busy k given is
turn_busy shape block (Some (VacuumBegin session statement table)) k given is = sweeping_busy statement 0 _ is
turn_busy shape block (Some (VacuumSlice session statement slice horizon)) k given is = sweeping_busy statement (slice + 1) _ is
turn_busy shape block (Some (VacuumEnd session statement)) k given is = taking_busy k given is
turn_busy shape block (Some (Refresh cluster stamp)) k given is = taking_busy k given is
turn_busy shape block (Some (End session)) k given is = cc

-- the statement that a call works on, and the one that a VACUUM is
pub works_statement : (given : Given) (statement : Statement) → call_of given ≡ Works statement → read_in (Some given) ≡ Some statement
works_statement (Refused refusal) statement is = cc
works_statement (Read forms.Begin) statement is = cc
works_statement (Read forms.Commit) statement is = cc
works_statement (Read forms.Rollback) statement is = cc
works_statement (Read (forms.Vacuum table)) statement is = cc
works_statement (Read (forms.Create spec)) statement is = cc
works_statement (Read (forms.Drop table)) statement is = cc
works_statement (Read (forms.Lock tables)) statement is = cc
works_statement (Read (forms.Insert table columns rows)) statement is = cc
works_statement (Read (forms.Select query)) statement is = cc

pub sweeps_wants : (given : Given) (table : List ℕ) → call_of given ≡ Sweeps table → wants_in (read_in (Some given)) ≡ sweep_lock table ∷ []
sweeps_wants (Refused refusal) table is = cc
sweeps_wants (Read forms.Begin) table is = cc
sweeps_wants (Read forms.Commit) table is = cc
sweeps_wants (Read forms.Rollback) table is = cc
sweeps_wants (Read (forms.Vacuum other)) table is =
    let same : other ≡ table = cc in
    ap (λ (name : List ℕ). sweep_lock name ∷ []) same
sweeps_wants (Read (forms.Create spec)) table is = cc
sweeps_wants (Read (forms.Drop other)) table is = cc
sweeps_wants (Read (forms.Lock tables)) table is = cc
sweeps_wants (Read (forms.Insert other columns rows)) table is = cc
sweeps_wants (Read (forms.Select query)) table is = cc
