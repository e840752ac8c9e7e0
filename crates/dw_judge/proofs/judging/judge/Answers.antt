use Rattle.std.proofs.Common.{◌≡◌, Bool, List, length, refl, sym, ap, subst, ◌∙◌, arith}
use Rattle.std.specs.Prelude.{Some, slice_get}
use Rattle.std.proofs.lemmas.Bool.{false≢true}
use Rattle.std.proofs.lemmas.Option.{slice_get_read}
use Rattle.dw_journal.specs.declared.Event.{Event}
use Rattle.dw_journal.specs.History.{History, is_end, with_event}
use Rattle.dw_journal.specs.Locks.{lock_state}
use Rattle.dw_locks.specs.LockTable.{LockTable, StandsForLocks}
use Rattle.dw_judge.specs.declared.sessions.Session.{Session}
use Rattle.dw_judge.specs.Readings.{newest_kept}
use Rattle.dw_judge.specs.Changes.{IsJudged}
use Rattle.dw_judge.specs.Summaries.{StandsFor}
use Rattle.dw_judge.specs.Verdicts.{history_before, other_sessions, undue, wanting}
use Rattle.dw_judge.proofs.FirstFaults.{before_next, is_wanting, passes, right_next, right_start, stands_start}
use Rattle.dw_judge.proofs.Lasting.{has_entry, is_unblocked, locks_start, stands_next}
use Rattle.dw_judge.proofs.judging.judge.Goals as goal

pub returns-then-journal-sessions : goal.returns-then-journal-sessions
returns-then-journal-sessions c = other_sessions (λ is. c.if-journal-sessions.true (is ∙ sym c.len-sessions.ensures))

pub loop-place-init : goal.loop-place-init
loop-place-init c =
    let e = c.in_ok-summary.ensures in record {
      right = right_start c.args.world.now c.args.journal.now;
      stands = stands_start c.args.world.now c.args.journal.now c.in_ok-summary.summary c.len-sessions.result c.len-sessions.ensures e.sessions e.horizons e.commits e.database e.stamps;
      locked = locks_start (history_before c.args.world.now c.args.journal.now 0) c.args.journal.now.shape.sessions c.in_ok-locks.locks (c.if-journal-sessions.false ∙ c.len-sessions.ensures) refl c.in_ok-locks.ensures;
    }

pub returns-then-not-follows : goal.returns-then-not-follows
returns-then-not-follows c =
    let world = c.args.world.now in
    let journal = c.args.journal.now in
    let place = c.loop-place.place in
    let event = c.index-events-place.result in
    let slice = c.as_slice-events.result.now in
    let there : slice_get slice place ≡ Some event = slice_get_read slice (length slice) place event refl c.loop-place-test.true c.index-events-place.is in
    let at : slice_get journal.events place ≡ Some event = ap (λ (l : List Event). slice_get l place) (sym c.as_slice-events.ensures.items) ∙ there in
    let has = c.if-journal-sessions.false ∙ c.len-sessions.ensures in
    undue place refl has (record {
      before = c.loop-place.invariant.right;
      event = event;
      stands = at;
      undue = λ follows. false≢true (sym c.if-not-follows.true ∙ c.follows.ensures.1 follows);
    })

pub step-requires-clause-here : goal.step-requires-clause-here
step-requires-clause-here c =
    let world = c.args.world.now in
    let journal = c.args.journal.now in
    let place = c.loop-place.place in
    let event = c.index-events-place.result in
    let slice = c.as_slice-events.result.now in
    let there : slice_get slice place ≡ Some event = slice_get_read slice (length slice) place event refl c.loop-place-test.true c.index-events-place.is in
    let at : slice_get journal.events place ≡ Some event = ap (λ (l : List Event). slice_get l place) (sym c.as_slice-events.ensures.items) ∙ there in
    at

pub returns-then-not-legal : goal.returns-then-not-legal
returns-then-not-legal c =
    let world = c.args.world.now in
    let journal = c.args.journal.now in
    let place = c.loop-place.place in
    let event = c.index-events-place.result in
    let slice = c.as_slice-events.result.now in
    let there : slice_get slice place ≡ Some event = slice_get_read slice (length slice) place event refl c.loop-place-test.true c.index-events-place.is in
    let at : slice_get journal.events place ≡ Some event = ap (λ (l : List Event). slice_get l place) (sym c.as_slice-events.ensures.items) ∙ there in
    let has = c.if-journal-sessions.false ∙ c.len-sessions.ensures in
    record {
      place = place;
      counted = refl;
      sessions = has;
      illegal = record {
        before = c.loop-place.invariant.right;
        event = event;
        stands = at;
        follows = c.follows.ensures.0 c.if-not-follows.false;
        illegal = subst (λ (b : Bool). IsJudged journal.events (history_before world journal place) event c.step.new.summary b) c.if-not-legal.true c.in_ok-legal.ensures;
      };
    }

pub keep_locks-requires-clause-entry : goal.keep_locks-requires-clause-entry
keep_locks-requires-clause-entry c =
    let history : History = history_before c.args.world.now c.args.journal.now c.loop-place.place in
    has_entry history c.loop-place.locks c.loop-place.invariant.locked c.index-events-place.result (c.follows.ensures.0 c.if-not-follows.false)

pub keep_locks-requires-clause-free : goal.keep_locks-requires-clause-free
keep_locks-requires-clause-free c =
    let world = c.args.world.now in
    let journal = c.args.journal.now in
    let history : History = history_before world journal c.loop-place.place in
    let event = c.index-events-place.result in
    let judged = subst (λ (b : Bool). IsJudged journal.events history event c.step.new.summary b) c.if-not-legal.false c.in_ok-legal.ensures in
    is_unblocked history c.loop-place.locks c.loop-place.invariant.locked event judged.0

pub loop-place-preserved : goal.loop-place-preserved
loop-place-preserved c =
    let world = c.args.world.now in
    let journal = c.args.journal.now in
    let place = c.loop-place.place in
    let event = c.index-events-place.result in
    let slice = c.as_slice-events.result.now in
    let there : slice_get slice place ≡ Some event = slice_get_read slice (length slice) place event refl c.loop-place-test.true c.index-events-place.is in
    let at : slice_get journal.events place ≡ Some event = ap (λ (l : List Event). slice_get l place) (sym c.as_slice-events.ensures.items) ∙ there in
    let judged = subst (λ (b : Bool). IsJudged journal.events (history_before world journal place) event c.step.new.summary b) c.if-not-legal.false c.in_ok-legal.ensures in record {
      right = right_next world journal place event at c.loop-place.invariant.right (c.follows.ensures.0 c.if-not-follows.false) judged.0;
      stands = subst (λ (h : History). StandsFor journal.events h c.step.new.summary) (before_next world journal place event at) judged.1;
      locked = subst (λ (h : History). StandsForLocks c.keep_locks.new.locks (lock_state h)) (before_next world journal place event at)
          (subst (λ (t : LockTable). StandsForLocks t (lock_state (with_event (history_before world journal place) event))) (sym c.in_ok-keep_locks.ensures)
          (stands_next (history_before world journal place) c.loop-place.locks c.loop-place.invariant.locked c.loop-place.invariant.right.follows event
          (c.follows.ensures.0 c.if-not-follows.false) judged.0));
    }

pub returns-in-Some : goal.returns-in-Some
returns-in-Some c =
    let world = c.args.world.now in
    let journal = c.args.journal.now in
    let place = c.loop-place.place in
    let summary = c.loop-place.summary in
    let has = c.if-journal-sessions.false ∙ c.len-sessions.ensures in
    let done : place ≡ length journal.events = omega (arith, c.loop-place-test.false, c.loop-place.auto.place-end, c.as_slice-events.ensures.len) in
    let session = c.in-Some.field-0 in
    let some = c.in-Some.ensures.some in
    wanting c.as_slice-events.ensures.len has
    (is_wanting world journal place summary has done c.loop-place.invariant.right c.loop-place.invariant.stands session some.0
    (omega (arith, some.1, ap length c.as_slice.ensures.value))
    (λ kept at. ap (λ (l : List Event). is_end (newest_kept l kept)) (sym c.as_slice-events.ensures.items)
    ∙ some.2 kept (ap (λ (l : List Session). slice_get l session) c.as_slice.ensures.value ∙ at)))

pub returns-in-None : goal.returns-in-None
returns-in-None c =
    let world = c.args.world.now in
    let journal = c.args.journal.now in
    let place = c.loop-place.place in
    let summary = c.loop-place.summary in
    let has = c.if-journal-sessions.false ∙ c.len-sessions.ensures in
    let done : place ≡ length journal.events = omega (arith, c.loop-place-test.false, c.loop-place.auto.place-end, c.as_slice-events.ensures.len) in
    passes world journal place summary has done c.loop-place.invariant.right c.loop-place.invariant.stands
    (λ session some kept at. ap (λ (l : List Event). is_end (newest_kept l kept)) (sym c.as_slice-events.ensures.items)
    ∙ c.in-None.ensures.none refl session some kept (ap (λ (l : List Session). slice_get l session) c.as_slice.ensures.value ∙ at))
