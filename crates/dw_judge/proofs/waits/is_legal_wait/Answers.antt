use Rattle.std.proofs.Common.{◌<◌, List, length, refl, ap, ◌∙◌, arith}
use Rattle.std.specs.Prelude.{Option, slice_get, option_and_then}
use Rattle.std.specs.List.{position}
use Rattle.dw_journal.specs.declared.Event.{Event}
use Rattle.dw_journal.specs.declared.Given.{Given}
use Rattle.dw_journal.specs.Worlds.{read_in}
use Rattle.dw_journal.specs.History.{History}
use Rattle.dw_journal.specs.Locks.{wants_in}
use Rattle.dw_locks.specs.Requests.{answer_to}
use Rattle.dw_judge.specs.declared.sessions.Session.{Session}
use Rattle.dw_judge.specs.Asking.{waits_just_for}
use Rattle.dw_judge.specs.Dues.{turn_kept}
use Rattle.dw_judge.specs.Verdicts.{history_before}
use Rattle.dw_judge.proofs.Following.{kept_at, turn_is}
use Rattle.dw_judge.proofs.Judged.{sweeper_is}
use Rattle.dw_judge.proofs.Locked.{lock_wait_decided}
use Rattle.dw_judge.proofs.WaitTests.{wait_decided}
use Rattle.dw_judge.proofs.waits.is_legal_wait.Goals as goal

pub has_to_wait-requires : goal.has_to_wait-requires
has_to_wait-requires c = omega (arith, c.requires.within, c.requires.stands.number, c.requires.locks.counted)

pub returns : goal.returns
returns c =
    let history : History = history_before c.args.world.now c.args.journal.now c.args.place in
    let events = c.args.journal.now.events in
    let summary = c.args.summary.now in
    let session = c.args.session in
    let kept = c.index-kept.result.now in
    let in_list : session < length summary.sessions.items = omega (arith, c.requires.within) in
    let is_kept = kept_at events history summary c.requires.stands session session kept refl in_list c.index-kept.ensures in
    let last_is = c.newest-last.ensures ∙ ap (λ (l : List Event). option_and_then (slice_get l) kept.newest) c.as_slice-2.ensures.items ∙ is_kept.newest in
    let swept_is = c.sweeper_of-sweeper.ensures.place ∙ ap (λ (l : List Session). position (λ (one : Session). one.sweeps) l) c.as_slice.ensures.value
    ∙ sweeper_is events history summary c.requires.stands in
    let waits_is = c.in_ok-waits.ensures ∙ ap (λ (g : Option Given). waits_just_for c.args.holders.now (answer_to c.args.locks.now session (wants_in (read_in g)))) c.given-given.ensures in
    wait_decided history session c.args.statement c.args.holders.now c.sweeper_of-sweeper.result swept_is c.is_worker_alone-alone.result c.in_ok-waits.waits c.is_worker_alone-alone.ensures
    (lock_wait_decided history c.args.locks.now c.requires.locks session c.args.statement c.args.holders.now c.in_ok-waits.waits waits_is)
    (turn_kept c.args.world.now session c.due_kept-due.result) _ _ _ _
    (c.due_kept-due.ensures ∙ turn_is events history session kept is_kept)
    c.takes_vacuum-takes.ensures last_is c.is_same_wait-again.ensures c.is_wait_due.ensures
