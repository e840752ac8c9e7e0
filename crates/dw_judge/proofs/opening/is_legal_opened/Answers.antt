use Rattle.std.proofs.Common.{◌≡◌, ◌<◌, length, refl, ap, subst, ◌∙◌, arith, not, false}
use Rattle.std.specs.Prelude.{Option, is_some}
use Rattle.std.specs.Bool.{Decides}
use Rattle.dw_model.specs.declared.statements.Statement.{Statement}
use Rattle.dw_model.specs.Bound.{bound_refusal}
use Rattle.dw_model.specs.Databases.{Tables, def_of}
use Rattle.dw_journal.specs.declared.Given.{Given}
use Rattle.dw_journal.specs.History.{History}
use Rattle.dw_journal.specs.Worlds.{read_in}
use Rattle.dw_journal.specs.Locks.{wants_in, wants_of}
use Rattle.dw_journal.specs.Legal.{IsLegalOpened}
use Rattle.dw_locks.specs.Requests.{answer_to}
use Rattle.dw_judge.specs.Asking.{is_granted}
use Rattle.dw_judge.specs.Verdicts.{history_before}
use Rattle.dw_judge.proofs.Following.{kept_at}
use Rattle.dw_judge.proofs.Happening.{at_place}
use Rattle.dw_judge.proofs.Locked.{free_decided}
use Rattle.dw_judge.proofs.Opened.{opening_blocked, opening_decided, opening_unbound}
use Rattle.dw_judge.proofs.opening.is_legal_opened.Goals as goal

pub is_free-requires : goal.is_free-requires
is_free-requires c = omega (arith, c.requires.within, c.requires.stands.number, c.requires.locks.counted)

pub returns-then-not-free : goal.returns-then-not-free
returns-then-not-free c =
    let history : History = history_before c.args.world.now c.args.journal.now c.args.place in
    let events = c.args.journal.now.events in
    let summary = c.args.summary.now in
    let session = c.args.session in
    let kept = at_place summary.sessions.items session (omega (arith, c.requires.within)) in
    let free_is = c.in_ok-free.ensures ∙ ap (λ (g : Option Given). is_granted (answer_to c.args.locks.now session (wants_in (read_in g)))) c.given.ensures in
    subst (λ (found : Option Statement). Decides false (IsLegalOpened history session c.args.statement c.args.snapshot c.args.route found)) c.in-Some.ensures
    (opening_blocked events history summary c.requires.stands session kept.0 (c.requires.stands.each session kept.0 kept.1) c.args.statement c.args.snapshot c.args.route c.in-Some.opened.now c.in_ok-free.free
    (free_decided history c.args.locks.now c.requires.locks session (wants_of c.args.world.now session c.args.statement) c.in_ok-free.free free_is)
    c.if-not-free.true)

pub returns-then-not-bound : goal.returns-then-not-bound
returns-then-not-bound c =
    let history : History = history_before c.args.world.now c.args.journal.now c.args.place in
    let events = c.args.journal.now.events in
    let summary = c.args.summary.now in
    let session = c.args.session in
    let kept = c.index-kept.result.now in
    let in_list : session < length summary.sessions.items = omega (arith, c.requires.within) in
    let is_kept = kept_at events history summary c.requires.stands session session kept refl in_list c.index-kept.ensures in
    subst (λ (found : Option Statement). Decides false (IsLegalOpened history session c.args.statement c.args.snapshot c.args.route found)) c.in-Some.ensures
    (opening_unbound events history summary c.requires.stands session kept is_kept c.args.statement c.args.snapshot c.args.route c.in-Some.opened.now c.in_ok-bound.bound
    (c.in_ok-bound.ensures ∙ ap (λ (d : Tables). not (is_some (bound_refusal c.in-Some.opened.now (def_of d)))) c.seen.ensures) c.if-not-bound.true)

pub returns : goal.returns
returns c =
    let history : History = history_before c.args.world.now c.args.journal.now c.args.place in
    let events = c.args.journal.now.events in
    let summary = c.args.summary.now in
    let session = c.args.session in
    let kept = c.index-kept.result.now in
    let in_list : session < length summary.sessions.items = omega (arith, c.requires.within) in
    let is_kept = kept_at events history summary c.requires.stands session session kept refl in_list c.index-kept.ensures in
    let free_is = c.in_ok-free.ensures ∙ ap (λ (g : Option Given). is_granted (answer_to c.args.locks.now session (wants_in (read_in g)))) c.given.ensures in
    let counted : c.len.result ≡ length summary.commits.items = omega (arith, c.len.ensures) in
    subst (λ (found : Option Statement). Decides c.is_opening.result (IsLegalOpened history session c.args.statement c.args.snapshot c.args.route found)) c.in-Some.ensures
    (opening_decided events history summary c.requires.stands session kept is_kept c.args.statement c.args.snapshot c.args.route c.in-Some.opened.now c.in_ok-free.free
    (free_decided history c.args.locks.now c.requires.locks session (wants_of c.args.world.now session c.args.statement) c.in_ok-free.free free_is)
    c.if-not-free.false
    c.len.result c.snapshot_due-snapshot_due.result c.route_due-route_due.result c.in_ok-bound.bound c.is_opening.result
    (c.in_ok-bound.ensures ∙ ap (λ (d : Tables). not (is_some (bound_refusal c.in-Some.opened.now (def_of d)))) c.seen.ensures) c.if-not-bound.false counted c.snapshot_due-snapshot_due.ensures c.route_due-route_due.ensures c.is_opening.ensures)
