use Rattle.std.proofs.Common.{◌≤◌, ◌<◌, length, refl, sym, ◌∙◌, arith}
use Rattle.dw_journal.specs.History.{History}
use Rattle.dw_journal.specs.Worlds.{session_count}
use Rattle.dw_judge.specs.Verdicts.{history_before}
use Rattle.dw_judge.proofs.Following.{unowned_follows, past_follows, kept_at, kept_follows}
use Rattle.dw_judge.proofs.follows.follows.Goals as goal

pub returns-in_default : goal.returns-in_default
returns-in_default c =
    let history : History = history_before c.args.world.now c.args.journal.now c.args.place in
    ((λ is. unowned_follows history c.args.event.now (sym c.session.ensures ∙ c.in_default.is)), (λ follows. refl))

pub returns-then-session-len : goal.returns-then-session-len
returns-then-session-len c =
    let history : History = history_before c.args.world.now c.args.journal.now c.args.place in
    past_follows c.args.journal.now.events history c.args.summary.now c.requires.stands c.in-Some.session c.args.event.now (sym c.in-Some.ensures) (omega (arith, c.len.ensures, c.if-session-len.true))

pub returns : goal.returns
returns c =
    let history : History = history_before c.args.world.now c.args.journal.now c.args.place in
    let events = c.args.journal.now.events in
    let summary = c.args.summary.now in
    let session = c.in-Some.session in
    let kept = c.index-kept.result.now in
    let in_list : session < length summary.sessions.items = omega (arith, c.len.ensures, c.if-session-len.false) in
    let within : session ≤ session_count history.world = omega (arith, c.requires.stands.number, in_list) in
    kept_follows events history session kept (kept_at events history summary c.requires.stands session session kept refl in_list c.index-kept.ensures)
    c.args.event.now c.has_open.result c.is_due.result _ (sym c.in-Some.ensures) within c.has_open.ensures c.due_kept-due.ensures c.is_due.ensures
