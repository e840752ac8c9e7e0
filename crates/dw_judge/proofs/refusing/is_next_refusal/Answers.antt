use Rattle.std.proofs.Common.{◌≡◌, ℕ, List, sym, ap, subst, ◌∙◌}
use Rattle.std.specs.Prelude.{Option, Some, reverse}
use Rattle.std.specs.Bool.{Decides}
use Rattle.std.specs.List.{position}
use Rattle.dw_model.specs.Databases.{Tables}
use Rattle.dw_journal.specs.declared.Given.{Given}
use Rattle.dw_journal.specs.Worlds.{read_in}
use Rattle.dw_journal.specs.Locks.{wants_in}
use Rattle.dw_journal.specs.Turns.{call_of}
use Rattle.dw_locks.specs.declared.locks.Asked.{Asked}
use Rattle.dw_locks.specs.Requests.{answer_to}
use Rattle.dw_judge.specs.declared.sessions.Session.{Session}
use Rattle.dw_judge.specs.Judging.{seen_in}
use Rattle.dw_judge.specs.RefusedNext.{IsNextKept, opening_kept}
use Rattle.dw_judge.proofs.RefusalTests.{found-decides, next_unopened}
use Rattle.dw_judge.proofs.refusing.is_next_refusal.Goals as goal

pub returns : goal.returns
returns c =
    let given = c.in-Some.given.now in
    let refusal = c.args.refusal.now in
    let summary = c.args.summary.now in
    let kept = c.args.kept.now in
    let seen = seen_in summary.database kept.transaction in
    let swept = position (λ (one : Session). one.sweeps) summary.sessions.items in
    let asked_by = λ (g : Option Given). answer_to c.args.locks.now c.args.session (wants_in (read_in g)) in
    let asked = c.in_ok-asked.asked in
    let swept_is : c.sweeper_of-swept.result ≡ swept = c.sweeper_of-swept.ensures.place ∙ ap (λ (l : List Session). position (λ (one : Session). one.sweeps) l) c.as_slice-2.ensures.value in
    subst (λ (found : Option Given). Decides c.is_found.result (IsNextKept summary.database seen swept (asked_by found) (reverse summary.commits.items) kept.transaction refusal found kept.block)) c.in-Some.ensures
    (subst (λ (a : Asked). Decides c.is_found.result (IsNextKept summary.database seen swept a (reverse summary.commits.items) kept.transaction refusal (Some given) kept.block)) c.in_ok-asked.ensures
    (next_unopened summary.database seen swept asked (reverse summary.commits.items) kept.transaction refusal given kept.block c.in_ok-found.found c.is_found.result
    (found-decides c.in_ok-found.found refusal c.is_found.result c.is_found.ensures)
    (c.in_ok-found.ensures ∙ ap (λ (w : Option ℕ). opening_kept w asked summary.database c.seen.result.now (call_of given) kept.block) swept_is
    ∙ ap (λ (t : Tables). opening_kept swept asked summary.database t (call_of given) kept.block) c.seen.ensures)
    (sym c.is_block_commit.ensures ∙ c.if-is_block_commit.false)))
