use Rattle.std.proofs.Common.{◌<◌, length, inl, inr, refl, arith}
use Rattle.dw_journal.specs.History.{History}
use Rattle.dw_judge.specs.declared.dues.Due.TheVariants as dues
use Rattle.dw_judge.specs.Verdicts.{history_before}
use Rattle.dw_judge.proofs.Following.{kept_at}
use Rattle.dw_judge.proofs.RefusalTests.{refused_commit, refused_never, refused_next, refused_open}
use Rattle.dw_judge.proofs.refusing.is_legal_refusal.Goals as goal

pub returns-in-Answer : goal.returns-in-Answer
returns-in-Answer c =
    let history : History = history_before c.args.world.now c.args.journal.now c.args.place in
    let events = c.args.journal.now.events in
    let summary = c.args.summary.now in
    let session = c.args.session in
    let kept = c.index-kept.result.now in
    let in_list : session < length summary.sessions.items = omega (arith, c.requires.within) in
    let is_kept = kept_at events history summary c.requires.stands session session kept refl in_list c.index-kept.ensures in
    refused_open events history summary c.requires.stands session kept is_kept c.args.refusal.now c.due_kept-due.result c.due_kept-due.ensures c.args.statement c.in-Answer.field-0 c.is_work_refusal.result c.in-Answer.is c.is_work_refusal.ensures

pub returns-in-Commit : goal.returns-in-Commit
returns-in-Commit c =
    let history : History = history_before c.args.world.now c.args.journal.now c.args.place in
    let events = c.args.journal.now.events in
    let summary = c.args.summary.now in
    let session = c.args.session in
    let kept = c.index-kept.result.now in
    let in_list : session < length summary.sessions.items = omega (arith, c.requires.within) in
    let is_kept = kept_at events history summary c.requires.stands session session kept refl in_list c.index-kept.ensures in
    refused_commit events history summary c.requires.stands session kept is_kept c.args.refusal.now c.due_kept-due.result c.due_kept-due.ensures c.args.statement c.in-Commit.field-0 c.as_slice.result.now c.is_commit_refusal.result c.in-Commit.is c.as_slice.ensures.value c.is_commit_refusal.ensures

pub is_next_refusal-requires-clause-entry : goal.is_next_refusal-requires-clause-entry
is_next_refusal-requires-clause-entry c = omega (arith, c.requires.within, c.requires.stands.number, c.requires.locks.counted)

pub returns-in-Take : goal.returns-in-Take
returns-in-Take c =
    let history : History = history_before c.args.world.now c.args.journal.now c.args.place in
    let events = c.args.journal.now.events in
    let summary = c.args.summary.now in
    let session = c.args.session in
    let kept = c.index-kept.result.now in
    let in_list : session < length summary.sessions.items = omega (arith, c.requires.within) in
    let is_kept = kept_at events history summary c.requires.stands session session kept refl in_list c.index-kept.ensures in
    refused_next events history summary c.requires.stands session kept is_kept c.args.refusal.now c.due_kept-due.result c.due_kept-due.ensures c.args.locks.now c.requires.locks c.args.statement c.in-Take.k c.is_next_refusal.result c.in-Take.is c.is_next_refusal.ensures

pub returns-in-Nothing : goal.returns-in-Nothing
returns-in-Nothing c =
    let history : History = history_before c.args.world.now c.args.journal.now c.args.place in
    let events = c.args.journal.now.events in
    let summary = c.args.summary.now in
    let session = c.args.session in
    let kept = c.index-kept.result.now in
    let in_list : session < length summary.sessions.items = omega (arith, c.requires.within) in
    let is_kept = kept_at events history summary c.requires.stands session session kept refl in_list c.index-kept.ensures in
    let never = refused_never events history summary c.requires.stands session kept is_kept c.args.refusal.now c.due_kept-due.result c.due_kept-due.ensures c.args.statement in
    elim c.in-Nothing.is [
      | inl is ↦ never dues.Nothing is (λ so. so)
      | inr more ↦ elim more [
        | inl is ↦ never (dues.Slice is.0 is.1) is.2 (λ so. so)
        | inr rest ↦ elim rest [ inl is ↦ never (dues.SweepEnd is.0) is.1 (λ so. so) | inr is ↦ never dues.Idle is (λ so. so) ]
      ]
    ]
