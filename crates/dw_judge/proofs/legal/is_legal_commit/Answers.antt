use Rattle.std.proofs.Common.{◌≡◌, ◌<◌, List, length, refl, ap, ◌∙◌, arith}
use Rattle.std.specs.Prelude.{reverse, Some, None}
use Rattle.dw_journal.specs.declared.Certified.{Certified}
use Rattle.dw_journal.specs.History.{History}
use Rattle.dw_journal.specs.Watermarks.{low_watermark, high_watermark}
use Rattle.dw_judge.specs.Verdicts.{history_before}
use Rattle.dw_judge.proofs.Following.{kept_at}
use Rattle.dw_judge.proofs.Judged.{commit_decided, commit_of_none, taken_is}
use Rattle.dw_judge.proofs.legal.is_legal_commit.Goals as goal

pub returns-in-Some : goal.returns-in-Some
returns-in-Some c =
    let history : History = history_before c.args.world.now c.args.journal.now c.args.place in
    let events = c.args.journal.now.events in
    let summary = c.args.summary.now in
    let session = c.args.session in
    let kept = c.index-kept.result.now in
    let one = c.in-Some.one in
    let in_list : session < length summary.sessions.items = omega (arith, c.requires.within) in
    let is_kept = kept_at events history summary c.requires.stands session session kept refl in_list c.index-kept.ensures in
    let took = taken_is events history session kept (Some one) is_kept c.in-Some.is in
    let counted : c.len.result ≡ length summary.commits.items = omega (arith, c.len.ensures) in
    commit_decided history session one.taken summary.commits.items c.bounds_over-bounds.result.low c.bounds_over-bounds.result.high took c.requires.stands.certified_are
    (c.bounds_over-bounds.ensures.low ∙ ap (λ (l : List Certified). low_watermark one.taken (reverse l)) c.as_slice.ensures.value)
    (c.bounds_over-bounds.ensures.high ∙ ap (λ (l : List Certified). high_watermark one.taken (reverse l)) c.as_slice.ensures.value)
    c.len.result c.args.stamp c.args.low c.args.high c.are_marks.result counted c.are_marks.ensures

pub returns-in-None : goal.returns-in-None
returns-in-None c =
    let history : History = history_before c.args.world.now c.args.journal.now c.args.place in
    let summary = c.args.summary.now in
    let session = c.args.session in
    let kept = c.index-kept.result.now in
    let in_list : session < length summary.sessions.items = omega (arith, c.requires.within) in
    let is_kept = kept_at c.args.journal.now.events history summary c.requires.stands session session kept refl in_list c.index-kept.ensures in
    commit_of_none history session (taken_is c.args.journal.now.events history session kept None is_kept c.in-None.is) c.args.stamp c.args.low c.args.high
