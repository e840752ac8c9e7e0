use Rattle.std.proofs.Common.{◌<◌, false, List, length, refl, ap, ◌∙◌, arith}
use Rattle.std.specs.Prelude.{reverse, Some, None}
use Rattle.std.specs.Option.{option_map_or}
use Rattle.dw_model.specs.Objects.{same_object}
use Rattle.dw_journal.specs.declared.Certified.{Certified}
use Rattle.dw_journal.specs.History.{History}
use Rattle.dw_journal.specs.Watermarks.{low_watermark, high_watermark, violated_object}
use Rattle.dw_judge.specs.Verdicts.{history_before}
use Rattle.dw_judge.proofs.Following.{kept_at}
use Rattle.dw_judge.proofs.Judged.{violation_decided, violation_of_none, taken_is}
use Rattle.dw_judge.proofs.legal.is_legal_violation.Goals as goal

pub returns-in-Some : goal.returns-in-Some
returns-in-Some c =
    let history : History = history_before c.args.world.now c.args.journal.now c.args.place in
    let events = c.args.journal.now.events in
    let summary = c.args.summary.now in
    let session = c.args.session in
    let kept = c.index-kept.result.now in
    let one = c.in-Some.one in
    let in_list : session < length summary.sessions.items = omega (arith, c.requires.within) in
    let is_kept = kept_at events history summary c.requires.stands session session kept refl in_list c.index-kept.ensures in
    let took = taken_is events history session kept (Some one) is_kept c.in-Some.is in
    let named_is = c.is_violated-named.ensures ∙ ap (λ (l : List Certified). option_map_or (same_object c.args.object.now) (violated_object one.taken (reverse l)) false) c.as_slice-in-Some.ensures.value in
    violation_decided history session one.taken summary.commits.items c.bounds_over-bounds.result.low c.bounds_over-bounds.result.high took c.requires.stands.certified_are
    (c.bounds_over-bounds.ensures.low ∙ ap (λ (l : List Certified). low_watermark one.taken (reverse l)) c.as_slice.ensures.value)
    (c.bounds_over-bounds.ensures.high ∙ ap (λ (l : List Certified). high_watermark one.taken (reverse l)) c.as_slice.ensures.value)
    c.args.low c.args.high c.args.object.now c.is_violated-named.result c.are_violating.result named_is c.are_violating.ensures

pub returns-in-None : goal.returns-in-None
returns-in-None c =
    let history : History = history_before c.args.world.now c.args.journal.now c.args.place in
    let summary = c.args.summary.now in
    let session = c.args.session in
    let kept = c.index-kept.result.now in
    let in_list : session < length summary.sessions.items = omega (arith, c.requires.within) in
    let is_kept = kept_at c.args.journal.now.events history summary c.requires.stands session session kept refl in_list c.index-kept.ensures in
    violation_of_none history session (taken_is c.args.journal.now.events history session kept None is_kept c.in-None.is) c.args.low c.args.high c.args.object.now
