use Rattle.std.proofs.Common.{ap, subst, ◌∙◌}
use Rattle.dw_journal.specs.History.{History}
use Rattle.dw_journal.specs.Legal.{certified, high_by, low_by}
use Rattle.dw_ssn.specs.Summaries.{StandsFor}
use Rattle.dw_core.specs.Pruned.{pruned_at}
use Rattle.dw_core.proofs.cores.Core.marks.Goals as goal

pub returns-in-Some-clause-low : goal.returns-in-Some-clause-low
returns-in-Some-clause-low c =
    let stands = subst (λ (h : History). StandsFor c.self.inside.certifier (record { oldest = pruned_at h; commits = certified h })) c.self.view_is c.self.invariant.stands in
    c.watermarks.ensures.low _ stands ∙ ap (low_by (certified c.args.self.now)) c.in-Some.ensures.taken

pub returns-in-Some-clause-high : goal.returns-in-Some-clause-high
returns-in-Some-clause-high c =
    let stands = subst (λ (h : History). StandsFor c.self.inside.certifier (record { oldest = pruned_at h; commits = certified h })) c.self.view_is c.self.invariant.stands in
    c.watermarks.ensures.high _ stands ∙ ap (high_by (certified c.args.self.now)) c.in-Some.ensures.taken
