use Rattle.std.proofs.Common.{◌≡◌, subst}
use Rattle.dw_journal.specs.History.{History}
use Rattle.dw_journal.specs.Legal.{certified}
use Rattle.dw_ssn.specs.CommitList.{entry_count}
use Rattle.dw_core.specs.Pruned.{pruned_at}
use Rattle.dw_core.proofs.cores.Core.kept.Goals as goal

pub returns : goal.returns
returns c = subst (λ (h : History). c.entries.result ≡ entry_count (pruned_at h) (certified h)) c.self.view_is (c.entries.ensures _ c.self.invariant.stands)
