use Rattle.std.proofs.Common.{◌≡◌, ℕ, None, subst}
use Rattle.dw_journal.specs.History.{History}
use Rattle.dw_journal.specs.Worlds.{session_count}
use Rattle.dw_journal.specs.Vacuums.{swept_by}
use Rattle.dw_journal.specs.Follows.{EachFollows}
use Rattle.dw_journal.specs.Legal.{EachIsLegal}
use Rattle.dw_core.proofs.cores.Core.is_legal.Goals as goal

pub returns-clause-follows : goal.returns-clause-follows
returns-clause-follows c = subst (λ (h : History). EachFollows h.shape h.world h.events) c.self.view_is c.self.invariant.follows

pub returns-clause-legal : goal.returns-clause-legal
returns-clause-legal c = subst (λ (h : History). EachIsLegal h.shape h.world h.events) c.self.view_is c.self.invariant.legal

pub returns-clause-shaped : goal.returns-clause-shaped
returns-clause-shaped c = subst (λ (h : History). h.shape.sessions ≡ session_count h.world) c.self.view_is c.self.invariant.shaped

pub returns-clause-unswept : goal.returns-clause-unswept
returns-clause-unswept c = subst (λ (h : History). (other : ℕ) → swept_by other h.events ≡ None) c.self.view_is c.self.invariant.unswept
