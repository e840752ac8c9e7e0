use Rattle.std.proofs.Common.{sym, subst, arith}
use Rattle.dw_journal.specs.History.{History}
use Rattle.dw_journal.specs.Worlds.{IsSession}
use Rattle.dw_core.specs.CoreInvariant.{IsKept}
use Rattle.dw_core.proofs.KeptSessions.{found}
use Rattle.dw_core.proofs.cores.Core.keeping.Goals as goal

pub returns-clause-kept : goal.returns-clause-kept
returns-clause-kept c =
    let i = c.self.inside in
    let session = c.args.session in
    let kept = c.index.result.now in
    let is : IsSession i.world session = subst (λ (h : History). IsSession h.world session) (sym c.self.view_is) c.requires.session in
    let there = found i.sessions.items c.place_of.result session kept c.place_of.ensures (omega (arith, c.place_of.ensures, c.self.invariant.number, is.0, is.1)) c.index.ensures in
    subst (λ (h : History). IsKept h session kept) c.self.view_is (c.self.invariant.each session kept is.0 there)
