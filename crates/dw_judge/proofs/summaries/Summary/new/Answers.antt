use Rattle.std.proofs.Common.{◌≡◌, ℕ, suc, replicate, false, ap, ◌∙◌, arith}
use Rattle.std.specs.Prelude.{None}
use Rattle.dw_journal.specs.declared.BlockState.TheVariants as blocks
use Rattle.dw_judge.specs.declared.sessions.Session.{Session}
use Rattle.dw_judge.proofs.summaries.Summary.new.Goals as goal

pub returns-clause-sessions : goal.returns-clause-sessions
returns-clause-sessions c =
    let fresh : Session = record { taken = 0; block = blocks.Outside; newest = None; sweeps = false; transaction = None } in
    let all : c.loop.counter ≡ suc c.args.sessions = omega (arith, c.loop-test.false) in
    c.loop.invariant.sessions ∙ ap (λ (n : ℕ). replicate n fresh) all

pub returns-clause-horizons : goal.returns-clause-horizons
returns-clause-horizons c =
    let all : c.loop.counter ≡ suc c.args.sessions = omega (arith, c.loop-test.false) in
    c.loop.invariant.horizons ∙ ap (λ (n : ℕ). replicate n 0) all
