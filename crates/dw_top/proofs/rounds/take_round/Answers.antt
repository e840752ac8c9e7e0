use Rattle.std.proofs.Common.{◌≡◌, ℕ, suc, sym, ap, subst, ◌∙◌, arith, add-one}
use Rattle.dw_engine.specs.Steps.{IsStep}
use Rattle.dw_top.specs.Rounds.{Leads}
use Rattle.dw_journal.specs.Worlds.{session_count}
use Rattle.dw_journal.specs.Driven.{round_of}
use Rattle.dw_top.proofs.Nearing.{InRound, round_none, round_more}
use Rattle.dw_top.proofs.Ending.{round_nearer}
use Rattle.dw_top.proofs.rounds.take_round.Goals as goal

pub loop-before-init : goal.loop-before-init
loop-before-init c = round_none c.args.sessions c.args.engine.now

pub step-requires : goal.step-requires
step-requires c =
    let same : session_count c.loop-before.engine.world ≡ session_count c.args.engine.now.world = ap session_count c.loop-before.invariant.leads.world in
    record { session = (omega arith, omega (arith, same, c.requires.sessions, c.loop-before-test.true)) }

pub loop-before-preserved : goal.loop-before-preserved
loop-before-preserved c =
    let step : IsStep (suc c.loop-before.before) c.loop-before.engine c.step.new.self =
    subst (λ (n : ℕ). IsStep n c.loop-before.engine c.step.new.self) (add-one c.loop-before.before) c.in_ok-step.ensures.step in
    (subst (λ (n : ℕ). InRound n c.args.sessions c.args.engine.now c.step.new.self) (sym (add-one c.loop-before.before))
    (round_more c.loop-before.before c.args.sessions c.loop-before-test.true c.loop-before.invariant step))

pub returns-clause-leads : goal.returns-clause-leads
returns-clause-leads c =
    let all : c.loop-before.before ≡ c.args.sessions = omega (arith, c.loop-before-test.false, c.loop-before.auto.before-end) in
    subst (λ (n : ℕ). Leads (round_of n) c.args.engine.now c.loop-before.engine) all c.loop-before.invariant.leads

pub returns-clause-nearer : goal.returns-clause-nearer
returns-clause-nearer c =
    let all : c.loop-before.before ≡ c.args.sessions = omega (arith, c.loop-before-test.false, c.loop-before.auto.before-end) in
    round_nearer c.args.sessions c.requires.sessions (subst (λ (n : ℕ). InRound n c.args.sessions c.args.engine.now c.loop-before.engine) all c.loop-before.invariant)
    c.requires.left c.is_legal.ensures.follows c.is_legal.ensures.legal c.is_legal.ensures.shaped c.is_legal.ensures.unswept
