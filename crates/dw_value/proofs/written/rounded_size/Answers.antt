use Rattle.std.proofs.Common.{ℕ, pos, FitsSigned, SomeIff, sym, subst, arith}
use Rattle.std.specs.Int.{w128}
use Rattle.std.proofs.lemmas.Int.{ints}
use Rattle.dw_value.proofs.WrittenNumbers.{rounded_down, rounded_up}
use Rattle.dw_value.proofs.written.rounded_size.Goals as goal

pub returns-then-fraction-kept-lt53 : goal.returns-then-fraction-kept-lt53
returns-then-fraction-kept-lt53 c =
    let down = rounded_down c.args.whole.now c.args.fraction.now c.args.kept c.requires.digits c.requires.kept c.if-fraction-kept-lt53.true in
    subst (λ (k : ℕ). SomeIff c.digits_size-size.result (FitsSigned w128 (pos k)) (pos k)) (sym down) c.digits_size-size.ensures

pub returns-in-Some : goal.returns-in-Some
returns-in-Some c =
    let up = rounded_up c.args.whole.now c.args.fraction.now c.args.kept c.requires.digits c.requires.kept (omega (arith, c.if-fraction-kept-lt53.false)) in
    (omega (arith, ints, up, c.in-Some.ensures), omega (arith, ints, up, c.in-Some.ensures))

pub returns-in-Some-2 : goal.returns-in-Some-2
returns-in-Some-2 c =
    let up = rounded_up c.args.whole.now c.args.fraction.now c.args.kept c.requires.digits c.requires.kept (omega (arith, c.if-fraction-kept-lt53.false)) in
    λ fits. absurd (omega (arith, ints, up, fits, c.in-Some.ensures))

pub returns-in-None : goal.returns-in-None
returns-in-None c =
    let up = rounded_up c.args.whole.now c.args.fraction.now c.args.kept c.requires.digits c.requires.kept (omega (arith, c.if-fraction-kept-lt53.false)) in
    λ fits. c.in-None.ensures (omega (arith, ints, up, fits))
