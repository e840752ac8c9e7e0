use Rattle.std.proofs.Common.{◌≡◌, ◌-◌, ◌++◌, ℕ, ℤ, Some, None, length, to_z, of_z, arith, sym, ap, ◌∙◌, subst}
use Rattle.std.specs.Prelude.{replicate}
use Rattle.std.specs.Int.{w128}
use Rattle.std.specs.Ordering.{int_eq}
use Rattle.std.proofs.lemmas.Bool.{eqb-true, eqb-false}
use Rattle.dw_codec_plain.specs.Numbers.{FitsWidth, number}
use Rattle.dw_codec_plain.proofs.Signed.{same_bits}
use Rattle.dw_codec_runs.specs.Runs.{IsRun}
use Rattle.dw_codec_runs.proofs.RunsDecoding.{IsDecoding, decoding_begins, decoding_goes_on, decoding_done, decoding_stops, decoding_trails}
use Rattle.dw_codec_runs.proofs.RunsNumbers.{number_code}
use Rattle.dw_codec_runs.proofs.runlength.decode_runlength.Goals as goal

pub loop-left-init : goal.loop-left-init
loop-left-init c =
    subst (λ t. IsDecoding int_eq (number c.args.width) (FitsWidth c.args.width) c.args.count c.args.bytes.now t c.args.count None c.args.bytes.now) (sym c.in_ok-values.ensures.items)
    (decoding_begins int_eq (number c.args.width) (FitsWidth c.args.width) (number_code c.args.width c.requires.width) c.args.count c.args.bytes.now)

pub loop-left-preserved : goal.loop-left-preserved
loop-left-preserved c =
    let value : ℤ = c.in-Some.value in
    let times : ℕ = c.in-Some.times in
    let run : IsRun (FitsWidth c.args.width) c.loop-left.before c.loop-left.left (record { times = times; value = value }) = c.in-Some.ensures.run in
    let bits : to_z w128 (of_z w128 value) ≡ value = same_bits c.args.width c.requires.width value run.value.fits in
    let pushed : c.push_equal.new.out.items ≡ c.loop-left.values.items ++ replicate times value =
    c.in_ok-push_equal-in-Some.ensures.ok ∙ ap (λ (z : ℤ). c.loop-left.values.items ++ replicate times z) bits in
    subst (λ z. IsDecoding int_eq (number c.args.width) (FitsWidth c.args.width) c.args.count c.args.bytes.now c.push_equal.new.out.items (c.loop-left.left - times) (Some z) c.in-Some.after.now) (sym bits)
    (subst (λ t. IsDecoding int_eq (number c.args.width) (FitsWidth c.args.width) c.args.count c.args.bytes.now t (c.loop-left.left - times) (Some value) c.in-Some.after.now) (sym pushed)
    (decoding_goes_on int_eq (number c.args.width) (FitsWidth c.args.width) (number_code c.args.width c.requires.width) c.args.count c.args.bytes.now c.loop-left.values.items c.loop-left.left
    c.loop-left.before c.loop-left.rest.now c.in-Some.after.now times value (omega (arith, c.requires.count)) c.loop-left.invariant run c.in-Some.ensures.spells))

pub returns-in-None-clause-fault : goal.returns-in-None-clause-fault
returns-in-None-clause-fault c =
    decoding_stops int_eq (number c.args.width) (FitsWidth c.args.width) (number_code c.args.width c.requires.width) c.args.count c.args.bytes.now c.loop-left.values.items c.loop-left.left
    c.loop-left.before c.loop-left.rest.now c.run_front-front.result c.loop-left.invariant c.loop-left-test.true c.in-None.ensures.none c.run_front-front.ensures

pub returns-then-not-is_empty-clause-fault : goal.returns-then-not-is_empty-clause-fault
returns-then-not-is_empty-clause-fault c =
    let some : length c.loop-left.rest.now ≡ 0 → ⊥ = eqb-false _ _ (sym c.is_empty.ensures ∙ c.if-not-is_empty.true) in
    decoding_trails int_eq (number c.args.width) (FitsWidth c.args.width) (number_code c.args.width c.requires.width) c.args.count c.args.bytes.now c.loop-left.values.items c.loop-left.left
    c.loop-left.before c.loop-left.rest.now c.loop-left.invariant (omega (arith, c.loop-left-test.false)) (omega arith)

pub returns-clause-values : goal.returns-clause-values
returns-clause-values c =
    let none : length c.loop-left.rest.now ≡ 0 = eqb-true _ _ (sym c.is_empty.ensures ∙ c.if-not-is_empty.false) in
    decoding_done int_eq (number c.args.width) (FitsWidth c.args.width) (number_code c.args.width c.requires.width) c.args.count c.args.bytes.now c.loop-left.values.items c.loop-left.left
    c.loop-left.before c.loop-left.rest.now c.loop-left.invariant (omega (arith, c.loop-left-test.false)) none
