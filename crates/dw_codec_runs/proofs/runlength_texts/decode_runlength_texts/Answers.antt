use Rattle.std.proofs.Common.{◌≡◌, ◌-◌, ℕ, List, Some, None, length, arith, sym, ◌∙◌, subst}
use Rattle.std.specs.Option.{option_copied}
use Rattle.std.specs.Str.{bytes_eq}
use Rattle.std.proofs.lemmas.Bool.{eqb-true, eqb-false}
use Rattle.dw_codec_plain.specs.Encodings.{IsText, raw_text}
use Rattle.dw_codec_runs.proofs.RunsDecoding.{IsDecoding, decoding_begins, decoding_goes_on, decoding_done, decoding_stops, decoding_trails}
use Rattle.dw_codec_runs.proofs.RunsTexts.{text_code}
use Rattle.dw_codec_runs.proofs.runlength_texts.decode_runlength_texts.Goals as goal

pub loop-left-init : goal.loop-left-init
loop-left-init c =
    subst (λ t. IsDecoding bytes_eq raw_text IsText c.args.count c.args.bytes.now t c.args.count None c.args.bytes.now) (sym c.in_ok-values.ensures.items)
    (decoding_begins bytes_eq raw_text IsText text_code c.args.count c.args.bytes.now)

pub loop-left-preserved : goal.loop-left-preserved
loop-left-preserved c =
    let text : List ℕ = c.in-Some.text.now in
    let times : ℕ = c.in-Some.times in
    subst (λ t. IsDecoding bytes_eq raw_text IsText c.args.count c.args.bytes.now t (c.loop-left.left - times) (Some text) c.in-Some.after.now) (sym c.in_ok-push_equal-in-Some.ensures.ok)
    (decoding_goes_on bytes_eq raw_text IsText text_code c.args.count c.args.bytes.now c.loop-left.values.items c.loop-left.left (option_copied c.loop-left.before) c.loop-left.rest.now c.in-Some.after.now
    times text (omega (arith, c.requires)) c.loop-left.invariant c.in-Some.ensures.run c.in-Some.ensures.spells)

pub returns-in-None-clause-fault : goal.returns-in-None-clause-fault
returns-in-None-clause-fault c =
    decoding_stops bytes_eq raw_text IsText text_code c.args.count c.args.bytes.now c.loop-left.values.items c.loop-left.left (option_copied c.loop-left.before) c.loop-left.rest.now
    c.run_front-front.result c.loop-left.invariant c.loop-left-test.true c.in-None.ensures.none c.run_front-front.ensures

pub returns-then-not-is_empty-clause-fault : goal.returns-then-not-is_empty-clause-fault
returns-then-not-is_empty-clause-fault c =
    let some : length c.loop-left.rest.now ≡ 0 → ⊥ = eqb-false _ _ (sym c.is_empty.ensures ∙ c.if-not-is_empty.true) in
    decoding_trails bytes_eq raw_text IsText text_code c.args.count c.args.bytes.now c.loop-left.values.items c.loop-left.left (option_copied c.loop-left.before) c.loop-left.rest.now
    c.loop-left.invariant (omega (arith, c.loop-left-test.false)) (omega arith)

pub returns-clause-values : goal.returns-clause-values
returns-clause-values c =
    let none : length c.loop-left.rest.now ≡ 0 = eqb-true _ _ (sym c.is_empty.ensures ∙ c.if-not-is_empty.false) in
    decoding_done bytes_eq raw_text IsText text_code c.args.count c.args.bytes.now c.loop-left.values.items c.loop-left.left (option_copied c.loop-left.before) c.loop-left.rest.now
    c.loop-left.invariant (omega (arith, c.loop-left-test.false)) none
