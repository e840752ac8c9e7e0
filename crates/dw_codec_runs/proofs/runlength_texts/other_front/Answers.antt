use Rattle.std.proofs.Common.{◌≡◌, ◌+◌, ◌-◌, List, ℕ, Some, length, arith, subst}
use Rattle.std.specs.Option.{option_copied}
use Rattle.std.specs.Str.{bytes_eq}
use Rattle.std.proofs.lemmas.Bool.{both_ways}
use Rattle.dw_codec_plain.specs.Encodings.{IsText, raw_text}
use Rattle.dw_codec_plain.specs.Spelling.{IsLongestFront}
use Rattle.dw_codec_plain.proofs.TextItems.{length-raw_text}
use Rattle.dw_codec_runs.proofs.RunsValues.{IsOtherText, cut_front, same_value_front, other_value_front}
use Rattle.dw_codec_runs.proofs.RunsTexts.{text_code}
use Rattle.dw_codec_runs.proofs.runlength_texts.other_front.Goals as goal

pub returns-then-is_same : goal.returns-then-is_same
returns-then-is_same c =
    let text : List ℕ = c.in-Some.text.now in
    let long : length (raw_text text) - 1 ≡ 1 + length text = omega (arith, length-raw_text text) in
    subst (λ k. IsLongestFront (IsOtherText raw_text IsText (option_copied c.args.before)) c.args.bytes.now k) long
    (same_value_front bytes_eq raw_text IsText text_code (option_copied c.args.before) c.args.bytes.now text c.in-Some.field-0-1.now c.in-Some.ensures.text
    (c.is_same.ensures.0 c.if-is_same.true) c.in-Some.ensures.spells)

pub returns-else-is_same : goal.returns-else-is_same
returns-else-is_same c =
    let text : List ℕ = c.in-Some.text.now in
    let differs : option_copied c.args.before ≡ Some text → ⊥ = λ e. both_ways _ c.if-is_same.false (c.is_same.ensures.1 e) in
    let long : length (raw_text text) ≡ 2 + length text = length-raw_text text in
    subst (λ k. IsLongestFront (IsOtherText raw_text IsText (option_copied c.args.before)) c.args.bytes.now k) long
    (other_value_front bytes_eq raw_text IsText text_code (option_copied c.args.before) c.args.bytes.now text c.in-Some.field-0-1.now
    (record { fits = c.in-Some.ensures.text; differs = differs }) c.in-Some.ensures.spells)

pub returns-in-None : goal.returns-in-None
returns-in-None c = cut_front bytes_eq raw_text IsText text_code (option_copied c.args.before) c.args.bytes.now c.in-None.ensures.none c.in-None.ensures.front
