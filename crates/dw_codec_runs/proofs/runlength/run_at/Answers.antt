use Rattle.std.proofs.Common.{◌≡◌, ◌++◌, ℕ, ℤ, Some, List, drop, arith, sym, ap, ◌∙◌}
use Rattle.std.specs.Ordering.{int_eq}
use Rattle.std.proofs.lemmas.List.{take-append-drop}
use Rattle.dw_codec_plain.specs.Numbers.{FitsWidth, number}
use Rattle.dw_codec_plain.proofs.Signed.{same_bits}
use Rattle.dw_codec_runs.proofs.RunsValues.{value_none, same_value_none}
use Rattle.dw_codec_runs.proofs.RunsNumbers.{number_code}
use Rattle.dw_codec_runs.proofs.runlength.run_at.Goals as goal

pub returns-then-is_same-clause-none : goal.returns-then-is_same-clause-none
returns-then-is_same-clause-none c =
    let value : ℤ = c.number_at-value.result in
    let behind : List ℕ = c.in_ok-times.behind.now in
    let whole : behind ≡ number c.args.width value ++ drop c.args.width behind =
    sym (take-append-drop c.args.width behind) ∙ ap (λ (t : List ℕ). t ++ drop c.args.width behind) (sym c.number_at-value.ensures.spells) in
    let before : c.args.before ≡ Some value = c.is_same.ensures.0 c.if-is_same.true ∙ ap (λ (z : ℤ). Some z) (same_bits c.args.width c.requires.width value c.number_at-value.ensures.fits) in
    value_none int_eq (number c.args.width) (FitsWidth c.args.width) (number_code c.args.width c.requires.width) c.args.before c.args.left c.in_ok-times.times c.args.bytes.now behind
    (omega (arith, c.requires.left)) c.in_ok-times.ensures.times c.in_ok-times.ensures.spells
    (same_value_none int_eq (number c.args.width) (FitsWidth c.args.width) (number_code c.args.width c.requires.width) c.args.before behind value (drop c.args.width behind)
    c.number_at-value.ensures.fits before whole)
