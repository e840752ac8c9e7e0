use Rattle.std.proofs.Common.{◌≡◌, ◌∙◌, rules, subst, sym, arith, ℤ, FitsSigned, w32}
use Rattle.std.proofs.lemmas.Int.{to_z-of_z}
use Rattle.dw_value.specs.declared.values.Value.TheVariants.{Number, Day, Truth}
use Rattle.dw_codec_plain.specs.Numbers.{FitsWidth}
use Rattle.dw_codec_plain.proofs.Signed.{same_bits}
use Rattle.dw_value.specs.Encodings.{width}
use Rattle.dw_block.specs.Blocks.{IsValueOf}
use Rattle.dw_block.proofs.Fit.{number_fits, day_fits, truth_fits}
use Rattle.dw_block.proofs.Forms.{IsWidth-width}
use Rattle.dw_block.proofs.kinds.number_in.Goals as goal

pub returns-in-Number-clause-fits : goal.returns-in-Number-clause-fits
returns-in-Number-clause-fits c =
    let is : IsValueOf c.args.kind (Number c.in-Number.number) = subst (λ v. IsValueOf c.args.kind v) c.in-Number.is c.requires.is in
    let fits : FitsWidth (width c.args.kind) c.in-Number.number = number_fits c.args.kind c.in-Number.number c.requires.kind is in
    subst (λ (n : ℤ). FitsWidth (width c.args.kind) n) (sym (same_bits (width c.args.kind) (IsWidth-width c.args.kind) c.in-Number.number fits)) fits

pub returns-in-Day-clause-fits : goal.returns-in-Day-clause-fits
returns-in-Day-clause-fits c =
    let is : IsValueOf c.args.kind (Day c.in-Day.day) = subst (λ v. IsValueOf c.args.kind v) c.in-Day.is c.requires.is in
    let range : FitsSigned w32 c.in-Day.day = search rules in
    let same : c.from.result ≡ c.in-Day.day = c.from.ensures ∙ to_z-of_z w32 c.in-Day.day range in
    let fits : FitsWidth (width c.args.kind) c.from.result = subst (λ (n : ℤ). FitsWidth (width c.args.kind) n) (sym same) (day_fits c.args.kind c.in-Day.day range is) in
    subst (λ (n : ℤ). FitsWidth (width c.args.kind) n) (sym (same_bits (width c.args.kind) (IsWidth-width c.args.kind) c.from.result fits)) fits

pub returns-in-Truth-true-clause-fits : goal.returns-in-Truth-true-clause-fits
returns-in-Truth-true-clause-fits c =
    let is : IsValueOf c.args.kind (Truth c.in-Truth-true.field-0) = subst (λ v. IsValueOf c.args.kind v) c.in-Truth-true.is c.requires.is in
    truth_fits c.args.kind c.in-Truth-true.field-0 1 (omega arith) is

pub returns-in-Truth-false-clause-fits : goal.returns-in-Truth-false-clause-fits
returns-in-Truth-false-clause-fits c =
    let is : IsValueOf c.args.kind (Truth c.in-Truth-false.field-0) = subst (λ v. IsValueOf c.args.kind v) c.in-Truth-false.is c.requires.is in
    truth_fits c.args.kind c.in-Truth-false.field-0 0 (omega arith) is
