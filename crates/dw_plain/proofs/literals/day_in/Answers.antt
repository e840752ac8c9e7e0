-- A day fits its 32 bits.
use Rattle.std.proofs.Common.{◌≡◌, ◌∙◌, ℤ, Some, option_map, FitsSigned, w32, sym, ap, rules}
use Rattle.std.proofs.lemmas.Int.{to_z-of_z}
use Rattle.dw_value.specs.declared.values.Value.TheVariants.{Day}
use Rattle.dw_value.specs.Dates.{day_in}
use Rattle.dw_plain.proofs.literals.day_in.Goals as goal

pub returns-in-Some : goal.returns-in-Some
returns-in-Some c =
    let fits : FitsSigned w32 c.in-Some.day = search rules in
    let read : day_in c.args.text.now ≡ Some c.in-Some.day = ap day_in (sym c.as_bytes.ensures.bytes) ∙ sym c.read_date.ensures ∙ c.in-Some.is in
    ap (λ (d : ℤ). Some (Day d)) (to_z-of_z w32 c.in-Some.day fits) ∙ ap (option_map (λ (d : ℤ). Day d)) (sym read)
