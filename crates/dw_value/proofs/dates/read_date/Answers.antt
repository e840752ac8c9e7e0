use Rattle.std.proofs.Common.{◌∙◌, sym, ap}
use Rattle.std.specs.Prelude.{ℕ, List, nat_eq}
use Rattle.std.specs.Cmp.Lexicographic.{pointwise}
use Rattle.dw_value.proofs.ReadDates.{read_by}
use Rattle.dw_value.proofs.dates.read_date.Goals as goal

pub returns-then-eq : goal.returns-then-eq
returns-then-eq c =
    let text : List ℕ = c.args.text.now in
    let same = c.as_slice.ensures ∙ c.form_bytes.ensures in
    let form = ap (λ (bytes : List ℕ). pointwise nat_eq text bytes) (sym same) ∙ sym c.eq.ensures ∙ c.if-eq.true in
    read_by text c.number_of-year.result c.number_of-month.result c.number_of-day.result _ _ _ c.day_of.result
    c.number_of-year.ensures c.number_of-month.ensures c.number_of-day.ensures form c.day_of.ensures
