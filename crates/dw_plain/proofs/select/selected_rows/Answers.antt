-- The rows that pass, sorted, are those of the answer.
use Rattle.std.proofs.Common.{◌≡◌, ◌∙◌, IfOk, List, map, ap, subst}
use Rattle.dw_value.specs.declared.values.Row.{Row}
use Rattle.dw_plain.specs.Places.{place_of}
use Rattle.dw_plain.proofs.SelectLemmas.{selected_places}
use Rattle.dw_plain.proofs.select.selected_rows.Goals as goal

pub returns : goal.returns
returns c =
    let places_is = c.as_slice-2.ensures.value ∙ c.in_ok-places.ensures ∙ ap (map (place_of c.args.columns.now)) c.as_slice.ensures.items in
    let whole = selected_places c.args.query.now c.args.columns.now c.args.rows.now c.in_ok-kept_rows.field-0 c.as_slice-2.result.now c.in_ok-condition.condition
    c.in_ok-kept_rows.ensures places_is c.in_ok-condition.ensures in
    subst (λ (s : List Row). IfOk c.sort_rows.result (λ answer. answer ≡ s)) whole c.sort_rows.ensures.rows
