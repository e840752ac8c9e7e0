-- A value that is shown joins those so far.
use Rattle.std.proofs.Common.{◌∙◌, ◌+◌, ◌++◌, ◌<◌, length, get_or, drop, sym, ap, List, arith}
use Rattle.dw_value.specs.declared.values.Value.{Value}
use Rattle.dw_model.specs.Selection.{shown_all}
use Rattle.dw_plain.proofs.SelectLemmas.{shown_turn}
use Rattle.dw_plain.proofs.select.shown_row.Goals as goal

pub loop-place-preserved : goal.loop-place-preserved
loop-place-preserved c =
    let kinds = c.args.kinds.now in
    let values : List Value = c.args.row.now.values in
    let i = c.loop-place.place in
    let within_kinds : i < length kinds = c.in-Some.ensures.lookup.3.0 in
    let within : i < length values = omega (arith, c.as_slice-value-items.ensures.len) in
    let here = c.value-item.is ∙ ap (λ vs. get_or vs i c.value-item.result) c.as_slice-value-items.ensures.items in
    c.loop-place.invariant
    ∙ shown_turn kinds values c.loop-place.fields i c.in-Some.kind.now c.value-item.result c.in_ok-show-in-Some.field-0 within_kinds c.in-Some.ensures.lookup.1 within here c.in_ok-show-in-Some.ensures
    ∙ ap (λ front. front ++ shown_all (drop (i + 1) kinds) (drop (i + 1) values)) (sym c.in_ok-push-in-Some.ensures.ok)
