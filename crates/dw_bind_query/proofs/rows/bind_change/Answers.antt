-- New values and condition, put together.
use Rattle.std.proofs.Common.{◌≡◌, Bool, List, map, ◌∙◌, ap, subst}
use Rattle.dw_query.specs.declared.filling.Target.{Target}
use Rattle.dw_query.specs.Binding.{beside, bound_condition, bound_parts}
use Rattle.dw_query.specs.BindingRows.{a_set, change_with, clash_if, is_repeated, set_name, targets_in}
use Rattle.dw_bind_query.specs.Parts.{Gives}
use Rattle.dw_bind_query.proofs.rows.bind_change.Goals as goal

pub returns : goal.returns
returns c =
    let sets = bound_parts (a_set c.args.sight.now c.args.columns.now) c.args.sets.now in
    let keep = bound_condition c.args.sight.now c.args.keep.now in
    let names : c.as_slice.result.now ≡ map set_name c.args.sets.now = c.as_slice.ensures.items ∙ c.in_ok-names.ensures in
    let again : c.as_slice-2.result.now ≡ map set_name c.args.sets.now = c.as_slice-2.ensures.items ∙ c.in_ok-names.ensures in
    subst (λ (repeated : Bool). Gives (clash_if repeated (beside (change_with (targets_in (map set_name c.args.sets.now) c.args.columns.now)) sets keep)) c.clash_if.result)
    (c.is_repeated-repeated.ensures ∙ ap is_repeated again)
    (subst (λ (targets : List Target). Gives (clash_if c.is_repeated-repeated.result (beside (change_with targets) sets keep)) c.clash_if.result)
    (c.in_ok-targets.ensures ∙ ap (λ names. targets_in names c.args.columns.now) names)
    (c.clash_if.ensures _ (c.change_with.ensures _ _ c.bind_sets-values.ensures c.bind_condition-keep.ensures)))
