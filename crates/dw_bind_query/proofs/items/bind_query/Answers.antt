-- Names, items and condition, put together.
use Rattle.std.proofs.Common.{ℕ, List, ◌∙◌, ap, subst, flat_map}
use Rattle.dw_query.specs.declared.queries.Item.{Item}
use Rattle.dw_query.specs.Binding.{beside, bound_condition, bound_items, item_names, query_of}
use Rattle.dw_bind_query.specs.Parts.{Gives}
use Rattle.dw_bind_query.proofs.items.bind_query.Goals as goal

pub returns : goal.returns
returns c =
    let items = subst (λ (items : List Item). Gives (bound_items c.args.sight.now items) c.bind_items-items.result) c.as_slice-2.ensures.items c.bind_items-items.ensures in
    subst (λ (names : List (List ℕ)). Gives (beside (query_of names) (bound_items c.args.sight.now c.args.query.now.items) (bound_condition c.args.sight.now c.args.query.now.keep)) c.query_of.result)
    (c.in_ok-names.ensures ∙ ap (flat_map (item_names c.args.sight.now)) c.as_slice.ensures.items)
    (c.query_of.ensures _ _ items c.bind_condition-keep.ensures)
