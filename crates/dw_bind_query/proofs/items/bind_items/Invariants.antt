-- The items so far, with those that are left, are all.
use Rattle.std.proofs.Common.{◌≡◌, drop}
use Rattle.dw_query.specs.Binding.{appended, bound_item, bound_items, bound_parts}
use Rattle.dw_bind_query.specs.Parts.{so_far}
use Rattle.dw_bind_query.proofs.items.bind_items.Given as goal

abbrev pub invariant-loop-item : goal.invariant-loop-item
invariant-loop-item l =
    appended (so_far l.parts.made l.parts.refusal) (bound_parts (bound_item l.sight) (drop l.item-index l.items)) ≡ bound_items l.sight l.items
