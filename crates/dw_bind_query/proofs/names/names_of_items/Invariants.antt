-- The names so far, with those that are left, are all.
use Rattle.std.proofs.Common.{◌≡◌, ◌++◌, drop, flat_map}
use Rattle.dw_query.specs.Binding.{item_names}
use Rattle.dw_bind_query.proofs.names.names_of_items.Given as goal

abbrev pub invariant-loop-item : goal.invariant-loop-item
invariant-loop-item l = l.names ++ flat_map (item_names l.sight) (drop l.item-index l.items) ≡ flat_map (item_names l.sight) l.items
