-- The fields without the table are those of the map without it.
use Rattle.std.proofs.Common.{sym, ap, subst, ◌∙◌}
use Rattle.std.specs.FinMap as map
use Rattle.dw_model.specs.Entries.{RowsAscend}
use Rattle.dw_model.proofs.EntryLemmas.{IsRemoved, remove_named, remove_unnamed, RowsAscend-remove}
use Rattle.dw_model.proofs.databases.Database.remove.Goals as goal

pub invariant_of-self : goal.invariant_of-self
invariant_of-self c =
    let items = c.self.inside.entries.items in
    let done = remove_named c.args.name.now items _ _ c.place_of-place.result c.is_named.result c.as_slice.ensures.value c.as_slice-2.ensures.value c.place_of-place.ensures.place c.is_named.ensures.named c.self.invariant.0 c.if-is_named.true in
    let next = subst (IsRemoved items c.args.name.now) (sym c.remove.ensures.items) done in
    (next.rise, subst RowsAscend (sym c.remove.ensures.items) (RowsAscend-remove items c.place_of-place.result c.self.invariant.1))

pub returns-then-is_named : goal.returns-then-is_named
returns-then-is_named c =
    let items = c.self.inside.entries.items in
    let done = remove_named c.args.name.now items _ _ c.place_of-place.result c.is_named.result c.as_slice.ensures.value c.as_slice-2.ensures.value c.place_of-place.ensures.place c.is_named.ensures.named c.self.invariant.0 c.if-is_named.true in
    let next = subst (IsRemoved items c.args.name.now) (sym c.remove.ensures.items) done in
    next.map ∙ ap (λ m. map.remove m c.args.name.now) c.self.view_is

pub returns-else-is_named : goal.returns-else-is_named
returns-else-is_named c =
    let items = c.self.inside.entries.items in
    sym c.self.view_is
    ∙ remove_unnamed c.args.name.now items _ _ c.place_of-place.result c.is_named.result c.as_slice.ensures.value c.as_slice-2.ensures.value c.place_of-place.ensures.place c.is_named.ensures.named c.self.invariant.0 c.if-is_named.false
    ∙ ap (λ m. map.remove m c.args.name.now) c.self.view_is
