-- The table at the place of the name, where that one has the name.
use Rattle.std.proofs.Common.{Some, sym, ap, subst, ◌∙◌, ◌<◌, length, arith}
use Rattle.std.specs.FinMap as map
use Rattle.dw_model.specs.declared.tables.Table.{Table}
use Rattle.dw_model.specs.Databases.{IsAscending}
use Rattle.dw_model.proofs.EntryLemmas.{get_named, get_unnamed, RowsAscend-get_or}
use Rattle.dw_model.proofs.databases.Database.get.Goals as goal

pub returns-then-is_named-clause-table : goal.returns-then-is_named-clause-table
returns-then-is_named-clause-table c =
    let items = c.self.inside.entries.items in
    let within : c.place_of-place.result < length items = omega (arith, c.is_named.ensures.within c.if-is_named.true, ap length c.as_slice-2.ensures.value) in
    ap Some c.deref.ensures
    ∙ sym (get_named c.args.name.now items _ _ c.place_of-place.result c.is_named.result c.as_slice.ensures.value c.as_slice-2.ensures.value c.place_of-place.ensures.place c.is_named.ensures.named c.self.invariant.0 _ c.if-is_named.true within c.index.ensures)
    ∙ ap (λ m. map.get m c.args.name.now) c.self.view_is

pub returns-then-is_named-clause-ascending : goal.returns-then-is_named-clause-ascending
returns-then-is_named-clause-ascending c =
    let items = c.self.inside.entries.items in
    let within : c.place_of-place.result < length items = omega (arith, c.is_named.ensures.within c.if-is_named.true, ap length c.as_slice-2.ensures.value) in
    subst (λ (table : Table). IsAscending table.rows) (sym c.deref.ensures) (RowsAscend-get_or items c.place_of-place.result _ c.self.invariant.1 within c.index.ensures)

pub returns-else-is_named-clause-table : goal.returns-else-is_named-clause-table
returns-else-is_named-clause-table c =
    sym (get_unnamed c.args.name.now c.self.inside.entries.items _ _ c.place_of-place.result c.is_named.result c.as_slice.ensures.value c.as_slice-2.ensures.value c.place_of-place.ensures.place c.is_named.ensures.named c.self.invariant.0 c.if-is_named.false)
    ∙ ap (λ m. map.get m c.args.name.now) c.self.view_is
