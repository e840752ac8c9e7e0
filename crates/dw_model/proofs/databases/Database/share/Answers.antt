-- The entry that the other database has under the name, or none.
use Rattle.std.proofs.Common.{◌≡◌, ◌<◌, ℕ, List, Option, Some, Result, Ok, Err, OnOk, length, sym, ap, subst, ◌∙◌, arith}
use Rattle.std.specs.FinMap as map
use Rattle.std.specs.Arc.{arc_value}
use Rattle.dw_model.specs.declared.tables.Table.{Table}
use Rattle.dw_model.specs.declared.databases.Entry.{Entry}
use Rattle.dw_model.specs.Databases.{Tables, IsAscending, table_put}
use Rattle.dw_model.specs.Entries.{pair_of}
use Rattle.dw_model.proofs.EntryLemmas.{get_named, get_unnamed, named_same, RowsAscend-get_or}
use Rattle.dw_model.proofs.databases.Database.share.Goals as goal

-- a copy of an entry puts the table that was found under its name
shared : (name : List ℕ) (tables next : Tables) (found : Option Table) (seen copy : Entry) → pair_of copy ≡ pair_of seen
    → arc_value seen.name ≡ name → found ≡ Some (arc_value seen.table)
    → next ≡ map.insert tables (arc_value copy.name) (arc_value copy.table) → next ≡ table_put name found tables
shared name tables next found seen copy same named there is =
    is
    ∙ ap (λ (p : List ℕ × Table). map.insert tables p.0 p.1) same
    ∙ ap (λ (n : List ℕ). map.insert tables n (arc_value seen.table)) named
    ∙ ap (λ (found : Option Table). table_put name found tables) (sym there)

on_ok : {T E P Q : Type 0} (result : Result T E) → OnOk result P → (P → Q) → OnOk result Q
on_ok (Ok x) holds so = so holds
on_ok (Err e) holds so = tt

pub returns-then-not-is_named-clause-ok : goal.returns-then-not-is_named-clause-ok
returns-then-not-is_named-clause-ok c =
    let name = c.args.name.now in
    let none = sym (ap (λ m. map.get m name) c.from.view_is)
    ∙ get_unnamed name c.from.inside.entries.items _ _ c.place_of-place.result c.is_named.result c.as_slice.ensures.value c.as_slice-2.ensures.value c.place_of-place.ensures.place c.is_named.ensures.named c.from.invariant.0 c.if-not-is_named.true in
    c.remove.ensures ∙ sym (ap (λ (found : Option Table). table_put name found c.args.self.now) none)

pub put_entry-requires : goal.put_entry-requires
put_entry-requires c =
    let items = c.from.inside.entries.items in
    let within : c.place_of-place.result < length items = omega (arith, c.is_named.ensures.within c.if-not-is_named.false, ap length c.as_slice-2.ensures.value) in
    subst (λ (p : List ℕ × Table). IsAscending p.1.rows) (sym c.in_ok-entry.ensures) (RowsAscend-get_or items c.place_of-place.result c.index.result.now c.from.invariant.1 within c.index.ensures)

pub returns-clause-ok : goal.returns-clause-ok
returns-clause-ok c =
    let name = c.args.name.now in
    let items = c.from.inside.entries.items in
    let place = c.place_of-place.result in
    let seen : Entry = c.index.result.now in
    let holds = c.if-not-is_named.false in
    let within : place < length items = omega (arith, c.is_named.ensures.within holds, ap length c.as_slice-2.ensures.value) in
    let there = sym (ap (λ m. map.get m name) c.from.view_is)
    ∙ get_named name items _ _ place c.is_named.result c.as_slice.ensures.value c.as_slice-2.ensures.value c.place_of-place.ensures.place c.is_named.ensures.named c.from.invariant.0 seen holds within c.index.ensures in
    let named = named_same name items _ _ place c.is_named.result c.as_slice.ensures.value c.as_slice-2.ensures.value c.place_of-place.ensures.place c.is_named.ensures.named c.from.invariant.0 seen holds within c.index.ensures in
    on_ok c.put_entry.result c.put_entry.ensures.ok (shared name c.args.self.now c.put_entry.new.self (map.get c.args.from.now name) seen c.in_ok-entry.entry c.in_ok-entry.ensures named there)
