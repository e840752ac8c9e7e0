-- The fields after the change are those of the map after it.
use Rattle.std.proofs.Common.{◌≡◌, ℕ, Bool, List, refl, ap, sym, subst, ◌∙◌}
use Rattle.std.specs.Prelude.{slice_get}
use Rattle.std.specs.FinMap as map
use Rattle.std.specs.Arc.{arc_value}
use Rattle.dw_model.specs.declared.databases.Entry.{Entry}
use Rattle.dw_model.specs.Entries.{named_at, place_in, RowsAscend}
use Rattle.dw_model.proofs.EntryLemmas.{IsPut, put_named, put_unnamed, RowsAscend-set, RowsAscend-insert}
use Rattle.dw_model.proofs.databases.Database.put_entry.Goals as goal

-- the place of a name is that of an equal one
placed : (seen : List Entry) (i : ℕ) (a b : List ℕ) → i ≡ place_in seen a → a ≡ b → i ≡ place_in seen b
placed seen i a b is same = is ∙ ap (place_in seen) same

tested : (again : List Entry) (i : ℕ) (named : Bool) (a b : List ℕ) → named ≡ named_at a (slice_get again i) → a ≡ b
    → named ≡ named_at b (slice_get again i)
tested again i named a b is same = is ∙ ap (λ (n : List ℕ). named_at n (slice_get again i)) same

pub invariant_of-self : goal.invariant_of-self
invariant_of-self c =
    let items = c.self.inside.entries.items in
    let new = c.args.entry in
    let place = placed c.as_slice.result.now c.place_of-place.result _ _ c.place_of-place.ensures.place c.deref.ensures in
    let test = tested c.as_slice-2.result.now c.place_of-place.result c.is_named.result _ _ c.is_named.ensures.named c.deref-2.ensures in
    let done = put_named (arc_value new.name) items _ _ c.place_of-place.result c.is_named.result c.as_slice.ensures.value c.as_slice-2.ensures.value place test c.self.invariant.0 (arc_value new.table) new refl c.if-is_named.true in
    (done.rise, RowsAscend-set items c.place_of-place.result new c.self.invariant.1 c.requires)

pub returns-then-is_named-clause-ok : goal.returns-then-is_named-clause-ok
returns-then-is_named-clause-ok c =
    let items = c.self.inside.entries.items in
    let new = c.args.entry in
    let place = placed c.as_slice.result.now c.place_of-place.result _ _ c.place_of-place.ensures.place c.deref.ensures in
    let test = tested c.as_slice-2.result.now c.place_of-place.result c.is_named.result _ _ c.is_named.ensures.named c.deref-2.ensures in
    let done = put_named (arc_value new.name) items _ _ c.place_of-place.result c.is_named.result c.as_slice.ensures.value c.as_slice-2.ensures.value place test c.self.invariant.0 (arc_value new.table) new refl c.if-is_named.true in
    done.map ∙ ap (λ m. map.insert m (arc_value new.name) (arc_value new.table)) c.self.view_is

pub invariant_of-self-2 : goal.invariant_of-self-2
invariant_of-self-2 c =
    let items = c.self.inside.entries.items in
    let new = c.args.entry in
    let place = placed c.as_slice.result.now c.place_of-place.result _ _ c.place_of-place.ensures.place c.deref.ensures in
    let test = tested c.as_slice-2.result.now c.place_of-place.result c.is_named.result _ _ c.is_named.ensures.named c.deref-2.ensures in
    let done = put_unnamed (arc_value new.name) items _ _ c.place_of-place.result c.is_named.result c.as_slice.ensures.value c.as_slice-2.ensures.value place test c.self.invariant.0 (arc_value new.table) new refl c.if-is_named.false in
    let next = subst (IsPut items (arc_value new.name) (arc_value new.table)) (sym c.in_ok-insert.ensures.items) done in
    (next.rise, subst RowsAscend (sym c.in_ok-insert.ensures.items) (RowsAscend-insert items c.place_of-place.result new c.self.invariant.1 c.requires))

pub returns-clause-ok : goal.returns-clause-ok
returns-clause-ok c =
    let items = c.self.inside.entries.items in
    let new = c.args.entry in
    let place = placed c.as_slice.result.now c.place_of-place.result _ _ c.place_of-place.ensures.place c.deref.ensures in
    let test = tested c.as_slice-2.result.now c.place_of-place.result c.is_named.result _ _ c.is_named.ensures.named c.deref-2.ensures in
    let done = put_unnamed (arc_value new.name) items _ _ c.place_of-place.result c.is_named.result c.as_slice.ensures.value c.as_slice-2.ensures.value place test c.self.invariant.0 (arc_value new.table) new refl c.if-is_named.false in
    let next = subst (IsPut items (arc_value new.name) (arc_value new.table)) (sym c.in_ok-insert.ensures.items) done in
    next.map ∙ ap (λ m. map.insert m (arc_value new.name) (arc_value new.table)) c.self.view_is
