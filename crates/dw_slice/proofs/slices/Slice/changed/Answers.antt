-- The chunks after a commit are those of a slice, and have its entries.
use Rattle.std.specs.Prelude.{if◌then◌else◌}
use Rattle.std.specs.List.Sorted.{IsPermutation}
use Rattle.std.proofs.Common.{◌≡◌, ℕ, ◌+◌, Bool, List, sym, ap, subst, ◌∙◌, true≢false}
use Rattle.dw_slice.specs.declared.packed.Storage.{Storage}
use Rattle.dw_slice.specs.Chunks.{all_entries, IsCut, IsSlice}
use Rattle.dw_slice.specs.Slices.{SliceView, AreEntries, changed_slice, is_among}
use Rattle.dw_slice.proofs.Searching.{same_ids}
use Rattle.dw_slice.proofs.Changing.{same_view, marked_given, any_given, marked_slice, number_marked, entries_marked, number_appended, entries_appended, AreNew, entries_after, cut_slice}
use Rattle.dw_slice.proofs.slices.Slice.changed.Goals as goal
use Rattle.dw_slice.proofs.slices.Slice.changed.Goals.{then-any, else-any}

pub invariant_of-result : goal.invariant_of-result
invariant_of-result c =
    let z = marked_given c.args.stamp c.in_ok-sorted.sorted _ c.self.inside.chunks.items c.in_ok-chunks.chunks.items c.as_slice-2.ensures.value c.in_ok-chunks.ensures.chunks in
    marked_slice c.self.inside.columns.items c.in_ok-columns.columns.items c.args.stamp c.in_ok-sorted.sorted c.self.inside.chunks.items c.in_ok-chunks.chunks.items (c.in_ok-columns.ensures.items ∙ c.as_slice-3.ensures.value) z c.self.invariant

pub returns-then-is_empty : goal.returns-then-is_empty
returns-then-is_empty c =
    let s = c.self.inside in
    let same : (id : ℕ) → is_among c.in_ok-sorted.sorted id ≡ is_among c.args.gone.now id =
    same_ids c.args.gone.now c.in_ok-sorted.sorted (subst (λ (ids : List ℕ). IsPermutation ids c.in_ok-sorted.sorted) c.as_slice.ensures.items c.in_ok-sorted.ensures) in
    let z = marked_given c.args.stamp c.in_ok-sorted.sorted _ s.chunks.items c.in_ok-chunks.chunks.items c.as_slice-2.ensures.value c.in_ok-chunks.ensures.chunks in
    let none = c.is_empty.ensures.0 c.if-is_empty.true in
    let any = any_given c.in_ok-sorted.sorted c.args.gone.now _ s.chunks.items s.columns.items c.in_ok-chunks.any same c.as_slice-2.ensures.value c.self.invariant.cut c.in_ok-chunks.ensures.goes in
    let n = s.number in
    let number : c.if-any.number ≡ (if c.in_ok-chunks.any then n + 1 else n) =
    elim c.if-any.branch [ then-any w ↦ w.number-is ∙ sym (ap (λ (t : Bool). if t then n + 1 else n) w.if-any.true) | else-any w ↦ w.number-is ∙ sym (ap (λ (t : Bool). if t then n + 1 else n) w.if-any.false) ] in
    same_view c.in_ok-columns.columns.items s.columns.items c.if-any.number _ (all_entries c.in_ok-chunks.chunks.items) _ (c.in_ok-columns.ensures.items ∙ c.as_slice-3.ensures.value)
    (number_marked c.args.gone.now c.args.fresh.now (all_entries s.chunks.items) n c.if-any.number c.in_ok-chunks.any none any number)
    (entries_marked c.args.stamp c.in_ok-sorted.sorted c.args.gone.now c.args.fresh.now s.chunks.items c.in_ok-chunks.chunks.items same none z)
    ∙ ap (changed_slice c.args.stamp c.args.gone.now c.args.fresh.now) c.self.view_is

pub appended-requires-clause-cut : goal.appended-requires-clause-cut
appended-requires-clause-cut c =
    let z = marked_given c.args.stamp c.in_ok-sorted.sorted _ c.self.inside.chunks.items c.in_ok-chunks.chunks.items c.as_slice-2.ensures.value c.in_ok-chunks.ensures.chunks in
    let is : IsSlice c.in_ok-columns.columns.items c.in_ok-chunks.chunks.items =
    marked_slice c.self.inside.columns.items c.in_ok-columns.columns.items c.args.stamp c.in_ok-sorted.sorted c.self.inside.chunks.items c.in_ok-chunks.chunks.items (c.in_ok-columns.ensures.items ∙ c.as_slice-3.ensures.value) z c.self.invariant in
    subst (λ (cs : List Storage). IsCut cs c.in_ok-chunks.chunks.items) (sym c.as_slice-4.ensures.value) is.cut

pub invariant_of-result-2 : goal.invariant_of-result-2
invariant_of-result-2 c =
    let s = c.self.inside in
    let same : (id : ℕ) → is_among c.in_ok-sorted.sorted id ≡ is_among c.args.gone.now id =
    same_ids c.args.gone.now c.in_ok-sorted.sorted (subst (λ (ids : List ℕ). IsPermutation ids c.in_ok-sorted.sorted) c.as_slice.ensures.items c.in_ok-sorted.ensures) in
    let z = marked_given c.args.stamp c.in_ok-sorted.sorted _ s.chunks.items c.in_ok-chunks.chunks.items c.as_slice-2.ensures.value c.in_ok-chunks.ensures.chunks in
    let e = entries_appended c.args.stamp c.in_ok-sorted.sorted c.args.gone.now c.args.fresh.now _ s.chunks.items c.in_ok-chunks.chunks.items c.in_ok-chunks-2.chunks.items same c.as_slice-5.ensures.items z c.in_ok-chunks-2.ensures.entries in
    let were : AreEntries s.columns.items (all_entries s.chunks.items) = record { fit = c.self.invariant.fit; different = c.self.invariant.different } in
    let given : AreNew c.args.self.now.columns c.args.self.now.entries c.args.fresh.now = record { fit = c.requires.fit; different = c.requires.different; new = c.requires.new } in
    let new : AreNew s.columns.items (all_entries s.chunks.items) c.args.fresh.now = subst (λ (v : SliceView). AreNew v.columns v.entries c.args.fresh.now) (sym c.self.view_is) given in
    cut_slice s.columns.items c.in_ok-columns.columns.items _ _ c.in_ok-chunks-2.chunks.items (c.in_ok-columns.ensures.items ∙ c.as_slice-3.ensures.value) c.as_slice-4.ensures.value c.in_ok-chunks-2.ensures.cut c.self.invariant.storable e
    (entries_after s.columns.items c.args.stamp c.args.gone.now c.args.fresh.now (all_entries s.chunks.items) were new)

pub returns : goal.returns
returns c =
    let s = c.self.inside in
    let same : (id : ℕ) → is_among c.in_ok-sorted.sorted id ≡ is_among c.args.gone.now id =
    same_ids c.args.gone.now c.in_ok-sorted.sorted (subst (λ (ids : List ℕ). IsPermutation ids c.in_ok-sorted.sorted) c.as_slice.ensures.items c.in_ok-sorted.ensures) in
    let z = marked_given c.args.stamp c.in_ok-sorted.sorted _ s.chunks.items c.in_ok-chunks.chunks.items c.as_slice-2.ensures.value c.in_ok-chunks.ensures.chunks in
    same_view c.in_ok-columns.columns.items s.columns.items (s.number + 1) _ (all_entries c.in_ok-chunks-2.chunks.items) _ (c.in_ok-columns.ensures.items ∙ c.as_slice-3.ensures.value)
    (number_appended c.args.gone.now c.args.fresh.now (all_entries s.chunks.items) s.number (λ e. true≢false (sym (c.is_empty.ensures.1 e) ∙ c.if-is_empty.false)))
    (entries_appended c.args.stamp c.in_ok-sorted.sorted c.args.gone.now c.args.fresh.now _ s.chunks.items c.in_ok-chunks.chunks.items c.in_ok-chunks-2.chunks.items same c.as_slice-5.ensures.items z c.in_ok-chunks-2.ensures.entries)
    ∙ ap (changed_slice c.args.stamp c.args.gone.now c.args.fresh.now) c.self.view_is
