-- The copy has the names and tables of the database, so it has what follows from them.
use Rattle.std.proofs.Common.{◌≡◌, ap, ◌∙◌}
use Rattle.std.proofs.lemmas.List.{take_all}
use Rattle.std.specs.Ordering.{nat_cmp}
use Rattle.std.specs.Cmp.Lexicographic.{slice_cmp}
use Rattle.std.specs.FinMap.Entries.{is_sorted}
use Rattle.dw_model.specs.Entries.{pairs_of}
use Rattle.dw_model.proofs.EntryLemmas.{RowsAscend-pairs}
use Rattle.dw_model.proofs.databases.Database.copy.Goals as goal

pub invariant_of-result : goal.invariant_of-result
invariant_of-result c =
    let items = c.self.inside.entries.items in
    let same : pairs_of c.loop-entry.entries.items ≡ pairs_of items =
    c.loop-entry.invariant ∙ ap pairs_of (take_all _ _ c.loop-entry-test.false ∙ c.deref-entry-items.ensures.value) in
    (ap (is_sorted (slice_cmp nat_cmp)) same ∙ c.self.invariant.0, RowsAscend-pairs items c.loop-entry.entries.items same c.self.invariant.1)
