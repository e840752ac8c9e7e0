-- The entries of the map are those of the fields.
use Rattle.std.proofs.Common.{ap, sym, ◌∙◌}
use Rattle.std.specs.FinMap as map
use Rattle.dw_model.specs.Entries.{pairs_of}
use Rattle.dw_model.proofs.EntryLemmas.{entries-place}
use Rattle.dw_model.proofs.databases.Database.as_slice.Goals as goal

pub returns-clause-entries : goal.returns-clause-entries
returns-clause-entries c =
    ap pairs_of c.as_slice.ensures.value ∙ sym (entries-place c.self.inside.entries.items c.self.invariant.0) ∙ ap map.entries c.self.view_is
