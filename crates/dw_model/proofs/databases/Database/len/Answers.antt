-- The map has as many entries as the fields.
use Rattle.std.proofs.Common.{ap, arith}
use Rattle.std.specs.FinMap as map
use Rattle.dw_model.proofs.EntryLemmas.{len-place}
use Rattle.dw_model.proofs.databases.Database.len.Goals as goal

pub returns : goal.returns
returns c =
    omega (arith, len-place c.self.inside.entries.items c.self.invariant.0, ap map.len c.self.view_is, c.self.inside.entries.ok.0)
