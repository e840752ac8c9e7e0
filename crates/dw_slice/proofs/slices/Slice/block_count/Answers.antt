-- Each chunk is a block of each column.
use Rattle.std.proofs.Common.{ap, subst, arith}
use Rattle.dw_slice.specs.Slices.{SliceView, AreEntries, block_count}
use Rattle.dw_slice.proofs.Blocks.{chunk_count}
use Rattle.dw_slice.proofs.slices.Slice.block_count.Goals as goal

pub returns-clause-count : goal.returns-clause-count
returns-clause-count c =
    let s = c.self.inside in
    omega (arith, chunk_count s.columns.items s.chunks.items c.self.invariant.cut, ap (λ (v : SliceView). block_count v.entries) c.self.view_is, s.chunks.ok.0)

pub returns-clause-entries : goal.returns-clause-entries
returns-clause-entries c =
    subst (λ (v : SliceView). AreEntries v.columns v.entries) c.self.view_is (record { fit = c.self.invariant.fit; different = c.self.invariant.different })
