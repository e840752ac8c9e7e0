-- One entry more, which may fill a chunk.
use Rattle.std.proofs.Common.{◌∙◌}
use Rattle.dw_slice.proofs.Cutting.{built_push, built_full}
use Rattle.dw_slice.proofs.chunks.ChunkBuilder.push.Goals as goal

pub returns-else-len-eq-FULL-clause-built : goal.returns-else-len-eq-FULL-clause-built
returns-else-len-eq-FULL-clause-built c =
    built_push c.args.self.now.chunks.items c.args.self.now.marks.items _ c.args.self.now.rows.items _ c.args.mark c.in_ok-row.row c.args.row.now c.in_ok-row.ensures c.in_ok-push.ensures.items c.in_ok-push-2.ensures.items c.requires.building.paired

pub returns-in_ok-push-3-clause-built : goal.returns-in_ok-push-3-clause-built
returns-in_ok-push-3-clause-built c =
    built_full c.args.self.now.chunks.items _ c.in_ok-chunk.chunk c.args.self.now.marks.items c.replace-marks.result.items c.replace-marks.new.dest.items c.args.self.now.rows.items c.replace-rows.result.items c.replace-rows.new.dest.items
    c.args.mark c.in_ok-row.row c.args.row.now c.in_ok-row.ensures c.in_ok-push-3.ensures.items c.in_ok-chunk.ensures.marks (c.in_ok-chunk.ensures.rows ∙ c.as_slice.ensures.value)
    (rw c.replace-marks.ensures.value c.in_ok-push.ensures.items) (rw c.replace-rows.ensures.value c.in_ok-push-2.ensures.items) c.requires.building.paired (rw c.replace-marks.ensures.after c.new.ensures.items)
