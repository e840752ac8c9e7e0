-- The chunk at the place has the block.
use Rattle.std.proofs.Common.{◌<◌, length, ap, ◌∙◌, arith, List}
use Rattle.dw_value.specs.declared.values.Row.{Row}
use Rattle.dw_block.specs.Zones.{zone_of}
use Rattle.dw_slice.specs.declared.packed.Storage.{Storage}
use Rattle.dw_slice.specs.Packed.{PackedView}
use Rattle.dw_slice.specs.Grid.{column_of}
use Rattle.dw_slice.specs.Slices.{SliceView, block_count, rows_of, block_of}
use Rattle.dw_slice.proofs.Blocks.{chunk_count, chunk_at, rows_at}
use Rattle.dw_slice.proofs.slices.Slice.zone.Goals as goal

pub index-chunk-requires : goal.index-chunk-requires
index-chunk-requires c =
    let s = c.self.inside in
    omega (arith, chunk_count s.columns.items s.chunks.items c.self.invariant.cut, ap (λ (v : SliceView). block_count v.entries) c.self.view_is, s.chunks.ok.0, c.requires.block)

pub zone-requires : goal.zone-requires
zone-requires c =
    let s = c.self.inside in
    let l : c.args.block < length s.chunks.items =
    omega (arith, chunk_count s.columns.items s.chunks.items c.self.invariant.cut, ap (λ (v : SliceView). block_count v.entries) c.self.view_is, c.requires.block) in
    let is = chunk_at s.columns.items s.chunks.items c.args.block c.index-chunk.result.now c.self.invariant.cut l c.index-chunk.ensures in
    omega (arith, ap (λ (p : PackedView). length p.columns) c.deref.ensures, ap (length {A = Storage}) is.columns_are, ap (λ (v : SliceView). length v.columns) c.self.view_is, c.requires.column)

pub returns : goal.returns
returns c =
    let s = c.self.inside in
    let l : c.args.block < length s.chunks.items =
    omega (arith, chunk_count s.columns.items s.chunks.items c.self.invariant.cut, ap (λ (v : SliceView). block_count v.entries) c.self.view_is, c.requires.block) in
    c.zone.ensures
    ∙ ap (λ (rows : List Row). zone_of (column_of rows c.args.column))
    (ap (λ (p : PackedView). p.rows) c.deref.ensures
    ∙ rows_at s.columns.items s.chunks.items c.args.block c.index-chunk.result.now c.self.invariant.cut l c.index-chunk.ensures
    ∙ ap (λ (v : SliceView). rows_of (block_of v.entries c.args.block)) c.self.view_is)
