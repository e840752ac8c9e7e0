-- The chunk at the place has the entries of the block.
use Rattle.std.proofs.Common.{◌<◌, length, ap, sym, ◌∙◌, arith, List}
use Rattle.dw_value.specs.declared.values.Row.{Row}
use Rattle.dw_slice.specs.Packed.{PackedView}
use Rattle.dw_slice.specs.declared.marks.Mark.{Mark}
use Rattle.dw_slice.specs.Chunks.{zip_entries}
use Rattle.dw_slice.specs.Slices.{SliceView, block_count, block_of}
use Rattle.dw_slice.proofs.Blocks.{chunk_count, chunk_at, entries_at}
use Rattle.dw_slice.proofs.slices.Slice.decode.Goals as goal

pub index-chunk-requires : goal.index-chunk-requires
index-chunk-requires g c =
    let s = c.self.inside in
    omega (arith, chunk_count s.columns.items s.chunks.items c.self.invariant.cut, ap (λ (v : SliceView). block_count v.entries) c.self.view_is, s.chunks.ok.0, c.requires)

pub zip_entries-requires : goal.zip_entries-requires
zip_entries-requires g c =
    let s = c.self.inside in
    let l : c.args.block < length s.chunks.items =
    omega (arith, chunk_count s.columns.items s.chunks.items c.self.invariant.cut, ap (λ (v : SliceView). block_count v.entries) c.self.view_is, c.requires) in
    let is = chunk_at s.columns.items s.chunks.items c.args.block c.index-chunk.result.now c.self.invariant.cut l c.index-chunk.ensures in
    ap (length {A = Mark}) (c.as_slice.ensures ∙ c.deref-2.ensures) ∙ is.paired
    ∙ sym (ap (length {A = Row}) (c.as_slice-2.ensures.value ∙ c.in_ok-rows.ensures ∙ ap (λ (p : PackedView). p.rows) c.deref.ensures))

pub returns-clause-entries : goal.returns-clause-entries
returns-clause-entries g c =
    let s = c.self.inside in
    let l : c.args.block < length s.chunks.items =
    omega (arith, chunk_count s.columns.items s.chunks.items c.self.invariant.cut, ap (λ (v : SliceView). block_count v.entries) c.self.view_is, c.requires) in
    c.in_ok-entries.ensures
    ∙ ap (λ (ms : List Mark). zip_entries ms c.as_slice-2.result.now) (c.as_slice.ensures ∙ c.deref-2.ensures)
    ∙ ap (λ (rs : List Row). zip_entries c.index-chunk.result.now.marks.value rs) (c.as_slice-2.ensures.value ∙ c.in_ok-rows.ensures ∙ ap (λ (p : PackedView). p.rows) c.deref.ensures)
    ∙ sym (entries_at s.columns.items s.chunks.items c.args.block c.index-chunk.result.now c.self.invariant.cut l c.index-chunk.ensures)
    ∙ ap (λ (v : SliceView). block_of v.entries c.args.block) c.self.view_is
