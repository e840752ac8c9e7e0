-- The blocks hold the columns and the rows.
use Rattle.std.proofs.Common.{sym, subst, arith, List}
use Rattle.dw_block.specs.Blocks.{BlockView}
use Rattle.dw_value.specs.declared.kinds.Encoding.TheVariants.{Raw}
use Rattle.dw_value.specs.declared.kinds.Kind.TheVariants.{Small}
use Rattle.dw_slice.proofs.Packing.{ArePacked, column_fits, packed_next, holds}
use Rattle.dw_slice.proofs.packed.Packed.pack.Goals as goal

pub make-requires-clause-each : goal.make-requires-clause-each
make-requires-clause-each c = λ k d l.
    column_fits c.args.columns.now c.args.rows.now c.loop-place.place k d (record { kind = Small; encoding = Raw }) c.in_ok-values.values c.in_ok-values.ensures c.requires.fit c.loop-place-test.true l

pub loop-place-preserved : goal.loop-place-preserved
loop-place-preserved c =
    let packed : ArePacked c.args.columns.now c.args.rows.now c.push.new.self.items =
    subst (λ (bs : List BlockView). ArePacked c.args.columns.now c.args.rows.now bs) (sym c.in_ok-push.ensures.items)
    (packed_next c.args.columns.now c.args.rows.now c.loop-place.blocks.items c.loop-place.place (record { kind = Small; encoding = Raw }) c.in_ok-block.block c.in_ok-values.values c.loop-place.invariant.packed c.loop-place.invariant.at
    c.loop-place-test.true c.in_ok-block.ensures.encoding c.in_ok-block.ensures.kind c.in_ok-block.ensures.values c.in_ok-values.ensures) in
    record { packed = packed; at = omega (arith, c.in_ok-push.ensures.len, c.loop-place.invariant.at, c.push.new.self.ok.0, c.loop-place.blocks.ok.0) }

pub invariant_of-result : goal.invariant_of-result
invariant_of-result c =
    (holds c.args.columns.now c.args.rows.now c.loop-place.blocks.items c.loop-place.invariant.packed (omega (arith, c.loop-place.invariant.packed.within)) c.requires.few c.requires.columns c.requires.fit).packed

pub returns-clause-columns : goal.returns-clause-columns
returns-clause-columns c =
    (holds c.args.columns.now c.args.rows.now c.loop-place.blocks.items c.loop-place.invariant.packed (omega (arith, c.loop-place.invariant.packed.within)) c.requires.few c.requires.columns c.requires.fit).columns_are

pub returns-clause-rows : goal.returns-clause-rows
returns-clause-rows c =
    (holds c.args.columns.now c.args.rows.now c.loop-place.blocks.items c.loop-place.invariant.packed (omega (arith, c.loop-place.invariant.packed.within)) c.requires.few c.requires.columns c.requires.fit).rows_are
