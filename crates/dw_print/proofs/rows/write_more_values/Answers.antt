use Rattle.std.proofs.Common.{arith}
use Rattle.dw_print.proofs.RowValues.{all_are_written}
use Rattle.dw_print.proofs.rows.write_more_values.Goals as goal

-- no value is left
pub returns : goal.returns
returns c =
    all_are_written c.args.columns.now c.args.values.now c.loop-place.place c.loop-place.out.items _ (omega (arith, c.loop-place-test.false))
    c.loop-place.invariant
