-- One row more is gone.
use Rattle.std.proofs.Common.{◌+◌, ◌<◌, ◌∷◌, List, length, drop, sym, ap, subst, ◌∙◌, arith}
use Rattle.std.proofs.lemmas.List.{at_drop_more}
use Rattle.dw_value.specs.declared.values.Row.{Row}
use Rattle.dw_model.specs.Changes.{without_rows}
use Rattle.dw_model.specs.Databases.{IsAscending}
use Rattle.dw_model.proofs.AscendingRows.{ascending_without_row}
use Rattle.dw_model.proofs.tables.rows_left.Goals as goal

pub loop-row-preserved : goal.loop-row-preserved
loop-row-preserved c =
    let gone : List Row = c.as_slice-row-items.result.now in
    let i = c.loop-row.row-index in
    let left : List Row = c.loop-row.left.items in
    let row : Row = c.row-item.result in
    let within : i < length gone = omega arith in
    record {
      whole = ap (without_rows (drop (i + 1) gone)) c.take_away.ensures
          ∙ ap (λ (first : Row). without_rows (first ∷ drop (i + 1) gone) left) c.row-item.is
          ∙ sym (at_drop_more (λ rest. without_rows rest left) gone i row within)
          ∙ c.loop-row.invariant.whole;
      up = subst IsAscending (sym c.take_away.ensures) (ascending_without_row row left c.loop-row.invariant.up);
    }
