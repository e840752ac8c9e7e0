-- A column is counted, and the place goes one on.
use Rattle.std.proofs.Common.{◌≡◌, ◌+◌, ◌<◌, None, ap, sym, ◌∙◌, arith}
use Rattle.dw_expr.specs.Sight.{RowColumn, columns_from}
use Rattle.dw_bind.specs.Hits.{capped, joined_hits, hits}
use Rattle.dw_bind.specs.Names.{named}
use Rattle.dw_bind.proofs.Walks.{column-turn, columns-end}
use Rattle.dw_bind.proofs.Tables.{hit-plain}
use Rattle.dw_bind.proofs.names.note_columns.Goals as goal

pub loop-column-preserved : goal.loop-column-preserved
loop-column-preserved c =
    let place = c.loop-column.place in
    let after = c.saturating_add-place.result in
    let column = c.column-item.result in
    let row : RowColumn = record { source = c.args.number; alias = c.args.from.now.alias; place = place; name = column.name; kind = column.kind } in
    let low : place < 18446744073709551616 = omega (arith, c.loop-column.invariant.1) in
    let up : after ≡ capped (place + 1) = omega (arith, c.saturating_add-place.ensures) in (
      λ asked. column-turn (record { source = None; name = asked }) c.args.number c.args.from.now.alias place after c.as_slice-columns.result.now c.loop-column.column-index column (named c.loop-column.names asked) (named c.note.new.names asked) _
          (omega arith) c.column-item.is low up
          (c.in_ok-note.ensures asked ∙ ap (joined_hits (named c.loop-column.names asked)) (sym (hit-plain asked row low)))
          (c.loop-column.invariant.0 asked),
      omega (arith, up),
    )

pub returns : goal.returns
returns c =
    λ asked.
    columns-end (record { source = None; name = asked }) c.args.number c.args.from.now.alias c.loop-column.place c.as_slice-columns.result.now c.loop-column.column-index (named c.loop-column.names asked) _
    (omega arith) (c.loop-column.invariant.0 asked)
    ∙ ap (λ columns. joined_hits (named c.args.names.now asked) (hits (record { source = None; name = asked }) (columns_from c.args.number c.args.from.now.alias c.args.first columns))) c.as_slice-columns.ensures.items
