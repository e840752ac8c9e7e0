-- The columns of a source are counted, and the place goes on by as many as they are.
use Rattle.std.proofs.Common.{◌≡◌, ◌+◌, ◌<◌, length, drop, get_or, refl, ap, sym, ◌∙◌, arith}
use Rattle.dw_expr.specs.Sight.{columns_after, row_columns}
use Rattle.dw_bind.specs.Hits.{capped, joined_hits, hits}
use Rattle.dw_bind.specs.Names.{held}
use Rattle.dw_bind.proofs.Walks.{source-turn, walk-end}
use Rattle.dw_bind.proofs.names.NameTable.new.Goals as goal

pub loop-from-init : goal.loop-from-init
loop-from-init c =
    (λ reference. ap (λ found. joined_hits found (hits reference (row_columns c.args.sources.now))) (c.empty-table.ensures reference), refl)

pub loop-from-preserved : goal.loop-from-preserved
loop-from-preserved c =
    let sources = c.args.sources.now in
    let from = c.from-item.result in
    let place = c.loop-from.place in
    let after = c.saturating_add-place.result in
    let n = c.loop-from.number in
    let e : n ≡ c.loop-from.from-index = c.loop-from.invariant.1 in
    let within : n < length sources = omega (arith, e) in
    let item : from ≡ get_or sources n from = c.from-item.is ∙ ap (λ k. get_or sources k from) (sym e) in
    let up : after ≡ capped (place + length from.columns) = omega (arith, c.saturating_add-place.ensures, c.len.ensures) in (
      λ reference.
          let found = held c.loop-from.table reference in
          let next = held c.note_source.new.self reference in
          let here = ap (λ k. joined_hits found (hits reference (columns_after n place (drop k sources)))) e ∙ c.loop-from.invariant.0 reference in
          let turn = source-turn reference place after sources n from found next _ within item up (c.in_ok-note_source.ensures reference) here in
          ap (λ k. joined_hits next (hits reference (columns_after (n + 1) after (drop (k + 1) sources)))) (sym e) ∙ turn,
      omega (arith, e),
    )

pub returns : goal.returns
returns c =
    λ reference. walk-end reference c.args.sources.now (held c.loop-from.table reference) c.loop-from.number c.loop-from.place c.loop-from.from-index (omega arith) (c.loop-from.invariant.0 reference)
