-- The rows below this one stand at the front, and an equal one after them.
use Rattle.std.proofs.Common.{List, ap, sym, subst, ◌∙◌, rules}
use Rattle.std.specs.Prelude.{if◌then◌else◌}
use Rattle.std.specs.List.{remove}
use Rattle.std.specs.Ordering.{is_lt}
use Rattle.std.proofs.lemmas.List.Sorted.{IsPartitionPoint-from_clause}
use Rattle.dw_value.specs.declared.values.Row.{Row}
use Rattle.dw_value.specs.Values.{row_cmp}
use Rattle.dw_model.specs.Databases.{IsAscending}
use Rattle.dw_model.proofs.AscendingRows.{rows_parted, without_row-parted}
use Rattle.dw_model.proofs.tables.take_away.Goals as goal

pub returns-then-stands_at : goal.returns-then-stands_at
returns-then-stands_at c =
    let rows : List Row = c.args.rows.now.items in
    let front : List Row = c.deref.result.now in
    let parted = rows_parted c.args.row.now front (subst IsAscending (sym c.deref.ensures.value) c.requires) in
    let point = IsPartitionPoint-from_clause (λ other. is_lt (row_cmp other c.args.row.now)) front c.partition_point-place.result c.partition_point-place.ensures.partitioned parted (λ a r q k. search rules) in
    let taken = without_row-parted c.args.row.now rows front c.as_slice.result.now c.partition_point-place.result c.stands_at.result c.requires c.deref.ensures.value c.as_slice.ensures.value c.partition_point-place.ensures.bound point.0 point.1 c.stands_at.ensures.stands in
    c.remove.ensures.items ∙ sym (taken ∙ ap (λ b. if b then remove rows c.partition_point-place.result else rows) c.if-stands_at.true)

pub returns-else-stands_at : goal.returns-else-stands_at
returns-else-stands_at c =
    let rows : List Row = c.args.rows.now.items in
    let front : List Row = c.deref.result.now in
    let parted = rows_parted c.args.row.now front (subst IsAscending (sym c.deref.ensures.value) c.requires) in
    let point = IsPartitionPoint-from_clause (λ other. is_lt (row_cmp other c.args.row.now)) front c.partition_point-place.result c.partition_point-place.ensures.partitioned parted (λ a r q k. search rules) in
    let taken = without_row-parted c.args.row.now rows front c.as_slice.result.now c.partition_point-place.result c.stands_at.result c.requires c.deref.ensures.value c.as_slice.ensures.value c.partition_point-place.ensures.bound point.0 point.1 c.stands_at.ensures.stands in
    sym (taken ∙ ap (λ b. if b then remove rows c.partition_point-place.result else rows) c.if-stands_at.false)
