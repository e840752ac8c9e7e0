-- The columns are counted in both parts of the table.
use Rattle.dw_expr.specs.Sight.{columns_from}
use Rattle.dw_bind.proofs.Tables.{held-noted}
use Rattle.dw_bind.proofs.names.NameTable.note_source.Goals as goal

pub returns : goal.returns
returns c =
    held-noted c.args.self.now (record { every = c.note_columns.new.names; of_each = c.note_after_alias.new.of_each })
    (columns_from c.args.number c.args.from.now.alias c.args.first c.args.from.now.columns)
    c.in_ok-note_columns.ensures c.in_ok-note_after_alias.ensures
