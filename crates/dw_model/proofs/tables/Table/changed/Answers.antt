-- What is left ascends.
use Rattle.std.proofs.Common.{sym, subst}
use Rattle.dw_model.specs.Databases.{IsAscending}
use Rattle.dw_model.proofs.AscendingRows.{ascending_without_rows}
use Rattle.dw_model.proofs.tables.Table.changed.Goals as goal

pub add_rows-requires : goal.add_rows-requires
add_rows-requires c =
    subst IsAscending (sym c.in_ok-left.ensures) (ascending_without_rows c.args.gone.now c.args.self.now.rows c.requires)
