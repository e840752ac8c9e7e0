-- Neither part holds a name.
use Rattle.dw_bind.proofs.Tables.{held-empty}
use Rattle.dw_bind.proofs.names.NameTable.empty.Goals as goal

pub returns : goal.returns
returns c = held-empty (record { every = c.new-every.result; of_each = c.new-of_each.result }) c.new-every.ensures.empty c.new-of_each.ensures.empty
