-- The columns are counted among those of the alias, which are put back.
use Rattle.std.proofs.Common.{◌∙◌}
use Rattle.dw_bind.proofs.Tables.{after-noted}
use Rattle.dw_bind.proofs.names.note_after_alias.Goals as goal

pub returns : goal.returns
returns c =
    after-noted c.args.of_each.now c.taken-names.new.of_each c.insert.new.self c.in_ok-alias.alias c.taken-names.result c.note_columns.new.names c.args.from.now.alias c.args.number c.args.first c.args.from.now.columns
    c.in_ok-insert.ensures.updates (c.in_ok-alias.ensures.ok ∙ c.as_str.ensures.bytes) c.taken-names.ensures.rest c.taken-names.ensures.names c.in_ok-note_columns.ensures
