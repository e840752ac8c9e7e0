-- What is found for the alias tells what the name means.
use Rattle.std.proofs.Common.{Some, None, ◌∙◌}
use Rattle.dw_bind.proofs.Tables.{named_of-at}
use Rattle.dw_bind.proofs.names.named_after.Goals as goal

pub returns-in-Some : goal.returns-in-Some
returns-in-Some c =
    c.named.ensures
    ∙ named_of-at c.args.of_each.now c.as_str.result.now c.args.alias.now (Some c.in-Some.names.now) c.in-Some.ensures.value c.as_str.ensures.bytes c.args.name.now

pub returns-in-None : goal.returns-in-None
returns-in-None c = named_of-at c.args.of_each.now c.as_str.result.now c.args.alias.now None c.in-None.ensures.value c.as_str.ensures.bytes c.args.name.now
