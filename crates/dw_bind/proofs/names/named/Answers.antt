-- What is found for the text is what is held of the name.
use Rattle.std.proofs.Common.{Some, None}
use Rattle.dw_bind.proofs.Tables.{named-at}
use Rattle.dw_bind.proofs.names.named.Goals as goal

pub returns-in-Some : goal.returns-in-Some
returns-in-Some c = named-at c.args.names.now c.as_str.result.now c.args.name.now (Some c.in-Some.hits.now) c.in-Some.ensures.value c.as_str.ensures.bytes

pub returns-in-None : goal.returns-in-None
returns-in-None c = named-at c.args.names.now c.as_str.result.now c.args.name.now None c.in-None.ensures.value c.as_str.ensures.bytes
