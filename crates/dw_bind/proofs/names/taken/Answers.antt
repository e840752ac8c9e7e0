-- What is found for the alias is taken out, and nothing else.
use Rattle.std.proofs.Common.{Some, None, ◌∙◌}
use Rattle.dw_bind.proofs.Tables.{named_of-at, named-empty, taken-rest}
use Rattle.dw_bind.proofs.names.taken.Goals as goal

pub returns-in-Some-clause-names : goal.returns-in-Some-clause-names
returns-in-Some-clause-names c =
    named_of-at c.args.of_each.now c.as_str.result.now c.args.alias.now (Some c.in-Some.names) c.in-Some.ensures.value c.as_str.ensures.bytes

pub returns-in-Some-clause-rest : goal.returns-in-Some-clause-rest
returns-in-Some-clause-rest c =
    taken-rest c.args.of_each.now c.swap_remove.new.self c.as_str.result.now c.args.alias.now c.in-Some.ensures.updates c.as_str.ensures.bytes

pub returns-in-None-clause-names : goal.returns-in-None-clause-names
returns-in-None-clause-names c =
    λ asked. named-empty c.new.result c.new.ensures.empty asked
    ∙ named_of-at c.args.of_each.now c.as_str.result.now c.args.alias.now None c.in-None.ensures.value c.as_str.ensures.bytes asked

pub returns-in-None-clause-rest : goal.returns-in-None-clause-rest
returns-in-None-clause-rest c =
    taken-rest c.args.of_each.now c.swap_remove.new.self c.as_str.result.now c.args.alias.now c.in-None.ensures.updates c.as_str.ensures.bytes
