-- The column is counted for its own name, whose look-up the new entry answers.
use Rattle.std.proofs.Common.{ap, ◌∙◌}
use Rattle.dw_bind.specs.declared.hits.Hits.TheVariants.{One}
use Rattle.dw_bind.specs.Hits.{joined_hits}
use Rattle.dw_bind.proofs.Tables.{named-noted}
use Rattle.dw_bind.proofs.names.note.Goals as goal

pub returns : goal.returns
returns c =
    named-noted c.args.names.now c.insert.new.self c.in_ok-name.name c.args.name.now c.joined_hits-hits.result c.args.found
    c.in_ok-insert.ensures.updates (c.in_ok-name.ensures.ok ∙ c.as_str.ensures.bytes)
    (c.joined_hits-hits.ensures ∙ ap (λ before. joined_hits before (One c.args.found)) c.named.ensures)
