-- What is read ends after its beginning, and within the tokens.
use Rattle.std.proofs.Common.{◌≡◌, Some, sym, ◌∙◌, ap}
use Rattle.std.specs.Option.{option_map}
use Rattle.dw_parse_expr.specs.Reading.{Found, expression_at}
use Rattle.dw_parse_expr.proofs.Ends.{read_spans}
use Rattle.dw_parse_expr.proofs.parser.expression_at.Goals as goal

pub returns-in-Some-clause-within : goal.returns-in-Some-clause-within
returns-in-Some-clause-within c =
    let e : expression_at c.args.tokens.now c.args.at ≡ Some (c.in-Some.tree, c.in-Some.end)
    = ap (option_map (λ (found : Found). (found.0, found.2))) (sym c.in_ok-tree.ensures.value ∙ c.in-Some.is) in
    read_spans c.args.tokens.now c.args.at c.in-Some.end c.in-Some.tree e
