use Rattle.std.proofs.Common.{◌∷◌, ◌++◌, [], ◌∙◌, ap}
use Rattle.dw_read_report.specs.EventReading.{without_parenthesis}
use Rattle.dw_read_report.proofs.Texts.{parenthesis_goes, no_parenthesis_goes}
use Rattle.dw_read_report.proofs.read_refusals.without_parenthesis.Goals as goal

pub returns-then-last-ne41 : goal.returns-then-last-ne41
returns-then-last-ne41 c =
    ap without_parenthesis c.in-Some.ensures.items ∙ no_parenthesis_goes c.pop.new.self.items c.in-Some.last c.if-last-ne41.true

pub returns : goal.returns
returns c =
    ap without_parenthesis c.in-Some.ensures.items
    ∙ ap (λ last. without_parenthesis (c.pop.new.self.items ++ last ∷ [])) c.if-last-ne41.false
    ∙ parenthesis_goes c.pop.new.self.items
