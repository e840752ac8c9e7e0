use Rattle.dw_journal.proofs.StepLemmas.{EachFollows-steps, EachIsLegal-steps}
use Rattle.dw_journal.proofs.laws.driven_is_legal.Goals as goal

pub returns : goal.returns
returns c = record {
  legal = λ world moves journal driven. record {
    follows = EachFollows-steps journal.shape world driven.steps;
    legal = EachIsLegal-steps journal.shape world driven.steps;
  };
  follows = λ world moves journal same driven. record {
    each = EachFollows-steps journal.shape world driven.steps;
    sessions = same;
    ends = driven.ends;
  };
}
