use Rattle.dw_judge.proofs.OneVerdict.{one_verdict}
use Rattle.dw_judge.proofs.verdicts.one_verdict.Goals as goal

pub returns : goal.returns
returns c = λ world journal a b first second. one_verdict world journal a b first second
