use Rattle.std.specs.Cmp.Lexicographic.{pointwise}
use Rattle.std.proofs.lemmas.Bool.Decides.{same_from_decides}
use Rattle.dw_judge.specs.Sames.{same_field}
use Rattle.dw_judge.proofs.SameAnswers.{rows-decides}
use Rattle.dw_judge.proofs.sames.have_same_rows.Goals as goal

pub returns : goal.returns
returns c =
    same_from_decides c.are_same_rows.result (pointwise (pointwise same_field) c.args.a.now c.args.b.now) c.are_same_rows.ensures
    (rows-decides c.args.a.now c.args.b.now)
