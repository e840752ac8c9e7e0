use Rattle.dw_script.proofs.Gaps.{statements-gap, left_open-gap, ends_outside-gap, statements-last, left_open-last}
use Rattle.dw_script.proofs.laws.gaps_left_out.Goals as goal

pub returns : goal.returns
returns c = record {
  statements = statements-gap;
  left_open = left_open-gap;
  ends_outside = ends_outside-gap;
  last_line = statements-last;
  last_closed = left_open-last;
}
