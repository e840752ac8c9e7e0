use Rattle.dw_read_report.proofs.TakenParts.{takes_names, takes_number, takes_row, takes_sessions, takes_shape, takes_shown, takes_text}
use Rattle.dw_read_report.proofs.laws.read_parts_are_printed.Goals as goal

pub returns : goal.returns
returns c = record {
  numbers = λ least most number bytes rest is. (takes_number least most).whole bytes rest number is;
  texts = λ bytes rest text is. takes_text.whole bytes rest text is;
  fields = λ bytes rest shown is. takes_shown.whole bytes rest shown is;
  sessions = λ bytes rest sessions is. takes_sessions.whole bytes rest sessions is;
  names = λ bytes rest names is. takes_names.whole bytes rest names is;
  rows = λ bytes rest row is. takes_row.whole bytes rest row is;
  shape = λ bytes rest shape is. takes_shape.whole bytes rest shape is;
}
