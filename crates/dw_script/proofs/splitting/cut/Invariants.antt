use Rattle.std.proofs.Common.{◌≡◌, ◌-◌, ◌≤◌, ◌++◌, length, take, drop}
use Rattle.dw_script.specs.Place.{nested_in}
use Rattle.dw_script.specs.Statements.{most_statements, statements}
use Rattle.dw_script.proofs.Parts.{to_come}
use Rattle.dw_script.proofs.splitting.cut.Given as goal

abbrev pub invariant-loop-at : goal.invariant-loop-at
invariant-loop-at l =
    record {
      begun : l.begin ≤ l.at;
      few : length l.statements ≤ most_statements;
      nested : nested_in l.place ≤ l.at;
      come : l.statements ++ to_come l.place l.at (take (l.at - l.begin) (drop l.begin l.bytes)) (drop l.at l.bytes) ≡ statements l.bytes;
    }
