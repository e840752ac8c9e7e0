use Rattle.std.proofs.Common.{◌≡◌, ◌≤◌, ◌-◌, ◌++◌, length, drop}
use Rattle.dw_script.specs.Place.{nested_in}
use Rattle.dw_script.specs.Statements.{pending_mark, content_from, content}
use Rattle.dw_script.proofs.splitting.content.Given as goal

-- no content is found yet, and a mark that is pending is the end of what is passed
abbrev pub invariant-loop-at : goal.invariant-loop-at
invariant-loop-at l =
    record {
      here : content_from l.place l.at (drop l.at l.part) ≡ content l.part;
      within : length (pending_mark l.place) ≤ l.at;
      front : pending_mark l.place ++ drop l.at l.part ≡ drop (l.at - length (pending_mark l.place)) l.part;
      nested : nested_in l.place ≤ l.at;
    }
