-- The elements so far and those after them are all.
use Rattle.std.proofs.Common.{◌-◌, ◌≤◌, length}
use Rattle.dw_parse_words.specs.PieceReading.{listed_at}
use Rattle.dw_parse_query.proofs.ListLemmas.{Reads}
use Rattle.dw_parse_query.proofs.lists.listed_at.Given as goal

abbrev pub invariant-loop-elements : goal.invariant-loop-elements
invariant-loop-elements g l =
    record {
      within : l.at ≤ length l.tokens;
      past : l.start ≤ l.at;
      so_far : Reads (g.X.Element.read_at l.tokens) l.tokens l.elements l.at (listed_at (g.X.Element.read_at l.tokens) l.tokens l.start);
    }

abbrev pub decreases-loop-elements : goal.decreases-loop-elements
decreases-loop-elements g l = length l.tokens - l.at
