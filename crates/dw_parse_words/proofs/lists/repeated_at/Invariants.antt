-- The elements so far and those after them are all.
use Rattle.std.proofs.Common.{◌-◌, ◌≤◌, length}
use Rattle.dw_parse_words.specs.PieceReading.{repeated_at}
use Rattle.dw_parse_words.proofs.ListLemmas.{Repeats}
use Rattle.dw_parse_words.proofs.lists.repeated_at.Given as goal

abbrev pub invariant-loop-elements : goal.invariant-loop-elements
invariant-loop-elements g l =
    record {
      within : l.at ≤ length l.tokens;
      past : l.start ≤ l.at;
      so_far : Repeats (g.X.Element.read_at l.tokens) l.tokens l.elements l.at (repeated_at (g.X.Element.read_at l.tokens) l.tokens l.start);
    }

abbrev pub decreases-loop-elements : goal.decreases-loop-elements
decreases-loop-elements g l = length l.tokens - l.at
