-- The tokens so far and those after them are the tokens of the whole text, and those so far are in order up to here.
use Rattle.std.proofs.Common.{◌≡◌, ◌-◌, ◌≤◌, length, drop}
use Rattle.dw_lex.specs.Reading.{read_from, read_tokens}
use Rattle.dw_lex.specs.Places.{AreInOrder}
use Rattle.dw_lex.proofs.ReadingLemmas.{with_front}
use Rattle.dw_lex.proofs.reading.tokens.Given as goal

abbrev pub invariant-loop-at : goal.invariant-loop-at
invariant-loop-at l =
    (l.at ≤ length l.text) × (with_front l.tokens (read_from (drop l.at l.text) l.at 0) ≡ read_tokens l.text)
    × AreInOrder l.text 0 l.tokens l.at

abbrev pub decreases-loop-at : goal.decreases-loop-at
decreases-loop-at l = length l.text - l.at
