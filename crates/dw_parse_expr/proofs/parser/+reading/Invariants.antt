-- Each call reads less deep, or tighter, or goes on to a part of the form. What is left after the turns so far comes to
-- what there was at the start.
use Rattle.std.proofs.Common.{◌≡◌, ◌≤◌, ◌+◌, ◌-◌, ◌*◌, length, []}
use Rattle.dw_parse_expr.specs.Reading.{below, chain, steps, listed, armed, read}
use Rattle.dw_parse_expr.proofs.parser.+reading.Given as goal

abbrev pub decreases-read : goal.decreases-read
decreases-read l = 30 * l.budget + 2 * l.level

abbrev pub decreases-prefixed : goal.decreases-prefixed
decreases-prefixed l = 30 * l.budget + 29

abbrev pub decreases-chain : goal.decreases-chain
decreases-chain l = 30 * l.budget - 1

abbrev pub decreases-goes_on : goal.decreases-goes_on
decreases-goes_on l = 30 * l.budget + 28

abbrev pub decreases-operated : goal.decreases-operated
decreases-operated l = 30 * l.budget + 27

abbrev pub decreases-tested : goal.decreases-tested
decreases-tested l = 30 * l.budget + 27

abbrev pub decreases-between_test : goal.decreases-between_test
decreases-between_test l = 30 * l.budget + 26

abbrev pub decreases-upper : goal.decreases-upper
decreases-upper l = 30 * l.budget + 25

abbrev pub decreases-like_test : goal.decreases-like_test
decreases-like_test l = 30 * l.budget + 26

abbrev pub decreases-in_test : goal.decreases-in_test
decreases-in_test l = 30 * l.budget + 26

abbrev pub decreases-listed : goal.decreases-listed
decreases-listed l = 30 * l.budget + 20

abbrev pub decreases-atom : goal.decreases-atom
decreases-atom l = 30 * l.budget + 29

abbrev pub decreases-named : goal.decreases-named
decreases-named l = 30 * l.budget + 28

abbrev pub decreases-call_at : goal.decreases-call_at
decreases-call_at l = 30 * l.budget + 27

abbrev pub decreases-count_at : goal.decreases-count_at
decreases-count_at l = 30 * l.budget + 26

abbrev pub decreases-aggregate_of : goal.decreases-aggregate_of
decreases-aggregate_of l = 30 * l.budget + 25

abbrev pub decreases-marked_atom : goal.decreases-marked_atom
decreases-marked_atom l = 30 * l.budget + 28

abbrev pub decreases-parenthesised : goal.decreases-parenthesised
decreases-parenthesised l = 30 * l.budget + 27

abbrev pub decreases-case_at : goal.decreases-case_at
decreases-case_at l = 30 * l.budget + 27

abbrev pub decreases-case_after : goal.decreases-case_after
decreases-case_after l = 30 * l.budget + 26

abbrev pub decreases-armed : goal.decreases-armed
decreases-armed l = 30 * l.budget + 24

abbrev pub decreases-arm_at : goal.decreases-arm_at
decreases-arm_at l = 30 * l.budget + 23

abbrev pub decreases-arm_result : goal.decreases-arm_result
decreases-arm_result l = 30 * l.budget + 22

abbrev pub invariant-chain-loop-step : goal.invariant-chain-loop-step
invariant-chain-loop-step l = record {
  place : l.left.2 ≤ length l.tokens;
  deep : l.left.1 ≤ l.budget;
  rest : chain l.tokens (read l.tokens (below l.budget)) l.budget l.level (l.limit - l.step) l.left
      ≡ chain l.tokens (read l.tokens (below l.budget)) l.budget l.level (steps l.level l.budget) l.fn.first;
}

abbrev pub invariant-listed-loop-step : goal.invariant-listed-loop-step
invariant-listed-loop-step l = record {
  place : l.at ≤ length l.tokens;
  deep : l.depth ≤ l.budget;
  rest : listed l.tokens (read l.tokens l.budget 8) (length l.tokens - l.step) l.list l.depth l.at
      ≡ listed l.tokens (read l.tokens l.budget 8) (length l.tokens) [] 0 l.start;
}

abbrev pub invariant-armed-loop-step : goal.invariant-armed-loop-step
invariant-armed-loop-step l = record {
  place : l.at ≤ length l.tokens;
  deep : l.depth ≤ l.budget;
  rest : armed l.tokens (read l.tokens l.budget) (length l.tokens - l.step) l.arms l.depth l.at
      ≡ armed l.tokens (read l.tokens l.budget) (length l.tokens) [] 0 l.start;
}
