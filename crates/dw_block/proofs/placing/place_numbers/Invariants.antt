-- The values up to the place are found.
use Rattle.dw_block.specs.Blocks.{number_in}
use Rattle.dw_block.proofs.Places.{IsFound}
use Rattle.dw_block.proofs.placing.place_numbers.Given as goal

abbrev pub invariant-loop-place : goal.invariant-loop-place
invariant-loop-place l = IsFound number_in l.kind l.nulls l.numbers l.count l.place l.next l.values
