-- The values up to the place are found.
use Rattle.dw_block.specs.Blocks.{text_in}
use Rattle.dw_block.proofs.Places.{IsFound}
use Rattle.dw_block.proofs.placing.place_texts.Given as goal

abbrev pub invariant-loop-place : goal.invariant-loop-place
invariant-loop-place l = IsFound text_in l.fn.kind l.nulls l.texts l.count l.place l.next l.values
