use Rattle.std.specs.Prelude.{reverse, take}
use Rattle.dw_top.specs.Run.{moves_of}
use Rattle.dw_top.specs.Rounds.{Leads}
use Rattle.dw_top.proofs.rounds.take_moves.Given as goal

abbrev pub invariant-loop-place : goal.invariant-loop-place
invariant-loop-place l = Leads (reverse (moves_of (take l.place l.moves))) l.fn.engine l.engine
