use Rattle.dw_top.proofs.Nearing.{InRound}
use Rattle.dw_top.proofs.rounds.take_round.Given as goal

abbrev pub invariant-loop-before : goal.invariant-loop-before
invariant-loop-before l = InRound l.before l.sessions l.fn.engine l.engine
