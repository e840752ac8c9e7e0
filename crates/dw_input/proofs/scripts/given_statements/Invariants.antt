use Rattle.std.proofs.Common.{◌≡◌, map, take}
use Rattle.dw_input.specs.Scripts.{given_of}
use Rattle.dw_input.proofs.scripts.given_statements.Given as goal

-- the statements so far are read
abbrev pub invariant-loop-statement : goal.invariant-loop-statement
invariant-loop-statement l = l.givens ≡ map given_of (take l.statement-index l.statements)
