-- What is said so far, and what the rest says, is what the whole says.
use Rattle.std.proofs.Common.{◌≡◌, ◌++◌, false, drop}
use Rattle.dw_lex.specs.Meaning.{said_after}
use Rattle.dw_lex.proofs.meaning.said_after.Given as goal

abbrev pub invariant-loop-byte : goal.invariant-loop-byte
invariant-loop-byte l = l.said.items ++ said_after (drop l.byte-index l.bytes) l.pending ≡ said_after l.bytes false
