-- When a schedule's moves have a journal, and when no statement of it is refused for want of memory.
use Rattle.std.specs.Prelude.{◌≡◌, ℕ, List, [], ◌∷◌, Some}
use Rattle.dw_model.specs.declared.refusals.Refusal.TheVariants.{Memory}
use Rattle.dw_journal.specs.declared.Given.TheVariants.{Refused}
use Rattle.dw_journal.specs.declared.World.{World}
use Rattle.dw_journal.specs.Worlds.{IsSession, given_at}
use Rattle.dw_journal.specs.Driven.{Move, OfSession, OfCluster}

-- each of these moves is of a session with a script
abbrev pub AreSessionMoves : World → List Move → Type 0
AreSessionMoves world [] = Unit {0}
AreSessionMoves world (OfSession session ∷ moves) = IsSession world session × AreSessionMoves world moves
AreSessionMoves world (OfCluster cluster ∷ moves) = ⊥

-- no text of a script was refused for want of memory when it was read
abbrev pub WereRead : World → Type 0
WereRead world = (session statement : ℕ) → given_at world session statement ≡ Some (Refused Memory) → ⊥
