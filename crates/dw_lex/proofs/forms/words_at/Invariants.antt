-- What is still to come of the text leads to the same end.
use Rattle.std.proofs.Common.{◌≡◌, ◌+◌, false, drop}
use Rattle.dw_lex.specs.Forms.{text_end}
use Rattle.dw_lex.proofs.forms.words_at.Given as goal

abbrev pub invariant-loop-index : goal.invariant-loop-index
invariant-loop-index l = text_end (drop l.index l.inside) l.pending (l.index + 1) ≡ text_end l.inside false 1
