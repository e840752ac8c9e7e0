-- What a text says is UTF-8.
use Rattle.std.proofs.Common.{sym, subst}
use Rattle.std.specs.Str.{IsUtf8}
use Rattle.std.proofs.lemmas.Bool.{false≢true}
use Rattle.dw_lex.proofs.MeaningLemmas.{IsUtf8-said_by}
use Rattle.dw_lex.proofs.token.Token.words.Goals as goal

pub unreachable-requires : goal.unreachable-requires
unreachable-requires c =
    let utf8 = subst IsUtf8 (sym c.as_bytes.ensures.bytes) c.as_bytes.ensures.utf8 in
    absurd (false≢true (c.in-Err.ensures.succeeds (subst IsUtf8 (sym c.in_ok-bytes.ensures) (IsUtf8-said_by c.as_bytes.result.now utf8))))
