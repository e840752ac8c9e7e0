use Rattle.dw_lex.proofs.GapLemmas.{blank-passed, comment-passed, token_no_gap, comment_utf8}
use Rattle.dw_lex.proofs.laws.spelled_gaps_are_passed.Goals as goal

pub returns : goal.returns
returns c = record { blank = blank-passed; comment = comment-passed; no_token = token_no_gap; utf8 = comment_utf8 }
