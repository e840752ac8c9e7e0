use Rattle.dw_lex.proofs.SpellingLemmas.{token_found}
use Rattle.dw_lex.proofs.Utf8Lemmas.{token_utf8, blank_utf8}
use Rattle.dw_lex.proofs.laws.spelled_tokens_are_read.Goals as goal

pub returns-clause-read : goal.returns-clause-read
returns-clause-read c = token_found

pub returns-clause-utf8 : goal.returns-clause-utf8
returns-clause-utf8 c = token_utf8

pub returns-clause-blank : goal.returns-clause-blank
returns-clause-blank c = blank_utf8
