use Rattle.dw_read_report.proofs.LegalWords.{journal_words}
use Rattle.dw_read_report.proofs.laws.legal_answers_have_words.Goals as goal

pub returns : goal.returns
returns c = journal_words
