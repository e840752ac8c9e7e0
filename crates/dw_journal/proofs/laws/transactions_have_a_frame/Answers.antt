use Rattle.dw_journal.proofs.Frames.{replies_framed, changes_framed, view_framed, unwritten_in}
use Rattle.dw_journal.proofs.laws.transactions_have_a_frame.Goals as goal

pub returns-clause-replies : goal.returns-clause-replies
returns-clause-replies c = replies_framed

pub returns-clause-changes : goal.returns-clause-changes
returns-clause-changes c = changes_framed

pub returns-clause-read : goal.returns-clause-read
returns-clause-read c = view_framed

pub returns-clause-unwritten : goal.returns-clause-unwritten
returns-clause-unwritten c = unwritten_in
