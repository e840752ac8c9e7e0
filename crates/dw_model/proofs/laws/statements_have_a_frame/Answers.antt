-- The frame, clause by clause.
use Rattle.dw_model.proofs.FrameLemmas.{reply_framed, change_framed, written_framed, rows_added_framed, unwritten_framed}
use Rattle.dw_model.proofs.laws.statements_have_a_frame.Goals as goal

pub returns-clause-reply : goal.returns-clause-reply
returns-clause-reply c = reply_framed

pub returns-clause-change : goal.returns-clause-change
returns-clause-change c = change_framed

pub returns-clause-written : goal.returns-clause-written
returns-clause-written c = written_framed

pub returns-clause-added : goal.returns-clause-added
returns-clause-added c = rows_added_framed

pub returns-clause-unwritten : goal.returns-clause-unwritten
returns-clause-unwritten c = unwritten_framed
