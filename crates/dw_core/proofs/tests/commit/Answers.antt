use Rattle.std.proofs.Common.{sym, ◌∙◌}
use Rattle.dw_model.specs.declared.answers.Word.TheVariants as words
use Rattle.dw_journal.specs.declared.Event.TheVariants.{Pass, Rollback}
use Rattle.dw_journal.specs.declared.BlockState.TheVariants.{Outside, Aborted}
use Rattle.dw_journal.specs.Turns.{Commits, number_due}
use Rattle.dw_journal.specs.Follows.{commit_outside, commit_aborted}
use Rattle.dw_core.proofs.Driver.{follows_taken, nothing_follows}
use Rattle.dw_core.proofs.OpenTransactions.{none_open}
use Rattle.dw_core.proofs.tests.commit.Goals as goal

pub passed-requires-clause-comes : goal.passed-requires-clause-comes
passed-requires-clause-comes c =
    let history = c.args.core.now in
    let session = c.args.session in
    let k = number_due history session in
    let at = sym c.requires.block ∙ c.in-Outside.is in
    (follows_taken history session c.requires.session Commits Outside (Pass session k words.Commit) c.requires.due at commit_outside, tt)

pub passed-requires-in-None-clause-comes : goal.passed-requires-in-None-clause-comes
passed-requires-in-None-clause-comes c =
    let history = c.args.core.now in
    let session = c.args.session in
    let k = number_due history session in
    let at = sym c.requires.block ∙ c.in-Within.is in
    (nothing_follows history session c.requires.session c.requires.due at (none_open history session (sym c.in-None.ensures.taken)), tt)

pub rolled_back-requires-clause-comes : goal.rolled_back-requires-clause-comes
rolled_back-requires-clause-comes c =
    let history = c.args.core.now in
    let session = c.args.session in
    let k = number_due history session in
    let at = sym c.requires.block ∙ c.in-Aborted.is in
    (follows_taken history session c.requires.session Commits Aborted (Rollback session k) c.requires.due at commit_aborted, tt)
