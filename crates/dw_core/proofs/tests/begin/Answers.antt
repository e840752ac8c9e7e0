use Rattle.std.proofs.Common.{sym, ◌∙◌}
use Rattle.dw_model.specs.declared.answers.Word.TheVariants as words
use Rattle.dw_journal.specs.declared.Event.TheVariants.{Begin, Pass}
use Rattle.dw_journal.specs.declared.BlockState.TheVariants.{Outside, Within}
use Rattle.dw_journal.specs.Turns.{Begins, number_due}
use Rattle.dw_journal.specs.Follows.{begin_outside, begin_within}
use Rattle.dw_core.proofs.Driver.{aborted_comes, follows_taken}
use Rattle.dw_core.proofs.tests.begin.Goals as goal

pub begun-requires-clause-comes : goal.begun-requires-clause-comes
begun-requires-clause-comes c =
    let history = c.args.core.now in
    let session = c.args.session in
    let k = number_due history session in
    let at = sym c.requires.block ∙ c.in-Outside.is in
    (follows_taken history session c.requires.session Begins Outside (Begin session k) c.requires.due at begin_outside, tt)

pub passed-requires-clause-comes : goal.passed-requires-clause-comes
passed-requires-clause-comes c =
    let history = c.args.core.now in
    let session = c.args.session in
    let k = number_due history session in
    let at = sym c.requires.block ∙ c.in-Within.is in
    (follows_taken history session c.requires.session Begins Within (Pass session k words.Begin) c.requires.due at begin_within, tt)

pub declined-requires-clause-comes : goal.declined-requires-clause-comes
declined-requires-clause-comes c =
    let history = c.args.core.now in
    let session = c.args.session in
    let at = sym c.requires.block ∙ c.in-Aborted.is in
    aborted_comes history session c.requires.session c.requires.due at
