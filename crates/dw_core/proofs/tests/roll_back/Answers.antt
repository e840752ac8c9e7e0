use Rattle.std.proofs.Common.{◌≡◌, inl, inr, sym, ◌∙◌}
use Rattle.std.specs.Prelude.{◌⊎◌}
use Rattle.dw_model.specs.declared.answers.Word.TheVariants as words
use Rattle.dw_journal.specs.declared.Event.TheVariants.{Pass}
use Rattle.dw_journal.specs.declared.BlockState.TheVariants.{Outside, Within, Aborted}
use Rattle.dw_journal.specs.Blocks.{block_of}
use Rattle.dw_journal.specs.Turns.{RollsBack, number_due}
use Rattle.dw_journal.specs.Follows.{rollback_outside}
use Rattle.dw_core.proofs.Driver.{follows_taken, rollback_follows}
use Rattle.dw_core.proofs.tests.roll_back.Goals as goal

pub passed-requires-clause-comes : goal.passed-requires-clause-comes
passed-requires-clause-comes c =
    let history = c.args.core.now in
    let session = c.args.session in
    let k = number_due history session in
    let at = sym c.requires.block ∙ c.in-Outside.is in
    (follows_taken history session c.requires.session RollsBack Outside (Pass session k words.Rollback) c.requires.due at rollback_outside, tt)

pub rolled_back-requires : goal.rolled_back-requires
rolled_back-requires c =
    let history = c.args.core.now in
    let session = c.args.session in
    let k = number_due history session in
    let at : (block_of history session ≡ Within) ⊎ (block_of history session ≡ Aborted) = elim c.in-Within.is [
      | inl is ↦ inl (sym c.requires.block ∙ is)
      | inr is ↦ inr (sym c.requires.block ∙ is)
    ] in
    record { session = c.requires.session; comes = (rollback_follows history session c.requires.session c.requires.due at, tt) }
