use Rattle.std.proofs.Common.{ap, sym, subst, Err}
use Rattle.dw_script.specs.declared.status.Status.TheVariants.{Ok}
use Rattle.dw_input.specs.Scripts.{world_under}
use Rattle.dw_input.specs.Files.{bytes_under}
use Rattle.dw_check.specs.Answers.{IsDueOf, IsDueOfNames, due_of_names}
use Rattle.dw_check.proofs.DueLemmas.{due_once, complete_by}
use Rattle.dw_check.proofs.RightLemmas.{named_due}
use Rattle.dw_check.proofs.check.top_check.Goals as goal

-- where that the report is right is due, no other status is
pub returns-in-Err-clause-complete : goal.returns-in-Err-clause-complete
returns-in-Err-clause-complete g c held told due unread unwritten =
    let journal = c.in-Some.journal.now in
    let names = c.in-Some.scripts.now in
    let right = subst (λ words. IsDueOf words held Ok) (sym c.in-Some.ensures.names) due in
    complete_by (IsDueOfNames journal names held) c.in-Err.status c.in-Err.ensures.early
    (λ is. unread (c.in-Err.ensures.fault (ap Err is)))
    (λ status is. due_once (due_of_names journal names held) (world_under names held) (bytes_under held journal) status right is)
    (c.in-Err.ensures.refused held told)

-- words that name a report have the form of the command, and of them it is due that the report is right
pub returns-in-Err-clause-takes : goal.returns-in-Err-clause-takes
returns-in-Err-clause-takes g c held told named unread unwritten =
    returns-in-Err-clause-complete g c held told (named_due c.args.words.now held named) unread unwritten
