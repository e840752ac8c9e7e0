use Rattle.std.proofs.Common.{◌≡◌, ◌≢◌, ◌+◌, None, ap, sym, subst, ◌∙◌}
use Rattle.dw_journal.specs.History.{History}
use Rattle.dw_journal.specs.Legal.{low_of, high_of}
use Rattle.dw_journal.specs.Transactions.{commits, taken_of}
use Rattle.dw_journal.specs.Turns.{CommitOf, Nothing, number_due, turn_of}
use Rattle.dw_engine.specs.Steps.{at_end}
use Rattle.dw_engine.proofs.Commits.{is_taken}
use Rattle.dw_engine.proofs.DueTurns.{ended_here}
use Rattle.dw_engine.proofs.NextEvents.{commit_follows}
use Rattle.dw_engine.proofs.engines.Engine.step.Goals as goal

pub commit-requires-clause-follows : goal.commit-requires-clause-follows
commit-requires-clause-follows c =
    let now = c.args.self.now in
    let session = c.args.session in
    commit_follows now session c.requires.session.1 (number_due now session) (commits now.events + 1) (low_of now session) (high_of now session)
    (subst (λ (h : History). turn_of h session ≡ CommitOf (number_due h session)) c.self.view_is c.in-Commit.ensures.0)

pub commit-requires-clause-taken : goal.commit-requires-clause-taken
commit-requires-clause-taken c =
    subst (λ (h : History). taken_of h c.args.session ≢ None) c.self.view_is
    (is_taken c.self.inside.core c.args.session c.in-Commit.ensures.2 c.in-Commit.ensures.3)

pub returns-in-Nothing-clause-step : goal.returns-in-Nothing-clause-step
returns-in-Nothing-clause-step c =
    at_end (ended_here c.args.self.now c.args.session c.requires.session.0 (ap (λ (h : History). turn_of h c.args.session) (sym c.self.view_is) ∙ c.in-Nothing.ensures))
