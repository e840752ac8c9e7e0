use Rattle.std.proofs.Common.{◌≡◌, ◌≢◌, ◌+◌, true, false, sym, ap, subst, ◌∙◌}
use Rattle.std.specs.Prelude.{Option, Some, None, is_some}
use Rattle.std.specs.Option.{option_copied}
use Rattle.std.specs.Borrow.{Bor}
use Rattle.dw_journal.specs.declared.Taken.{Taken}
use Rattle.dw_journal.specs.History.{History}
use Rattle.dw_journal.specs.Legal.{low_of, high_of}
use Rattle.dw_journal.specs.Transactions.{commits, taken_of}
use Rattle.dw_journal.specs.Turns.{number_due}
use Rattle.dw_engine.proofs.Commits.{a_transaction, no_transaction}
use Rattle.dw_engine.proofs.NextEvents.{commit_passes, commit_passes_within, commit_follows_within, commit_rolls_back}
use Rattle.dw_engine.proofs.StepLemmas.{engine_block}
use Rattle.dw_engine.proofs.engines.Engine.commit_block.Goals as goal

not_taken : {taken : Option Taken} (here : Option (Bor Taken)) → is_some here ≡ false → option_copied here ≡ taken → taken ≡ None
not_taken None none is = sym is
not_taken (Some taken) none is = cc

is_taken : {taken : Option Taken} (here : Option (Bor Taken)) → is_some here ≡ true → option_copied here ≡ taken → taken ≢ None
is_taken None some is none = cc
is_taken (Some taken) some is none = cc (is ∙ none)

pub pass-requires-clause-next : goal.pass-requires-clause-next
pass-requires-clause-next c =
    let now = c.args.self.now in
    let session = c.args.session in
    commit_passes now session c.requires.session.1 (number_due now session) c.requires.taking (engine_block session c.self.view_is c.in-Outside.ensures)

pub pass-requires-then-is_none-clause-next : goal.pass-requires-then-is_none-clause-next
pass-requires-then-is_none-clause-next c =
    let now = c.args.self.now in
    let session = c.args.session in
    commit_passes_within now session c.requires.session.1 (number_due now session) c.requires.taking (engine_block session c.self.view_is c.in-Within.ensures)
    (no_transaction now session (ap (λ (h : History). taken_of h session) (sym c.self.view_is) ∙ not_taken c.transaction.result c.if-is_none.ensures c.transaction.ensures.taken))

pub commit-requires-clause-follows : goal.commit-requires-clause-follows
commit-requires-clause-follows c =
    let now = c.args.self.now in
    let session = c.args.session in
    let taken = subst (λ (h : History). taken_of h session ≢ None) c.self.view_is (is_taken c.transaction.result c.if-is_none.ensures c.transaction.ensures.taken) in
    let here = a_transaction now session taken in
    commit_follows_within now session c.requires.session.1 (number_due now session) c.requires.taking here.0
    (commits now.events + 1) (low_of now session) (high_of now session) (engine_block session c.self.view_is c.in-Within.ensures) here.1

pub commit-requires-clause-taken : goal.commit-requires-clause-taken
commit-requires-clause-taken c =
    subst (λ (h : History). taken_of h c.args.session ≢ None) c.self.view_is (is_taken c.transaction.result c.if-is_none.ensures c.transaction.ensures.taken)

pub leave-requires-clause-next : goal.leave-requires-clause-next
leave-requires-clause-next c =
    let now = c.args.self.now in
    let session = c.args.session in
    commit_rolls_back now session c.requires.session.1 (number_due now session) c.requires.taking (engine_block session c.self.view_is c.in-Aborted.ensures)
