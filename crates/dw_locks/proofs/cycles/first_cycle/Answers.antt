use Rattle.std.proofs.Common.{◌≡◌, ◌<◌, ◌-◌, length, get_or, true, false, ap, sym, subst, ◌∙◌, List as Items}
use Rattle.std.specs.Prelude.{ℕ, Option, IfOk}
use Rattle.dw_locks.specs.Walks.{waits_in, AreLevels, first_walk}
use Rattle.dw_locks.proofs.LevelLemmas.{length-level}
use Rattle.dw_locks.proofs.SearchLemmas.{pushed_are, search_ends, search_goes_on}
use Rattle.dw_locks.proofs.cycles.first_cycle.Goals as goal

-- a level has a place for each session
pub bounds-as_slice-session : goal.bounds-as_slice-session
bounds-as_slice-session c =
    let long = c.as_slice.ensures.len ∙ length-level c.args.waits.now c.args.session c.loop.counter c.loop.level c.loop.invariant.is in
    subst (λ count. c.args.session < count) (sym long) c.requires.session

pub next_level-requires-clause-long : goal.next_level-requires-clause-long
next_level-requires-clause-long c =
    c.as_slice-in-loop.ensures.len ∙ length-level c.args.waits.now c.args.session c.loop.counter c.loop.level c.loop.invariant.is

pub first_walk-requires-clause-levels : goal.first_walk-requires-clause-levels
first_walk-requires-clause-levels c =
    subst (AreLevels c.args.waits.now c.args.session) (sym c.as_slice-then-closes.ensures.items)
    (pushed_are c.args.waits.now c.args.session c.loop.counter c.loop.levels c.push.new.self c.loop.level c.loop.invariant c.requires.session c.loop-test.true c.in_ok-push.ensures.ok)

pub returns-then-closes : goal.returns-then-closes
returns-then-closes c =
    let closes : get_or c.loop.level c.args.session false ≡ true = ap (λ level. get_or level c.args.session false) (sym c.as_slice.ensures.items) ∙ c.if-closes.true in
    let counted = ap (λ levels. first_walk (waits_in c.args.waits.now) c.args.session (length levels - 1) c.args.session) c.as_slice-then-closes.ensures.items in
    let same = counted ∙ search_ends c.args.waits.now c.args.session c.loop.counter c.loop.levels c.push.new.self c.loop.level c.loop.invariant c.requires.session c.loop-test.true c.in_ok-push.ensures.ok closes in
    subst (λ (cycle : Option (Items ℕ)). IfOk c.first_walk.result (λ found. found ≡ cycle)) same c.first_walk.ensures

pub loop-preserved : goal.loop-preserved
loop-preserved c =
    search_goes_on c.args.waits.now c.args.session c.loop.counter c.loop.levels c.push.new.self c.loop.level c.loop.invariant c.requires.session c.loop-test.true c.in_ok-push.ensures.ok
    c.in_ok-next.next (ap (λ level. get_or level c.args.session false) (sym c.as_slice.ensures.items) ∙ c.if-closes.false) (c.in_ok-next.ensures c.args.session c.loop.counter (c.as_slice-in-loop.ensures.items ∙ c.loop.invariant.is))
