use Rattle.std.proofs.Common.{◌≡◌, ℕ, ◌+◌, ◌<◌, length, min, sym, ap, subst, ◌∙◌, arith}
use Rattle.dw_ssn.specs.declared.summaries.Newest.{Newest}
use Rattle.dw_ssn.specs.CommitList.{newest_writer}
use Rattle.dw_ssn.specs.Summaries.{Summaries}
use Rattle.dw_ssn.proofs.Chains.{IsWalk, chain_writer, walk_first, walk_next, walk_low, walk_seen}
use Rattle.dw_ssn.proofs.certifier.Certifier.bounds_of.Goals as goal

pub loop-at-init : goal.loop-at-init
loop-at-init c = λ list stands.
    let object = c.args.object.now in
    let commits = list.commits in
    let snapshot = c.args.snapshot in
    let writer_is : c.newest-at.result.writer ≡ newest_writer object commits = ap (λ (n : Newest). n.writer) (c.newest-at.ensures list stands) in
    let count_is : c.self.inside.count + 1 ≡ length commits + 1 = ap (λ (n : ℕ). n + 1) (ap (λ (s : Summaries). s.count) c.self.view_is ∙ stands.count_is) in
    subst (λ (n : ℕ). IsWalk object commits snapshot n (c.self.inside.count + 1)) (sym writer_is)
    (subst (λ (n : ℕ). IsWalk object commits snapshot (newest_writer object commits) n) (sym count_is) (walk_first object commits snapshot))

pub loop-at-preserved : goal.loop-at-preserved
loop-at-preserved c = λ list stands.
    let object = c.args.object.now in
    let commits = list.commits in
    let snapshot = c.args.snapshot in
    let at = c.loop-at.at in
    let low = c.loop-at.low in
    let walk = c.loop-at.invariant list stands in
    let late : snapshot < at = omega arith in
    let w = chain_writer object commits at walk.on (omega arith) in
    let past : list.oldest < at = omega (arith, stands.oldest_is, c.requires) in
    let is = c.writer_at-writer.ensures.is list w.commit w.older stands past w.is w.stamp w.wrote in
    let low_is : c.min-low.result ≡ min low w.commit.low = c.min-low.ensures ∙ ap (min low) is.0 in
    subst (λ (n : ℕ). IsWalk object commits snapshot n c.min-low.result) (sym is.1)
    (subst (λ (n : ℕ). IsWalk object commits snapshot (newest_writer object w.older) n) (sym low_is) (walk_next object commits snapshot at low w walk late))

pub returns-clause-low : goal.returns-clause-low
returns-clause-low c = λ list stands.
    walk_low c.args.object.now list.commits c.args.snapshot c.loop-at.at c.loop-at.low (c.loop-at.invariant list stands) (omega arith)

pub returns-clause-high : goal.returns-clause-high
returns-clause-high c = λ list stands.
    walk_seen c.args.object.now list.commits c.args.snapshot c.loop-at.at c.loop-at.low (c.loop-at.invariant list stands) (omega arith)
