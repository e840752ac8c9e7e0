use Rattle.std.proofs.Common.{◌≡◌, ℕ, ◌+◌, ◌-◌, max, List, ◌∷◌, drop, sym, ap, ◌∙◌, arith}
use Rattle.std.proofs.lemmas.List.{drop_more}
use Rattle.dw_model.specs.declared.objects.Object.{Object}
use Rattle.dw_journal.specs.Watermarks.{high_over}
use Rattle.dw_ssn.proofs.Parts.{high_written}
use Rattle.dw_ssn.proofs.certifier.Certifier.bounds_written.Goals as goal

pub loop-left-preserved : goal.loop-left-preserved
loop-left-preserved c =
    let writes = c.as_slice-writes.result.now in
    let left = c.loop-left.left - 1 in
    let object = c.index-writes-left.result in
    let snapshot = c.args.taken.now.snapshot in
    let reads = c.args.taken.now.reads in
    let next : left + 1 ≡ c.loop-left.left = omega arith in
    let one : drop left writes ≡ object ∷ drop c.loop-left.left writes =
    drop_more writes left object (omega (arith, c.loop-left.invariant.within))
    ∙ ap (λ (o : Object). o ∷ drop (left + 1) writes) (sym c.index-writes-left.is) ∙ ap (λ (n : ℕ). object ∷ drop n writes) next in
    record {
      within = omega (arith, c.loop-left.invariant.within);
      high = λ list stands read.
          c.max-high.ensures
          ∙ (λ k. max (c.max.ensures k) (c.loop-left.invariant.high list stands read k))
          ∙ (λ k. max (max (c.newest-newest.ensures list stands k).writer (c.newest-newest.ensures list stands k).reader) (high_over (record { snapshot = snapshot; reads = reads; writes = drop c.loop-left.left writes }) list.commits))
          ∙ sym (ap (λ (l : List Object). high_over (record { snapshot = snapshot; reads = reads; writes = l }) list.commits) one
          ∙ high_written snapshot object reads (drop c.loop-left.left writes) list.commits);
    }

pub returns-clause-high : goal.returns-clause-high
returns-clause-high c = λ list stands read.
    let writes = c.as_slice-writes.result.now in
    let all : c.loop-left.left ≡ 0 = omega arith in
    c.loop-left.invariant.high list stands read
    ∙ ap (λ (n : ℕ). high_over (record { snapshot = c.args.taken.now.snapshot; reads = c.args.taken.now.reads; writes = drop n writes }) list.commits) all
    ∙ ap (λ (l : List Object). high_over (record { snapshot = c.args.taken.now.snapshot; reads = c.args.taken.now.reads; writes = l }) list.commits) c.as_slice-writes.ensures.items
