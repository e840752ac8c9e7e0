use Rattle.std.proofs.Common.{◌≡◌, ℕ, ◌+◌, ◌-◌, min, max, List, [], ◌∷◌, length, drop, sym, ap, ◌∙◌, arith}
use Rattle.std.proofs.lemmas.List.{drop_more, drop_all}
use Rattle.dw_model.specs.declared.objects.Object.{Object}
use Rattle.dw_journal.specs.Watermarks.{low_over, high_over}
use Rattle.dw_ssn.specs.Summaries.{Summaries}
use Rattle.dw_ssn.proofs.Parts.{low_none, low_more, high_none, high_more}
use Rattle.dw_ssn.proofs.certifier.Certifier.bounds_read.Goals as goal

pub loop-left-init : goal.loop-left-init
loop-left-init c =
    let reads = c.as_slice-reads.result.now in
    let none : drop (length reads) reads ≡ [] = drop_all (length reads) reads (omega arith) in
    let snapshot = c.args.taken.now.snapshot in
    let writes = c.args.taken.now.writes in
    record {
      within = omega arith;
      low = λ list stands.
          ap (λ (n : ℕ). n + 1) (ap (λ (s : Summaries). s.count) c.self.view_is ∙ stands.count_is)
          ∙ sym (ap (λ (l : List Object). low_over (length list.commits + 1) (record { snapshot = snapshot; reads = l; writes = writes }) list.commits) none
          ∙ low_none (length list.commits + 1) snapshot writes list.commits);
      high = λ list stands.
          sym (ap (λ (l : List Object). high_over (record { snapshot = snapshot; reads = l; writes = [] }) list.commits) none ∙ high_none snapshot list.commits);
    }

pub loop-left-preserved : goal.loop-left-preserved
loop-left-preserved c =
    let reads = c.as_slice-reads.result.now in
    let left = c.loop-left.left - 1 in
    let object = c.index-reads-left.result in
    let snapshot = c.args.taken.now.snapshot in
    let writes = c.args.taken.now.writes in
    let next : left + 1 ≡ c.loop-left.left = omega arith in
    let one : drop left reads ≡ object ∷ drop c.loop-left.left reads =
    drop_more reads left object (omega (arith, c.loop-left.invariant.within))
    ∙ ap (λ (o : Object). o ∷ drop (left + 1) reads) (sym c.index-reads-left.is) ∙ ap (λ (n : ℕ). object ∷ drop n reads) next in
    record {
      within = omega (arith, c.loop-left.invariant.within);
      low = λ list stands.
          c.min.ensures ∙ (λ k. min (c.bounds_of-one.ensures.low list stands k) (c.loop-left.invariant.low list stands k))
          ∙ sym (ap (λ (l : List Object). low_over (length list.commits + 1) (record { snapshot = snapshot; reads = l; writes = writes }) list.commits) one
          ∙ low_more (length list.commits + 1) snapshot writes object (drop c.loop-left.left reads) list.commits);
      high = λ list stands.
          c.max.ensures ∙ (λ k. max (c.bounds_of-one.ensures.high list stands k) (c.loop-left.invariant.high list stands k))
          ∙ sym (ap (λ (l : List Object). high_over (record { snapshot = snapshot; reads = l; writes = [] }) list.commits) one
          ∙ high_more snapshot object (drop c.loop-left.left reads) [] list.commits);
    }
