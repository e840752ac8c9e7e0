use Rattle.std.proofs.Common.{◌≡◌, ℕ, sym, ap, subst, ◌∙◌, arith}
use Rattle.dw_ssn.specs.Summaries.{Summaries, StandsFor}
use Rattle.dw_ssn.proofs.certifier.Certifier.prune.Goals as goal

pub loop-self-preserved : goal.loop-self-preserved
loop-self-preserved c =
    let loop = c.loop-self.invariant in
    let oldest = c.drop_oldest.ensures.oldest in
    let test : c.loop-self.self.oldest ≡ c.self.inside.oldest = sym (ap (λ (s : Summaries). s.oldest) c.self.view_is) in
    record {
      count_is = c.drop_oldest.ensures.count ∙ loop.count_is;
      rises = omega (arith, oldest, loop.rises);
      below = omega (arith, oldest, test, c.loop-self-test.true);
      stands = λ list stands.
          let next = c.drop_oldest.ensures.stands _ (loop.stands list stands) in
          subst (λ (n : ℕ). StandsFor c.drop_oldest.new.self (record { oldest = n; commits = list.commits })) (sym oldest) next;
    }
