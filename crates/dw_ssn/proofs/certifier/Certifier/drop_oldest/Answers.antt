use Rattle.std.proofs.Common.{ℕ, ◌+◌, ◌<◌, length, sym, ap, subst, ◌∙◌, arith}
use Rattle.dw_ssn.specs.Summaries.{Summaries, StandsFor}
use Rattle.dw_ssn.proofs.Pruning.{dropped}
use Rattle.dw_ssn.proofs.certifier.Certifier.drop_oldest.Goals as goal

pub returns-clause-stands : goal.returns-clause-stands
returns-clause-stands c = λ list stands.
    let i = c.self.inside in
    let now = subst (λ (s : Summaries). StandsFor s list) (sym c.self.view_is) stands in
    let within : list.oldest < length list.commits = omega (arith, stands.oldest_is, stands.count_is, c.requires) in
    let one = dropped list.oldest list.commits within in
    let done = c.drop_last.ensures _ _ (now.recent_are ∙ one.recent) in
    record {
      oldest_is = ap (λ (n : ℕ). n + 1) now.oldest_is;
      count_is = now.count_is;
      within = omega (arith, within);
      newest_are = now.newest_are;
      recent_are = done.0;
      kept_is = c.saturating_sub-self-inside.ensures ∙ (omega (arith, now.kept_is, done.1, one.entries));
      sets = now.sets;
    }
