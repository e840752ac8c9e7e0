use Rattle.std.proofs.Common.{◌≡◌, ℕ, List, [], ◌∷◌, length, length-append, sym, ap, ◌∙◌, arith, rules}
use Rattle.std.specs.VecDeque.{deque_len}
use Rattle.std.specs.Prelude.{◌==◌, not}
use Rattle.std.specs.List.{filter}
use Rattle.dw_ssn.specs.declared.summaries.Recent.{Recent}
use Rattle.dw_ssn.proofs.Pruning.{last_same}
use Rattle.dw_ssn.proofs.summaries.drop_last.Goals as goal

pub returns-in-Some : goal.returns-in-Some
returns-in-Some c = λ rest commit is.
    let one = c.in-Some.commit in
    let same = last_same c.pop_back.new.self.items rest one commit (sym c.in-Some.ensures.items ∙ is) in (
      same.0,
      c.later_writers.ensures ∙ ap (λ (l : List ℕ). length (filter (λ stamp. not (stamp == 0)) l)) (c.as_slice.ensures.items ∙ ap (λ (r : Recent). r.before) same.1),
    )

pub returns-in-None : goal.returns-in-None
returns-in-None c = λ rest commit is.
    let long : deque_len c.args.recent.now ≡ length c.args.recent.now.items = search rules in
    absurd (omega (arith, long, c.in-None.ensures.cases.0, ap length is, length-append rest (commit ∷ [])))
