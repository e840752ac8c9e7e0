use Rattle.std.proofs.Common.{◌≡◌, ℕ, zero, suc, List, [], ◌∷◌, ◌++◌, replicate, refl, ap, ◌∙◌, add-one}
use Rattle.dw_history.proofs.tests.TickActCounter.act.Goals as goal

one_more : (n : ℕ) → replicate (suc n) (tt {0}) ≡ replicate n (tt {0}) ++ tt {0} ∷ []
one_more zero = refl
one_more (suc n) = ap (λ (l : List (Unit {0})). tt {0} ∷ l) (one_more n)

pub returns-then-counter-lt18446744073709551615-clause-grows :
    goal.returns-then-counter-lt18446744073709551615-clause-grows
returns-then-counter-lt18446744073709551615-clause-grows c =
    (tt {0} ∷ [], ap (λ (n : ℕ). replicate n (tt {0})) (add-one c.args.counter.now.0) ∙ one_more c.args.counter.now.0, λ k d lt. refl)
