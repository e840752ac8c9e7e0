-- What the reading of a level comes to.
use Rattle.std.proofs.Common.{◌≡◌, ℕ, zero, suc, ◌+◌, ◌<◌, ◌≤◌, Bool, true, false, Some, List, refl, ◌∙◌, ap, arith}
use Rattle.std.specs.Option.{option_and_then}
use Rattle.dw_lex.specs.declared.token.Token.{Token}
use Rattle.dw_parse_expr.specs.Marks.{mark_at, level_of, operator_of, groups, prefix_level}
use Rattle.dw_parse_expr.specs.Reading.{Found, below, goes_on, chain, steps, read}
use Rattle.dw_parse_expr.proofs.Steps.{unroll, chain_stops, chain_goes}

-- the reading of a level comes to what was found, with enough steps left for what may come after
pub record Comes (tokens : List Token) (b k i : ℕ) (r : Found) : Type 0 where
  pub limit : ℕ
  pub enough : groups k ≡ true → b < limit + r.1
  pub reads : read tokens b k i ≡ chain tokens (read tokens (below b)) b k limit r

module _ (tokens : List Token) where
  pub settles : {b k i : ℕ} {r : Found} → Comes tokens b k i r → k < level_of (mark_at tokens r.2) → read tokens b k i ≡ Some r
  settles {b} {k} {r} c stop = c.reads ∙ chain_stops tokens b k c.limit r (λ e. absurd (omega arith))

  pub comes : {b k i : ℕ} (r : Found) → read tokens b k i ≡ Some r → groups k ≡ false → Comes tokens b k i r
  comes r e single = record { limit = 0; enough = λ g. absurd (true_false g single); reads = e }
    where
      true_false : {x : Bool} → x ≡ true → x ≡ false → ⊥
      true_false g h = cc

  steps_enough : (k b d : ℕ) → 1 ≤ d → groups k ≡ true → b < steps k b + d
  steps_enough k b d deep g = rw g (omega arith)

  -- a tighter expression is one of the level
  pub comes_up : {b k i : ℕ} (r : Found) → read tokens b k i ≡ Some r → 1 ≤ r.1 → r.1 ≤ b
      → prefix_level (mark_at tokens i) ≤ k → Comes tokens b (suc k) i r
  comes_up {b} {k} {i} r e deep room first =
      record {
        limit = steps (suc k) b;
        enough = steps_enough (suc k) b r.1 deep;
        reads = unroll tokens b k i (omega arith) (λ p. absurd (omega arith)) ∙ ap (option_and_then (chain tokens (read tokens (below b)) b (suc k) (steps (suc k) b))) e;
      }

  -- a step of a chain
  goes : {b k i : ℕ} (limit : ℕ) (a r : Found) → read tokens b k i ≡ chain tokens (read tokens (below b)) b k limit a → b < limit + a.1
      → r.1 ≤ b → a.1 < r.1 → level_of (mark_at tokens a.2) ≡ k
      → goes_on tokens (read tokens (below b)) (below k) a (operator_of (mark_at tokens a.2)) ≡ Some r
      → Comes tokens b k i r
  goes zero a r reads big room grows here e = absurd (omega arith)
  goes {b} {k} (suc limit) a r reads big room grows here e =
      record {
        limit = limit;
        enough = λ g. omega arith;
        reads = reads ∙ chain_goes tokens b k limit a here (omega arith) ∙ ap (option_and_then (chain tokens (read tokens (below b)) b k limit)) e;
      }

  pub comes_on : {b k i : ℕ} (a r : Found) → Comes tokens b k i a → groups k ≡ true → r.1 ≤ b → a.1 < r.1
      → level_of (mark_at tokens a.2) ≡ k
      → goes_on tokens (read tokens (below b)) (below k) a (operator_of (mark_at tokens a.2)) ≡ Some r
      → Comes tokens b k i r
  comes_on a r c g room grows here e = goes c.limit a r c.reads (c.enough g) room grows here e

  -- a comparison or a test: one step
  pub comes_once : {b i : ℕ} (a r : Found) → read tokens b 4 i ≡ Some a → prefix_level (mark_at tokens i) ≤ 4
      → r.1 ≤ b → a.1 < r.1 → level_of (mark_at tokens a.2) ≡ 5
      → goes_on tokens (read tokens (below b)) 4 a (operator_of (mark_at tokens a.2)) ≡ Some r
      → Comes tokens b 5 i r
  comes_once {b} {i} a r reads first room grows here e =
      comes r
      (unroll tokens b 4 i (omega arith) (λ p. absurd (omega arith))
      ∙ ap (option_and_then (chain tokens (read tokens (below b)) b 5 1)) reads
      ∙ chain_goes tokens b 5 0 a here (omega arith)
      ∙ ap (option_and_then (chain tokens (read tokens (below b)) b 5 0)) e)
      refl

  pub below_room : (e b : ℕ) → suc e ≤ b → e ≤ below b
  below_room e zero h = absurd (omega arith)
  below_room e (suc b) h = omega arith

  pub below_less : (k m : ℕ) → k < m → below k < m
  below_less zero m h = h
  below_less (suc k) m h = omega arith
