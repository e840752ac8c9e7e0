-- How a reading unrolls.
use Rattle.std.proofs.Common.{◌≡◌, ℕ, zero, suc, ◌+◌, ◌<◌, Bool, true, false, Some, List, refl, arith}
use Rattle.std.specs.Prelude.{◌==◌, nat_lt}
use Rattle.std.specs.Option.{option_map, option_and_then}
use Rattle.std.proofs.lemmas.Bool.{eqb-true, eq-eqb, lt-ltb}
use Rattle.dw_lex.specs.declared.token.Token.{Token}
use Rattle.dw_parse_expr.specs.Marks.{mark_at, level_of, operator_of, prefix_level, prefix_made}
use Rattle.dw_parse_expr.specs.Reading.{Found, below, atom_at, goes_on, chain, steps, read_level, read}

pub eqb_false : (a b : ℕ) → (a ≡ b → ⊥) → (a == b) ≡ false
eqb_false a b other = on (a == b) refl
  where
    on : (t : Bool) → (a == b) ≡ t → (a == b) ≡ false
    on true e = absurd (other (eqb-true a b e))
    on false e = e

module _ (tokens : List Token) where
  pub unroll_atom : (b i : ℕ) → 0 < b → read tokens b 0 i ≡ atom_at tokens (read tokens (below b)) i
  unfolding read read_level
  unroll_atom zero i some = absurd (omega arith)
  unroll_atom (suc b) i some = refl

  pub unroll_prefix : (b k i : ℕ) → 0 < b → prefix_level (mark_at tokens i) ≡ suc k
      → read tokens b (suc k) i
      ≡ option_map (λ (a : Found). (prefix_made (mark_at tokens i) a.0, suc a.1, a.2)) (read tokens (below b) (suc k) (i + 1))
  unfolding read read_level
  unroll_prefix zero k i some p = absurd (omega arith)
  unroll_prefix (suc b) k i some p =
      let here : (prefix_level (mark_at tokens i) == suc k) ≡ true = eq-eqb (prefix_level (mark_at tokens i)) (suc k) p in
      rw here refl

  pub unroll : (b k i : ℕ) → 0 < b → (prefix_level (mark_at tokens i) ≡ suc k → ⊥)
      → read tokens b (suc k) i
      ≡ option_and_then (chain tokens (read tokens (below b)) b (suc k) (steps (suc k) b)) (read tokens b k i)
  unfolding read read_level
  unroll zero k i some p = absurd (omega arith)
  unroll (suc b) k i some p =
      let here : (prefix_level (mark_at tokens i) == suc k) ≡ false = eqb_false (prefix_level (mark_at tokens i)) (suc k) p in
      rw here refl

  pub chain_stops : (b k limit : ℕ) (a : Found) → (level_of (mark_at tokens a.2) ≡ k → ⊥)
      → chain tokens (read tokens (below b)) b k limit a ≡ Some a
  chain_stops b k zero a other = refl
  chain_stops b k (suc limit) a other = rw (eqb_false (level_of (mark_at tokens a.2)) k other) refl

  pub chain_goes : (b k limit : ℕ) (a : Found) → level_of (mark_at tokens a.2) ≡ k → a.1 < b
      → chain tokens (read tokens (below b)) b k (suc limit) a
      ≡ option_and_then (chain tokens (read tokens (below b)) b k limit)
      (goes_on tokens (read tokens (below b)) (below k) a (operator_of (mark_at tokens a.2)))
  chain_goes b k limit a here room =
      let same : (level_of (mark_at tokens a.2) == k) ≡ true = eq-eqb (level_of (mark_at tokens a.2)) k here in
      let less : nat_lt a.1 b ≡ true = lt-ltb a.1 b room in
      rw (same, less) refl
