-- A reading as the code goes along it: a budget or a level is less by one, and a limit by the turns so far.
use Rattle.std.proofs.Common.{◌≡◌, ℕ, zero, suc, ◌+◌, ◌-◌, ◌<◌, ◌≤◌, max, Bool, true, false, Option, Some, None, List, [], ◌∷◌, ◌++◌, refl, ◌∙◌, ap, arith}
use Rattle.std.specs.Prelude.{nat_lt}
use Rattle.std.specs.Option.{option_map, option_and_then}
use Rattle.std.proofs.lemmas.Bool.{ltb-true, eq-eqb}
use Rattle.dw_lex.specs.declared.token.Token.{Token}
use Rattle.dw_expr.specs.Tree.{Tree}
use Rattle.dw_parse_expr.specs.declared.marks.Mark.TheVariants as mark
use Rattle.dw_parse_expr.specs.Marks.{marked, mark_at, level_of, operator_of, prefix_level, prefix_made}
use Rattle.dw_parse_expr.specs.Reading.{Found, Reader, below, atom_at, goes_on, chain, steps, read, listed, armed, arm_at}
use Rattle.dw_parse_expr.proofs.Steps.{unroll_atom, unroll_prefix, unroll, chain_goes}
use Rattle.dw_parse_expr.proofs.Items.{listed_more, armed_more}

pub below_less_one : (b : ℕ) → below b ≡ b - 1
below_less_one zero = refl
below_less_one (suc b) = omega arith

at_least : (a b : ℕ) → b ≤ a → nat_lt a b ≡ false
at_least a b h = on (nat_lt a b) refl
  where
    on : (t : Bool) → nat_lt a b ≡ t → nat_lt a b ≡ false
    on true e = let x = ltb-true a b e in absurd (omega arith)
    on false e = e

module _ (tokens : List Token) where
  pub read_none : (b k i : ℕ) → b ≡ 0 → read tokens b k i ≡ None
  unfolding read
  read_none zero k i e = refl
  read_none (suc b) k i e = absurd (omega arith)

  pub read_atom : (b k i : ℕ) → 0 < b → k ≡ 0 → read tokens b k i ≡ atom_at tokens (read tokens (b - 1)) i
  read_atom b zero i some e =
      unroll_atom tokens b i some ∙ ap (λ m. atom_at tokens (read tokens m) i) (below_less_one b)
  read_atom b (suc k) i some e = absurd (omega arith)

  pub read_prefix : (b k i : ℕ) → 0 < b → 0 < k → prefix_level (mark_at tokens i) ≡ k
      → read tokens b k i
      ≡ option_map (λ (a : Found). (prefix_made (mark_at tokens i) a.0, suc a.1, a.2)) (read tokens (b - 1) k (i + 1))
  read_prefix b zero i some up p = absurd (omega arith)
  read_prefix b (suc k) i some up p =
      unroll_prefix tokens b k i some p
      ∙ ap (λ m. option_map (λ (a : Found). (prefix_made (mark_at tokens i) a.0, suc a.1, a.2)) (read tokens m (suc k) (i + 1))) (below_less_one b)

  pub read_layer : (b k i : ℕ) → 0 < b → 0 < k → (prefix_level (mark_at tokens i) ≡ k → ⊥)
      → read tokens b k i
      ≡ option_and_then (chain tokens (read tokens (below b)) b k (steps k b)) (read tokens b (k - 1) i)
  read_layer b zero i some up p = absurd (omega arith)
  read_layer b (suc k) i some up p =
      unroll tokens b k i some p
      ∙ ap (λ m. option_and_then (chain tokens (read tokens (below b)) b (suc k) (steps (suc k) b)) (read tokens b m i)) (below_less_one (suc k))

  chain_full : (b k limit : ℕ) (a : Found) → 0 < limit → level_of (mark_at tokens a.2) ≡ k → b ≤ a.1
      → chain tokens (read tokens (below b)) b k limit a ≡ None
  chain_full b k zero a more here deep = absurd (omega arith)
  chain_full b k (suc limit) a more here deep =
      rw (eq-eqb (level_of (mark_at tokens a.2)) k here, at_least a.1 b deep) refl

  -- the chain that is left after so many turns, where the expression is as deep as may be
  pub chain_deep : (b k limit turns : ℕ) (a : Found) → turns < limit → level_of (mark_at tokens a.2) ≡ k → b ≤ a.1
      → chain tokens (read tokens (below b)) b k (limit - turns) a ≡ None
  chain_deep b k limit turns a more here deep = chain_full b k (limit - turns) a (omega arith) here deep

  -- the same, where one step more is taken
  pub chain_turn : (b k limit turns : ℕ) (a : Found) → turns < limit → level_of (mark_at tokens a.2) ≡ k → a.1 < b
      → chain tokens (read tokens (below b)) b k (limit - turns) a
      ≡ option_and_then (chain tokens (read tokens (below b)) b k (limit - (turns + 1)))
      (goes_on tokens (read tokens (b - 1)) (k - 1) a (operator_of (mark_at tokens a.2)))
  chain_turn b k limit turns a more here room =
      let n = limit - (turns + 1) in
      let m : limit - turns ≡ suc (limit - (turns + 1)) = omega arith in
      ap (λ x. chain tokens (read tokens (below b)) b k x a) m
      ∙ chain_goes tokens b k n a here room
      ∙ ap (λ x. option_and_then (chain tokens (read tokens (below b)) b k n) (goes_on tokens (read tokens x) (below k) a (operator_of (mark_at tokens a.2)))) (below_less_one b)
      ∙ ap (λ x. option_and_then (chain tokens (read tokens (below b)) b k n) (goes_on tokens (read tokens (b - 1)) x a (operator_of (mark_at tokens a.2)))) (below_less_one k)

  pub listed_none : (x : ℕ → Option Found) (limit d i : ℕ) (done : List Tree) → x i ≡ None → listed tokens x limit done d i ≡ None
  listed_none x zero d i done e = refl
  listed_none x (suc limit) d i done e = rw e refl

  pub armed_none : (inner : Reader) (limit d i : ℕ) (done : List (Tree × Tree)) → arm_at tokens inner i ≡ None → armed tokens inner limit done d i ≡ None
  armed_none inner zero d i done e = refl
  armed_none inner (suc limit) d i done e = rw e refl

  -- one turn of a row, where another one comes after it
  pub listed_turn : (x : ℕ → Option Found) (limit turns d i : ℕ) (done : List Tree) (a : Found) → turns < limit → x i ≡ Some a
      → marked tokens mark.Comma a.2 ≡ true
      → listed tokens x (limit - turns) done d i ≡ listed tokens x (limit - (turns + 1)) (done ++ a.0 ∷ []) (max d a.1) (a.2 + 1)
  listed_turn x limit turns d i done a more e on =
      let n : below (limit - turns) ≡ limit - (turns + 1) = omega (arith, below_less_one (limit - turns)) in
      listed_more tokens x (limit - turns) d i done a (omega arith) e on
      ∙ ap (λ m. listed tokens x m (done ++ a.0 ∷ []) (max d a.1) (a.2 + 1)) n

  pub armed_turn : (inner : Reader) (limit turns d i : ℕ) (done : List (Tree × Tree)) (one : (Tree × Tree) × ℕ × ℕ) → turns < limit
      → arm_at tokens inner i ≡ Some one → marked tokens mark.When one.2 ≡ true
      → armed tokens inner (limit - turns) done d i ≡ armed tokens inner (limit - (turns + 1)) (done ++ one.0 ∷ []) (max d one.1) (one.2 + 1)
  armed_turn inner limit turns d i done one more e on =
      let n : below (limit - turns) ≡ limit - (turns + 1) = omega (arith, below_less_one (limit - turns)) in
      armed_more tokens inner (limit - turns) d i done one (omega arith) e on
      ∙ ap (λ m. armed tokens inner m (done ++ one.0 ∷ []) (max d one.1) (one.2 + 1)) n
