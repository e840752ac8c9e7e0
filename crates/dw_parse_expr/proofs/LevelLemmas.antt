-- What levels tell of marks.
use Rattle.std.proofs.Common.{◌≡◌, ℕ, suc, ◌<◌, ◌≤◌, Bool, true, false, Option, Some, None, List, refl, sym, ◌∙◌, ap, arith, ◌⊎◌, inl, inr}
use Rattle.std.specs.Prelude.{◌==◌, ◌||◌}
use Rattle.std.proofs.lemmas.Bool.{eqb-true, eq-eqb}
use Rattle.dw_lex.specs.declared.token.Token.{Token}
use Rattle.dw_parse_expr.specs.declared.marks.Mark.{Mark}
use Rattle.dw_parse_expr.specs.declared.marks.Mark.TheVariants.{Or, Open, Dot, Text, Star, Distinct}
use Rattle.dw_parse_expr.specs.Marks.{mark_at, level_of, groups, prefix_level, is_mark, marked}

true_false : {x : Bool} → x ≡ true → x ≡ false → ⊥
true_false g h = cc

-- no operator goes on at the levels of those that stand before
level_free : (found : Option Mark) → ((level_of found == 2) || (level_of found == 6)) ≡ false
level_free None = refl
level_free (Some Or) = refl
level_free _ = refl

prefix_table : (found : Option Mark) → ((prefix_level found == 0) || (prefix_level found == 2) || (prefix_level found == 6)) ≡ true
prefix_table None = refl
prefix_table (Some Or) = refl
prefix_table _ = refl

or_cases : (a b c : Bool) → (a || b || c) ≡ true → (a ≡ true) ⊎ ((b ≡ true) ⊎ (c ≡ true))
or_cases true b c e = inl refl
or_cases false true c e = inr (inl refl)
or_cases false false c e = inr (inr e)

or_neither : (a b : Bool) → (a || b) ≡ false → (a ≡ false) × (b ≡ false)
or_neither true b e = cc
or_neither false b e = (refl, e)

eqb_apart : (a b : ℕ) → (a == b) ≡ false → a ≡ b → ⊥
eqb_apart a b h e = true_false (eq-eqb a b e) h

-- what is known of the level of an operator before an expression
pub record Before (k : ℕ) : Type 0 where
  pub few : k ≤ 7
  pub single : groups (suc k) ≡ false
  pub apart : (found : Option Mark) → level_of found ≡ suc k → ⊥

before_at : (k m : ℕ) → m ≤ 8 → groups m ≡ false → ((found : Option Mark) → level_of found ≡ m → ⊥) → m ≡ suc k → Before k
before_at k m few single apart e = record { few = omega arith; single = sym (ap groups e) ∙ single; apart = λ found h. apart found (h ∙ sym e) }

pub before : (found : Option Mark) (k : ℕ) → prefix_level found ≡ suc k → Before k
before found k e = on (or_cases (prefix_level found == 0) (prefix_level found == 2) (prefix_level found == 6) (prefix_table found))
  where
    on : ((prefix_level found == 0) ≡ true) ⊎ (((prefix_level found == 2) ≡ true) ⊎ ((prefix_level found == 6) ≡ true)) → Before k
    on (inl h) = let z = eqb-true (prefix_level found) 0 h in absurd (omega arith)
    on (inr (inl h)) = before_at k 2 (omega arith) refl (λ f. eqb_apart (level_of f) 2 (or_neither (level_of f == 2) (level_of f == 6) (level_free f)).0) (sym (eqb-true (prefix_level found) 2 h) ∙ e)
    on (inr (inr h)) = before_at k 6 (omega arith) refl (λ f. eqb_apart (level_of f) 6 (or_neither (level_of f == 2) (level_of f == 6) (level_free f)).1) (sym (eqb-true (prefix_level found) 6 h) ∙ e)

-- after a name that goes no further
no_more : (found : Option Mark) → 0 < level_of found → (is_mark Dot found ≡ false) × (is_mark Open found ≡ false) × (is_mark Text found ≡ false)
no_more None h = (refl, refl, refl)
no_more (Some Open) h = absurd (omega arith)
no_more (Some Dot) h = absurd (omega arith)
no_more (Some Text) h = absurd (omega arith)
no_more (Some Or) h = (refl, refl, refl)
no_more _ h = (refl, refl, refl)

pub ends_name : (tokens : List Token) (i : ℕ) → 0 < level_of (mark_at tokens i) → (marked tokens Dot i ≡ false) × (marked tokens Open i ≡ false) × (marked tokens Text i ≡ false)
ends_name tokens i h = no_more (mark_at tokens i) h

-- the levels at which something goes on
level_table : (found : Option Mark) → (groups (level_of found) || (level_of found == 5) || ((level_of found == 0) || (level_of found == 10))) ≡ true
level_table None = refl
level_table (Some Or) = refl
level_table _ = refl

pub single_is_five : (found : Option Mark) (k : ℕ) → k ≤ 7 → level_of found ≡ suc k → groups (suc k) ≡ false → k ≡ 4
single_is_five found k few e single = on (or_cases (groups (level_of found)) (level_of found == 5) ((level_of found == 0) || (level_of found == 10)) (level_table found))
  where
    last : (a c : Bool) → (level_of found == 0) ≡ a → (level_of found == 10) ≡ c → (a || c) ≡ true → k ≡ 4
    last true c p q h = let z = eqb-true (level_of found) 0 p in absurd (omega arith)
    last false true p q h = let z = eqb-true (level_of found) 10 q in absurd (omega arith)
    last false false p q h = cc

    on : (groups (level_of found) ≡ true) ⊎ (((level_of found == 5) ≡ true) ⊎ (((level_of found == 0) || (level_of found == 10)) ≡ true)) → k ≡ 4
    on (inl h) = absurd (true_false (sym (ap groups e) ∙ h) single)
    on (inr (inl h)) = let z = eqb-true (level_of found) 5 h in omega arith
    on (inr (inr h)) = last (level_of found == 0) (level_of found == 10) refl refl h

-- no expression begins with a star or with the word distinct
abbrev pub may_begin : Option Mark → Bool
may_begin (Some Star) = false
may_begin (Some Distinct) = false
may_begin _ = true

pub begins_before : (found : Option Mark) (k : ℕ) → prefix_level found ≡ suc k → may_begin found ≡ true
begins_before None k e = cc
begins_before (Some Star) k e = cc
begins_before (Some Distinct) k e = cc
begins_before (Some Or) k e = refl
begins_before _ k e = refl

pub no_star : (found : Option Mark) → may_begin found ≡ true → (is_mark Star found ≡ false) × (is_mark Distinct found ≡ false)
no_star None e = (refl, refl)
no_star (Some Star) e = cc
no_star (Some Distinct) e = cc
no_star (Some Or) e = (refl, refl)
no_star _ e = (refl, refl)
