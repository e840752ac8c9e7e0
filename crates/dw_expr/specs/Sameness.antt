-- Whether two values are the same: two values of a type are the same where the trees of numbers are, as which the logic
-- stores them one to one.
use Rattle.std.specs.Prelude.{◌≡◌, ◌↔◌, Bool, true, false, ◌&&◌, eqb, IsTrue}
use Rattle.std.proofs.Common.{refl, sym, ap, ◌∙◌}
use Rattle.std.proofs.lemmas.Bool.{true≢false, eqb-true, eq-eqb, and_parts, and_from}
use Rattle.std.specs.Bool.{one_answer}
use Rattle.std.specs.Coded.{Coded}
use Rattle.std.specs.Cmp.{IsEquivalence, both_ways}
use base.Stored.{Gv, gnil, gnum, gcons}

abbrev pub same_code : Gv → Gv → Bool
same_code gnil gnil = true
same_code (gnum m) (gnum n) = eqb m n
same_code (gcons a b) (gcons c d) = same_code a c && same_code b d
same_code _ _ = false

same_code-is : (a b : Gv) → same_code a b ≡ true → a ≡ b
same_code-is gnil gnil e = refl
same_code-is (gnum m) (gnum n) e = ap gnum (eqb-true m n e)
same_code-is (gcons a b) (gcons c d) e =
    let both : (same_code a c ≡ true) × (same_code b d ≡ true) = and_parts (same_code a c) (same_code b d) e in
    λ i. gcons (same_code-is a c both.0 i) (same_code-is b d both.1 i)
same_code-is _ _ e = absurd (true≢false (sym e))

same_code_itself : (a : Gv) → same_code a a ≡ true
same_code_itself gnil = refl
same_code_itself (gnum n) = eq-eqb n n refl
same_code_itself (gcons a b) =
    and_from (same_code a a) (same_code b b) (same_code_itself a) (same_code_itself b)

module _ {A : Type 0} (c : Coded A) where
  abbrev pub same_by : A → A → Bool
  same_by x y = same_code (c.code x) (c.code y)

  -- it tells just the same ones
  pub same_by-is : (x y : A) → IsTrue (same_by x y) ↔ (x ≡ y)
  same_by-is x y = (
    λ e. c.inj x y (same_code-is (c.code x) (c.code y) e),
    λ e. ap (λ z. same_code (c.code x) (c.code z)) (sym e) ∙ same_code_itself (c.code x),
  )

  pub same_by_equiv : IsEquivalence same_by
  same_by_equiv = record {
    refl = λ x. same_code_itself (c.code x);
    symm = λ x y. both_ways (same_by x y) (same_by y x)
        (λ e. (same_by-is y x).1 (sym ((same_by-is x y).0 e)))
        (λ e. (same_by-is x y).1 (sym ((same_by-is y x).0 e)));
    congr = λ x y z e. ap (λ w. same_by w z) ((same_by-is x y).0 e);
  }

  -- a test that tells just the same ones answers as it does
  pub same_by_from_iff : (x y : A) (r : Bool) → (IsTrue r ↔ (x ≡ y)) → r ≡ same_by x y
  same_by_from_iff x y r h = one_answer r (same_by x y) h (same_by-is x y)
