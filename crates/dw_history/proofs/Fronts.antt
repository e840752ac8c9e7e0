-- Fronts of a history, and the entries of one number.
use Rattle.std.proofs.Common.{◌≡◌, ◌≢◌, ℕ, suc, ◌+◌, ◌<◌, ◌≤◌, ◌==◌, Bool, true, false, cond, leb, List, [], ◌∷◌, ◌++◌, length, refl, sym, ap, ◌∙◌, subst, arith, eq-eqb, ne_eqb, leb-true, leb-false, append_assoc, append-nil, length-append}
use Rattle.std.proofs.lemmas.List.Elements.{filter-append}
use Rattle.dw_history.specs.Histories.{IsFront, longer, entries_of, AreOf}

abbrev tail_of : {E : Type 0} → E → List E → List E
tail_of d [] = []
tail_of d (x ∷ xs) = xs

abbrev head_of : {E : Type 0} → E → List E → E
head_of d [] = d
head_of d (x ∷ xs) = x

module _ {E : Type 0} where
  pub front_itself : (xs : List E) → IsFront xs xs
  front_itself xs = ([], sym (append-nil xs))

  pub front_empty : (xs : List E) → IsFront [] xs
  front_empty xs = (xs, refl)

  pub front_trans : (xs ys zs : List E) → IsFront xs ys → IsFront ys zs → IsFront xs zs
  front_trans xs ys zs one two = (one.0 ++ two.0, two.1 ∙ (ap (λ (l : List E). l ++ two.0) one.1 ∙ append_assoc xs one.0 two.0))

  pub front_more : (xs ys zs : List E) → IsFront xs ys → IsFront xs (ys ++ zs)
  front_more xs ys zs one = front_trans xs ys (ys ++ zs) one (zs, refl)

  pub front_length : (xs ys : List E) → IsFront xs ys → length xs ≤ length ys
  front_length xs ys one = let e : length ys ≡ length xs + length one.0 = ap length one.1 ∙ length-append xs one.0 in omega arith

  -- of two fronts of one history the shorter begins the longer
  pub front_of_both : (xs ys rest more : List E) → xs ++ rest ≡ ys ++ more → length xs ≤ length ys → IsFront xs ys
  front_of_both [] ys rest more e le = (ys, refl)
  front_of_both (x ∷ xs) [] rest more e le = absurd (omega arith)
  front_of_both (x ∷ xs) (y ∷ ys) rest more e le =
      let same : xs ++ rest ≡ ys ++ more = ap (tail_of x) e in
      let head : x ≡ y = ap (head_of x) e in
      let le' : length xs ≤ length ys = omega arith in
      let inner = front_of_both xs ys rest more same le' in
      (inner.0, λ i. sym head i ∷ inner.1 i)

  pub fronts_apart : (xs ys zs : List E) → IsFront xs zs → IsFront ys zs → length xs ≤ length ys → IsFront xs ys
  fronts_apart xs ys zs one two le = front_of_both xs ys one.0 two.0 (sym one.1 ∙ two.1) le

  -- a front that is as long is the whole
  pub front_whole : (xs ys : List E) → IsFront xs ys → length ys ≤ length xs → xs ≡ ys
  front_whole xs ys one le = same one.0 one.1
    where
      same : (rest : List E) → ys ≡ xs ++ rest → xs ≡ ys
      same [] e = sym (append-nil xs) ∙ sym e
      same (r ∷ rest) e = let n : length ys ≡ length xs + length (r ∷ rest) = ap length e ∙ length-append xs (r ∷ rest) in absurd (omega arith)

  pub record Longer (xs ys whole : List E) (both : List E) : Type 0 where
    pub one : IsFront xs both
    pub other : IsFront ys both
    pub in_whole : IsFront both whole
    pub whole_if_one : xs ≡ whole → both ≡ whole
    pub whole_if_other : ys ≡ whole → both ≡ whole

  longer_by : (xs ys whole : List E) → IsFront xs whole → IsFront ys whole → (b : Bool) → leb (length ys) (length xs) ≡ b → Longer xs ys whole (cond b xs ys)
  longer_by xs ys whole one other true is =
      let le : length ys ≤ length xs = leb-true (length ys) (length xs) is in record {
        one = front_itself xs;
        other = fronts_apart ys xs whole other one le;
        in_whole = one;
        whole_if_one = λ e. e;
        whole_if_other = λ e. front_whole xs whole one (subst (λ (l : List E). length l ≤ length xs) e le);
      }
  longer_by xs ys whole one other false is =
      let lt : length xs < length ys = leb-false (length ys) (length xs) is in
      let le : length xs ≤ length ys = omega arith in record {
        one = fronts_apart xs ys whole one other le;
        other = front_itself ys;
        in_whole = other;
        whole_if_one = λ e. front_whole ys whole other (subst (λ (l : List E). length l ≤ length ys) e le);
        whole_if_other = λ e. e;
      }

  pub longer_both : (xs ys whole : List E) → IsFront xs whole → IsFront ys whole → Longer xs ys whole (longer xs ys)
  longer_both xs ys whole one other = longer_by xs ys whole one other (leb (length ys) (length xs)) refl

module _ {E : Type 0} (number_of : E → ℕ) where
  pub entries_append : (number : ℕ) (xs ys : List E) → entries_of number_of number (xs ++ ys) ≡ entries_of number_of number xs ++ entries_of number_of number ys
  entries_append number xs ys = filter-append (λ e. number_of e == number) xs ys

  all_tail : (number : ℕ) (x : E) (xs : List E) → AreOf number_of number (x ∷ xs) → AreOf number_of number xs
  all_tail number x xs all k d lt = all (suc k) d (omega arith)

  -- entries of this number
  pub entries_own : (number : ℕ) (xs : List E) → AreOf number_of number xs → entries_of number_of number xs ≡ xs
  entries_own number [] all = refl
  entries_own number (x ∷ xs) all =
      let here : number_of x ≡ number = all 0 x (omega arith) in
      rw (eq-eqb (number_of x) number here) (ap (λ (l : List E). x ∷ l) (entries_own number xs (all_tail number x xs all)))

  pub entries_other : (number other : ℕ) (xs : List E) → AreOf number_of other xs → number ≢ other → entries_of number_of number xs ≡ []
  entries_other number other [] all apart = refl
  entries_other number other (x ∷ xs) all apart =
      let here : number_of x ≡ other = all 0 x (omega arith) in
      rw (ne_eqb (number_of x) number (λ e. apart (sym e ∙ here))) (entries_other number other xs (all_tail other x xs all) apart)

  pub entries_grown : (number : ℕ) (xs ys : List E) → AreOf number_of number ys → entries_of number_of number (xs ++ ys) ≡ entries_of number_of number xs ++ ys
  entries_grown number xs ys all = entries_append number xs ys ∙ ap (λ (l : List E). entries_of number_of number xs ++ l) (entries_own number ys all)

  pub entries_kept : (number other : ℕ) (xs ys : List E) → AreOf number_of other ys → number ≢ other → entries_of number_of number (xs ++ ys) ≡ entries_of number_of number xs
  entries_kept number other xs ys all apart =
      entries_append number xs ys ∙ (ap (λ (l : List E). entries_of number_of number xs ++ l) (entries_other number other ys all apart) ∙ append-nil (entries_of number_of number xs))
