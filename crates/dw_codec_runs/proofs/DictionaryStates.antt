-- What may follow in a dictionary's spelling: items that are new, places that are known or the next new one, and
-- in the long form items of which more than 256 have to be different.
use Rattle.std.proofs.Common.{◌≡◌, ℕ, zero, suc, ◌+◌, ◌-◌, ◌≤◌, ◌<◌, ◌⊎◌, inl, inr, false, List, [], ◌∷◌, ◌++◌, length, refl, sym, ap, ◌∙◌, append_assoc, subst, arith, length-append}
use Rattle.std.specs.Prelude.{All, fold, replicate}
use Rattle.std.specs.List.{concat}
use Rattle.std.proofs.lemmas.Bool.{cases_Bool, cases_lt}
use Rattle.std.proofs.lemmas.List.{append_cancel_left, length-replicate, nil_from_length}
use Rattle.std.proofs.lemmas.List.Elements.{All-nil, All-cons, All-head, All-tail, All-append, All-replicate}
use Rattle.dw_codec_runs.specs.Dictionary.{is_known, met}
use Rattle.dw_codec_runs.proofs.DictionaryFronts.{BeginWith}
use Rattle.dw_codec_runs.specs.DictionaryParts.{AreNew, Grows, HasPlaces, HasItems, HasPlain, IsPlace, AreSame, Behind}
use Rattle.dw_codec_runs.proofs.DictionaryItems.{grows_to, met_known, met_new, more_met, new_met}

-- no item begins another or is empty, and there is one that fewer than 256 known ones lack
pub record AreItems (Is : List ℕ → Type 0) : Type 0 where
  pub apart : (t u x y : List ℕ) → Is t → Is u → t ++ x ≡ u ++ y → t ≡ u
  pub filled : (t : List ℕ) → Is t → 0 < length t
  pub fresh : (known : List (List ℕ)) → length known < 256 → (item : List ℕ) × Is item × (is_known known item ≡ false)

-- there is one that 256 known ones lack
pub record AreMany (Is : List ℕ → Type 0) : Type 0 where
  pub fresh : (known : List (List ℕ)) → length known ≤ 256 → (item : List ℕ) × Is item × (is_known known item ≡ false)

-- how places go on once some item is known
pub places_go : (n k r : ℕ) → 0 < k → k ≤ n → n ≤ k + r → (t : List ℕ) × HasPlaces n k r t
places_go n k zero some le le' = ([], record { grows = omega arith; long = refl })
places_go n k (suc r) some le le' = elim (cases_lt k n) [
  | inl lt ↦
      let go = places_go n (suc k) r (omega arith) (omega arith) (omega arith) in
      (k ∷ go.0, record { grows = inr (refl, go.1.grows); long = ap suc go.1.long })
  | inr done ↦
      let go = places_go n k r some le (omega arith) in
      (0 ∷ go.0, record { grows = inl (some, go.1.grows); long = ap suc go.1.long })
]

-- how they go on where none is
pub places_start : (n r : ℕ) → n ≤ r → ((r ≡ 0) ⊎ (0 < n)) → (t : List ℕ) × HasPlaces n 0 r t
places_start n zero le some = ([], record { grows = omega arith; long = refl })
places_start n (suc r) le (inl none) = absurd (omega arith)
places_start n (suc r) le (inr some) =
    let go = places_go n 1 r (omega arith) (omega arith) (omega arith) in
    (0 ∷ go.0, record { grows = inr (refl, go.1.grows); long = ap suc go.1.long })

pub places_begin : (n k r : ℕ) → k ≤ n → n ≤ k + suc r → BeginWith (IsPlace n k r) (HasPlaces n k (suc r))
places_begin n k r le le' = record {
  first = λ t has. places_first n k r t has.grows has.long;
  goes = λ item is. elim is.may [
    | inl known ↦
        let go = places_go n k r (omega arith) le known.1 in
        (go.0, subst (λ t. HasPlaces n k (suc r) (t ++ go.0)) (sym is.is) (record { grows = inl (known.0, go.1.grows); long = ap suc go.1.long }))
    | inr next ↦
        let go = places_go n (suc k) r (omega arith) (omega arith) (omega arith) in
        (go.0, subst (λ t. HasPlaces n k (suc r) (t ++ go.0)) (sym is.is) (record { grows = inr (next.0, go.1.grows); long = ap suc go.1.long }))
  ];
} where
  places_first : (n k r : ℕ) (t : List ℕ) → Grows n k t → length t ≡ suc r → (item : List ℕ) × IsPlace n k r item × (rest : List ℕ) × (t ≡ item ++ rest)
  places_first n k r [] grows long = absurd (omega arith)
  places_first n k r (place ∷ rest) (inl known) long =
      let to = grows_to n k rest known.1 in
      (place ∷ [], record { place = place; may = inl (known.0, omega (arith, to.1)); is = refl }, rest, refl)
  places_first n k r (place ∷ rest) (inr next) long =
      let to = grows_to n (suc k) rest next.1 in
      (place ∷ [], record { place = place; may = inr (next.0, omega (arith, to.0)); is = refl }, rest, refl)

pub place_again : (n k r place : ℕ) → place < k → AreSame (Behind (HasPlaces n k (suc r)) (place ∷ [])) (HasPlaces n k r)
place_again n k r place lt = record {
  to = λ t has. record {
    grows = elim has.grows [ inl known ↦ known.1 | inr next ↦ absurd (let e : place ≡ k = next.0 in omega arith) ];
    long = let e : suc (length t) ≡ suc r = has.long in omega arith;
  };
  from = λ t has. record { grows = inl (lt, has.grows); long = ap suc has.long };
}

pub place_next : (n k r place : ℕ) → place ≡ k → AreSame (Behind (HasPlaces n k (suc r)) (place ∷ [])) (HasPlaces n (suc k) r)
place_next n k r place is = record {
  to = λ t has. record {
    grows = elim has.grows [ inl known ↦ absurd (let lt : place < k = known.0 in omega arith) | inr next ↦ next.1 ];
    long = let e : suc (length t) ≡ suc r = has.long in omega arith;
  };
  from = λ t has. record { grows = inr (is, has.grows); long = ap suc has.long };
}

module _ (Is : List ℕ → Type 0) (are : AreItems Is) where
  -- as many new items as are wanted
  pub filled_up : (known : List (List ℕ)) (m : ℕ) → length known + m ≤ 256 → (more : List (List ℕ)) × AreNew known more × All Is more × (length more ≡ m)
  filled_up known zero le = ([], tt, All-nil Is, refl)
  filled_up known (suc m) le =
      let f = are.fresh known (omega arith) in
      let r = filled_up (known ++ f.0 ∷ []) m (omega (arith, length-append known (f.0 ∷ []))) in
      (f.0 ∷ r.0, (f.2, r.1), All-cons Is f.0 r.0 f.1 r.2, ap suc r.3)

  items_first : (n count : ℕ) (known more : List (List ℕ)) (places t : List ℕ) → length known < n → length known + length more ≡ n → AreNew known more → All Is more → t ≡ concat more ++ places
      → (item : List ℕ) × (Is item × (is_known known item ≡ false)) × (rest : List ℕ) × (t ≡ item ++ rest)
  items_first n count known [] places t lt counted new each spells = absurd (omega arith)
  items_first n count known (item ∷ more) places t lt counted new each spells =
      (item, (All-head Is item more each, new.0), concat more ++ places, spells ∙ append_assoc item (concat more) places)

  pub items_begin : (n count : ℕ) (known : List (List ℕ)) → n ≤ 256 → n ≤ count → length known < n → BeginWith (λ item. Is item × (is_known known item ≡ false)) (HasItems Is n count known)
  items_begin n count known le le' lt = record {
    first = λ t has. items_first n count known has.more has.places t lt has.counted has.new has.each has.spells;
    goes = λ item is.
        let long : length (known ++ item ∷ []) ≡ length known + 1 = length-append known (item ∷ []) in
        let m : ℕ = n - length (known ++ item ∷ []) in
        let f = filled_up (known ++ item ∷ []) m (omega arith) in
        let p = places_start n count le' (inr (omega arith)) in (
          concat f.0 ++ p.0,
          record {
            more = item ∷ f.0;
            places = p.0;
            counted = let e : length f.0 ≡ m = f.3 in omega arith;
            new = (is.1, f.1);
            each = All-cons Is item f.0 is.0 f.2;
            grows = p.1.grows;
            long = p.1.long;
            spells = sym (append_assoc item (concat f.0) p.0);
          },
        );
  }

  items_next_to : (n count : ℕ) (known : List (List ℕ)) (item : List ℕ) → length known < n → Is item → (more : List (List ℕ)) (places t : List ℕ) → length known + length more ≡ n → AreNew known more → All Is more
      → Grows n 0 places → length places ≡ count → item ++ t ≡ concat more ++ places → HasItems Is n count (known ++ item ∷ []) t
  items_next_to n count known item lt is [] places t counted new each grows long spells = absurd (omega arith)
  items_next_to n count known item lt is (other ∷ more) places t counted new each grows long spells =
      let regrouped : item ++ t ≡ other ++ (concat more ++ places) = spells ∙ append_assoc other (concat more) places in
      let one : item ≡ other = are.apart item other t (concat more ++ places) is (All-head Is other more each) regrouped in
      let turned : item ++ t ≡ item ++ (concat more ++ places) = regrouped ∙ ap (λ (u : List ℕ). u ++ (concat more ++ places)) (sym one) in
      record {
        more = more;
        places = places;
        counted = omega (arith, length-append known (item ∷ []));
        new = subst (λ u. AreNew (known ++ u ∷ []) more) (sym one) new.1;
        each = All-tail Is other more each;
        grows = grows;
        long = long;
        spells = append_cancel_left item t (concat more ++ places) turned;
      }

  pub items_next : (n count : ℕ) (known : List (List ℕ)) (item : List ℕ) → length known < n → Is item → is_known known item ≡ false
      → AreSame (Behind (HasItems Is n count known) item) (HasItems Is n count (known ++ item ∷ []))
  items_next n count known item lt is out = record {
    to = λ t has. items_next_to n count known item lt is has.more has.places t has.counted has.new has.each has.grows has.long has.spells;
    from = λ t has. record {
      more = item ∷ has.more;
      places = has.places;
      counted = let e : length (known ++ item ∷ []) + length has.more ≡ n = has.counted in omega (arith, e, length-append known (item ∷ []));
      new = (out, has.new);
      each = All-cons Is item has.more is has.each;
      grows = has.grows;
      long = has.long;
      spells = ap (λ (u : List ℕ). item ++ u) has.spells ∙ sym (append_assoc item (concat has.more) has.places);
    };
  }

  pub items_done : (n count : ℕ) (known : List (List ℕ)) → length known ≡ n → AreSame (HasItems Is n count known) (HasPlaces n 0 count)
  items_done n count known is = record {
    to = λ t has.
        let none : length has.more ≡ 0 = let e : length known + length has.more ≡ n = has.counted in omega arith in
        let e : t ≡ has.places = has.spells ∙ ap (λ more. concat more ++ has.places) (nil_from_length has.more none) in
        subst (λ u. HasPlaces n 0 count u) (sym e) (record { grows = has.grows; long = has.long });
    from = λ t has. record { more = []; places = t; counted = omega arith; new = tt; each = All-nil Is; grows = has.grows; long = has.long; spells = refl };
  }

  plain_next_to : (known : List (List ℕ)) (r : ℕ) (item : List ℕ) → Is item → (items : List (List ℕ)) (t : List ℕ) → All Is items → length items ≡ suc r → 256 < length (fold met known items)
      → item ++ t ≡ concat items → HasPlain Is (met known item) r t
  plain_next_to known r item is [] t each counted many spells = absurd (omega arith)
  plain_next_to known r item is (other ∷ items) t each counted many spells =
      let one : item ≡ other = are.apart item other t (concat items) is (All-head Is other items each) spells in
      record {
        items = items;
        each = All-tail Is other items each;
        counted = omega arith;
        many = subst (λ u. 256 < length (fold met (met known u) items)) (sym one) many;
        spells = append_cancel_left item t (concat items) (spells ∙ ap (λ (u : List ℕ). u ++ concat items) (sym one));
      }

  pub plain_next : (known : List (List ℕ)) (r : ℕ) (item : List ℕ) → Is item → AreSame (Behind (HasPlain Is known (suc r)) item) (HasPlain Is (met known item) r)
  plain_next known r item is = record {
    to = λ t has. plain_next_to known r item is has.items t has.each has.counted has.many has.spells;
    from = λ t has. record {
      items = item ∷ has.items;
      each = All-cons Is item has.items is has.each;
      counted = ap suc has.counted;
      many = has.many;
      spells = ap (λ (u : List ℕ). item ++ u) has.spells;
    };
  }

-- what is met is no more than what was known and came
pub met_most : (known items : List (List ℕ)) → length (fold met known items) ≤ length known + length items
met_most known [] = omega arith
met_most known (item ∷ items) =
    let rest : length (fold met (met known item) items) ≤ length (met known item) + length items = met_most (met known item) items in
    elim (cases_Bool (is_known known item)) [
      | inl here ↦ omega (arith, rest, ap length (met_known known item here))
      | inr out ↦ omega (arith, rest, ap length (met_new known item out), length-append known (item ∷ []))
    ]

pub met_least : (known items : List (List ℕ)) → length known ≤ length (fold met known items)
met_least known items = let r = more_met known items in omega (arith, ap length r.whole, length-append known r.more)

fold-append : (known items others : List (List ℕ)) → fold met known (items ++ others) ≡ fold met (fold met known items) others
fold-append known [] others = refl
fold-append known (item ∷ items) others = fold-append (met known item) items others

module _ (Is : List ℕ → Type 0) (are : AreItems Is) (many : AreMany Is) where
  -- new items until more than 256 are known
  filled_past : (known : List (List ℕ)) (m : ℕ) → length known + m ≤ 257 → (more : List (List ℕ)) × AreNew known more × All Is more × (length more ≡ m)
  filled_past known zero le = ([], tt, All-nil Is, refl)
  filled_past known (suc m) le =
      let f = many.fresh known (omega arith) in
      let r = filled_past (known ++ f.0 ∷ []) m (omega (arith, length-append known (f.0 ∷ []))) in
      (f.0 ∷ r.0, (f.2, r.1), All-cons Is f.0 r.0 f.1 r.2, ap suc r.3)

  pub plain_goes : (known : List (List ℕ)) (r : ℕ) → 256 < length known + r → (t : List ℕ) × HasPlain Is known r t
  plain_goes known r enough =
      let m : ℕ = 257 - length known in
      let any = are.fresh [] (omega arith) in
      elim (cases_lt 256 (length known)) [
        | inl past ↦
            let items : List (List ℕ) = replicate r any.0 in (
              concat items,
              record {
                items = items;
                each = All-replicate Is r any.0 any.1;
                counted = length-replicate r any.0;
                many = omega (arith, past, met_least known items);
                spells = refl;
              },
            )
        | inr le ↦
            let f = filled_past known m (omega arith) in
            let others : List (List ℕ) = replicate (r - m) any.0 in
            let items : List (List ℕ) = f.0 ++ others in
            let all : length (fold met known f.0) ≡ length known + length f.0 = ap length (new_met known f.0 f.1) ∙ length-append known f.0 in
            let long : length f.0 ≡ m = f.3 in (
              concat items,
              record {
                items = items;
                each = All-append Is f.0 others f.2 (All-replicate Is (r - m) any.0 any.1);
                counted = omega (arith, long, length-append f.0 others, length-replicate {A = List ℕ} (r - m) any.0);
                many = omega (arith, long, all, met_least (fold met known f.0) others, ap length (fold-append known f.0 others));
                spells = refl;
              },
            )
      ]

  plain_first : (known : List (List ℕ)) (r : ℕ) (items : List (List ℕ)) (t : List ℕ) → All Is items → length items ≡ suc r → 256 < length (fold met known items) → t ≡ concat items
      → (item : List ℕ) × (Is item × (256 < length (met known item) + r)) × (rest : List ℕ) × (t ≡ item ++ rest)
  plain_first known r [] t each counted many spells = absurd (omega arith)
  plain_first known r (item ∷ items) t each counted many spells =
      (item, (All-head Is item items each, omega (arith, many, met_most (met known item) items)), concat items, spells)

  pub plain_begin : (known : List (List ℕ)) (r : ℕ) → BeginWith (λ item. Is item × (256 < length (met known item) + r)) (HasPlain Is known (suc r))
  plain_begin known r = record {
    first = λ t has. plain_first known r has.items t has.each has.counted has.many has.spells;
    goes = λ item is.
        let go = plain_goes (met known item) r is.1 in
        (go.0, (plain_next Is are known r item is.0).from go.0 go.1);
  }
