-- The different items of a list, and the places of its items among them.
use Rattle.std.proofs.Common.{◌≡◌, ℕ, zero, suc, ◌+◌, ◌≤◌, ◌<◌, inl, inr, true, false, List, [], ◌∷◌, ◌++◌, length, map, get_or, refl, sym, ap, ◌∙◌, append_assoc, arith, length-append, subst}
use Rattle.std.specs.Prelude.{fold}
use Rattle.std.specs.Str.{bytes_eq}
use Rattle.std.proofs.lemmas.Bool.{cases_Bool, false≢true}
use Rattle.std.proofs.lemmas.List.{append-nil, get_or_append_left, get_or_at}
use Rattle.std.proofs.lemmas.List.Folds.{list_any-append, list_any_at}
use Rattle.std.proofs.lemmas.Slice.Eq.{bytes_eq-Decides}
use Rattle.dw_codec_runs.specs.Dictionary.{is_known, met, place_among}
use Rattle.dw_codec_runs.specs.DictionaryParts.{AreNew, Grows, items_at}

pub same_item : (a b : List ℕ) → bytes_eq a b ≡ true → a ≡ b
same_item a b e = (bytes_eq-Decides a b).0 e

pub item_itself : (a : List ℕ) → bytes_eq a a ≡ true
item_itself a = (bytes_eq-Decides a a).1 refl

pub known_last : (known : List (List ℕ)) (item : List ℕ) → is_known (known ++ item ∷ []) item ≡ true
known_last [] item = let e : bytes_eq item item ≡ true = item_itself item in rw e refl
known_last (k ∷ known) item = let e : is_known (known ++ item ∷ []) item ≡ true = known_last known item in elim (cases_Bool (bytes_eq item k)) [
  | inl in_it ↦ rw in_it refl
  | inr out ↦ rw out e
]

pub known_more : (known more : List (List ℕ)) (item : List ℕ) → is_known known item ≡ true → is_known (known ++ more) item ≡ true
known_more known more item in_it = list_any-append (bytes_eq item) known more ∙ rw in_it refl

pub met_known : (known : List (List ℕ)) (item : List ℕ) → is_known known item ≡ true → met known item ≡ known
met_known known item in_it = rw in_it refl

pub met_new : (known : List (List ℕ)) (item : List ℕ) → is_known known item ≡ false → met known item ≡ known ++ item ∷ []
met_new known item out = rw out refl

pub place_known : (known more : List (List ℕ)) (item : List ℕ) → is_known known item ≡ true
    → (place_among (known ++ more) item < length known)
place_known [] more item in_it = absurd (false≢true in_it)
place_known (k ∷ known) more item in_it = elim (cases_Bool (bytes_eq item k)) [
  | inl same ↦ rw same (omega arith)
  | inr out ↦
      let rest : is_known known item ≡ true = rw out at in_it in
      let before : place_among (known ++ more) item < length known = place_known known more item rest in
      rw out (omega arith)
]

pub place_new : (known more : List (List ℕ)) (item : List ℕ) → is_known known item ≡ false → place_among (known ++ item ∷ more) item ≡ length known
place_new [] more item out = let e : bytes_eq item item ≡ true = item_itself item in rw e refl
place_new (k ∷ known) more item out = elim (cases_Bool (bytes_eq item k)) [
  | inl same ↦ absurd (false≢true (sym (rw same at out)))
  | inr other ↦
      let rest : is_known known item ≡ false = rw other at out in
      let before : place_among (known ++ item ∷ more) item ≡ length known = place_new known more item rest in
      rw other (omega arith)
]

-- what is known stays known, and only what is new comes behind it
pub record IsMore (known : List (List ℕ)) (items : List (List ℕ)) : Type 0 where
  pub more : List (List ℕ)
  pub whole : fold met known items ≡ known ++ more
  pub new : AreNew known more

pub more_met : (known items : List (List ℕ)) → IsMore known items
more_met known [] = record { more = []; whole = sym (append-nil known); new = tt }
more_met known (item ∷ items) = elim (cases_Bool (is_known known item)) [
  | inl here ↦
      let r = more_met known items in
      record { more = r.more; whole = ap (λ k. fold met k items) (met_known known item here) ∙ r.whole; new = r.new }
  | inr out ↦
      let r = more_met (known ++ item ∷ []) items in
      record {
        more = item ∷ r.more;
        whole = ap (λ k. fold met k items) (met_new known item out) ∙ (r.whole ∙ append_assoc known (item ∷ []) r.more);
        new = (out, r.new);
      }
]

-- the places of items among those that are different
pub grows_met : (known items : List (List ℕ)) → Grows (length (fold met known items)) (length known) (map (place_among (fold met known items)) items)
grows_met known [] = refl
grows_met known (item ∷ items) = elim (cases_Bool (is_known known item)) [
  | inl here ↦
      let e : met known item ≡ known = met_known known item here in
      let r = more_met known items in
      let all : List (List ℕ) = fold met known items in
      let place : place_among all item < length known =
      rw r.whole (place_known known r.more item here) in
      let rest : Grows (length all) (length known) (map (place_among all) items) = grows_met known items in
      subst (λ k. Grows (length (fold met k items)) (length known) (map (place_among (fold met k items)) (item ∷ items))) (sym e) (inl (place, rest))
  | inr out ↦
      let e : met known item ≡ known ++ item ∷ [] = met_new known item out in
      let r = more_met (known ++ item ∷ []) items in
      let all : List (List ℕ) = fold met (known ++ item ∷ []) items in
      let whole : all ≡ known ++ item ∷ r.more = r.whole ∙ append_assoc known (item ∷ []) r.more in
      let place : place_among all item ≡ length known = rw whole (place_new known r.more item out) in
      let long : length (known ++ item ∷ []) ≡ suc (length known) = omega (arith, length-append known (item ∷ [])) in
      let rest : Grows (length all) (suc (length known)) (map (place_among all) items) =
      subst (λ k. Grows (length all) k (map (place_among all) items)) long (grows_met (known ++ item ∷ []) items) in
      subst (λ k. Grows (length (fold met k items)) (length known) (map (place_among (fold met k items)) (item ∷ items))) (sym e) (inr (place, rest))
]

-- items that are new are met as they stand
pub new_met : (known more : List (List ℕ)) → AreNew known more → fold met known more ≡ known ++ more
new_met known [] new = sym (append-nil known)
new_met known (item ∷ items) new =
    ap (λ k. fold met k items) (met_new known item new.0) ∙ (new_met (known ++ item ∷ []) items new.1 ∙ append_assoc known (item ∷ []) items)

-- no known item is among new ones
pub known_apart : (known more : List (List ℕ)) (item : List ℕ) → AreNew known more → is_known known item ≡ true → is_known more item ≡ false
known_apart known [] item new here = refl
known_apart known (other ∷ more) item new here = elim (cases_Bool (bytes_eq item other)) [
  | inl same ↦
      let e : item ≡ other = same_item item other same in
      absurd (false≢true (sym new.0 ∙ (ap (is_known known) (sym e) ∙ here)))
  | inr out ↦
      let rest : is_known more item ≡ false = known_apart (known ++ other ∷ []) more item new.1 (known_more known (other ∷ []) item here) in
      rw out rest
]

-- the item at a place of items that are different has that place
pub place_got : (known more : List (List ℕ)) (place : ℕ) → AreNew known more → place < length more → place_among more (get_or more place []) ≡ place
place_got known [] place new lt = absurd (omega arith)
place_got known (item ∷ more) zero new lt = let e : bytes_eq item item ≡ true = item_itself item in rw e refl
place_got known (item ∷ more) (suc place) new lt =
    let lt' : place < length more = omega arith in
    let got : List ℕ = get_or more place [] in
    let here : is_known more got ≡ true = list_any_at (bytes_eq got) more place [] lt' (item_itself got) in
    let rest : place_among more got ≡ place = place_got (known ++ item ∷ []) more place new.1 lt' in
    elim (cases_Bool (bytes_eq got item)) [
      | inl same ↦
          let e : got ≡ item = same_item got item same in
          let known_too : is_known (known ++ item ∷ []) got ≡ true = ap (is_known (known ++ item ∷ [])) e ∙ known_last known item in
          absurd (false≢true (sym (known_apart (known ++ item ∷ []) more got new.1 known_too) ∙ here))
      | inr out ↦ rw out (omega arith)
    ]

pub new_append : (known more others : List (List ℕ)) → AreNew known more → AreNew (known ++ more) others → AreNew known (more ++ others)
new_append known [] others new new' = subst (λ k. AreNew k others) (append-nil known) new'
new_append known (item ∷ more) others new new' =
    (new.0, new_append (known ++ item ∷ []) more others new.1 (subst (λ k. AreNew k others) (sym (append_assoc known (item ∷ []) more)) new'))

pub new_split : (known more others : List (List ℕ)) → AreNew known (more ++ others) → AreNew known more × AreNew (known ++ more) others
new_split known [] others new = (tt, subst (λ k. AreNew k others) (sym (append-nil known)) new)
new_split known (item ∷ more) others new =
    let r = new_split (known ++ item ∷ []) more others new.1 in
    ((new.0, r.0), subst (λ k. AreNew k others) (append_assoc known (item ∷ []) more) r.1)

pub grows_to : (n k : ℕ) (places : List ℕ) → Grows n k places → (k ≤ n) × (n ≤ k + length places)
grows_to n k [] grows = (omega arith, omega arith)
grows_to n k (place ∷ places) (inl (lt, grows)) = let r = grows_to n k places grows in (r.0, omega (arith, r.1))
grows_to n k (place ∷ places) (inr (is, grows)) = let r = grows_to n (suc k) places grows in (omega (arith, r.0), omega (arith, r.1))

pub record AreAt (known more : List (List ℕ)) (places : List ℕ) : Type 0 where
  pub different : fold met known (items_at (known ++ more) places) ≡ known ++ more
  pub placed : map (place_among (known ++ more)) (items_at (known ++ more) places) ≡ places

place_of : (known more : List (List ℕ)) (place : ℕ) → AreNew [] (known ++ more) → place < length (known ++ more) → place_among (known ++ more) (get_or (known ++ more) place []) ≡ place
place_of known more place new lt = place_got [] (known ++ more) place new lt

pub met_at : (known more : List (List ℕ)) (places : List ℕ) → AreNew [] (known ++ more) → Grows (length (known ++ more)) (length known) places → AreAt known more places
met_at known [] [] new grows = record { different = sym (append-nil known); placed = refl }
met_at known (item ∷ more) [] new grows = absurd (omega (arith, length-append known (item ∷ more)))
met_at known more (place ∷ places) new (inl (lt, grows)) =
    let all : List (List ℕ) = known ++ more in
    let got : List ℕ = get_or all place [] in
    let own : got ≡ get_or known place [] = get_or_append_left known more [] place lt in
    let here : is_known known got ≡ true = ap (is_known known) own ∙ list_any_at (bytes_eq (get_or known place [])) known place [] lt (item_itself (get_or known place [])) in
    let rest : AreAt known more places = met_at known more places new grows in
    let at : place_among all got ≡ place = place_of known more place new (omega (arith, length-append known more)) in
    record {
      different = ap (λ k. fold met k (items_at all places)) (met_known known got here) ∙ rest.different;
      placed = cc (at, rest.placed);
    }
met_at known [] (place ∷ places) new (inr (is, grows)) =
    absurd (let r = grows_to (length (known ++ [])) (suc (length known)) places grows in omega (arith, r.0, length-append known []))
met_at known (item ∷ more) (place ∷ places) new (inr (is, grows)) =
    let all : List (List ℕ) = known ++ item ∷ more in
    let known' : List (List ℕ) = known ++ item ∷ [] in
    let whole : known' ++ more ≡ all = append_assoc known (item ∷ []) more in
    let got : get_or all place [] ≡ item = get_or_at known item more [] place (sym is) in
    let out : is_known known item ≡ false = (new_split [] known (item ∷ more) new).1.0 in
    let long : length known' ≡ suc (length known) = omega (arith, length-append known (item ∷ [])) in
    let rest : AreAt known' more places =
    met_at known' more places (subst (λ k. AreNew [] k) (sym whole) new) (subst (λ k. Grows (length k) (length known') places) (sym whole) (subst (λ k. Grows (length all) k places) (sym long) grows)) in
    let rest_different : fold met known' (items_at all places) ≡ all = subst (λ k. fold met known' (items_at k places) ≡ k) whole rest.different in
    let rest_places : map (place_among all) (items_at all places) ≡ places = subst (λ k. map (place_among k) (items_at k places) ≡ places) whole rest.placed in
    let at : place_among all (get_or all place []) ≡ place = place_of known (item ∷ more) place new (omega (arith, length-append known (item ∷ more))) in
    record {
      different = ap (λ k. fold met k (items_at all places)) (ap (met known) got ∙ met_new known item out) ∙ rest_different;
      placed = cc (at, rest_places);
    }

pub place_out : (known : List (List ℕ)) (item : List ℕ) → is_known known item ≡ false → place_among known item ≡ length known
place_out [] item out = refl
place_out (k ∷ known) item out = elim (cases_Bool (bytes_eq item k)) [
  | inl same ↦ absurd (false≢true (sym (rw same at out)))
  | inr other ↦
      let rest : is_known known item ≡ false = rw other at out in
      let before : place_among known item ≡ length known = place_out known item rest in
      rw other (omega arith)
]

-- a known item keeps its place
pub place_kept : (known more : List (List ℕ)) (item : List ℕ) → is_known known item ≡ true → place_among (known ++ more) item ≡ place_among known item
place_kept [] more item here = absurd (false≢true here)
place_kept (k ∷ known) more item here = elim (cases_Bool (bytes_eq item k)) [
  | inl same ↦ rw same refl
  | inr out ↦
      let rest : is_known known item ≡ true = rw out at here in
      let before : place_among (known ++ more) item ≡ place_among known item = place_kept known more item rest in
      rw out (omega arith)
]

pub met_knows : (known : List (List ℕ)) (item : List ℕ) → is_known (met known item) item ≡ true
met_knows known item = elim (cases_Bool (is_known known item)) [
  | inl here ↦ ap (λ k. is_known k item) (met_known known item here) ∙ here
  | inr out ↦ ap (λ k. is_known k item) (met_new known item out) ∙ known_last known item
]

pub place_met : (known : List (List ℕ)) (item : List ℕ) → place_among (met known item) item ≡ place_among known item
place_met known item = elim (cases_Bool (is_known known item)) [
  | inl here ↦ ap (λ k. place_among k item) (met_known known item here)
  | inr out ↦ ap (λ k. place_among k item) (met_new known item out) ∙ (place_new known [] item out ∙ sym (place_out known item out))
]

pub place_within : (known : List (List ℕ)) (item : List ℕ) → place_among (met known item) item < length (met known item)
place_within known item =
    let all : List (List ℕ) = met known item in
    let e : all ++ [] ≡ all = append-nil all in
    subst (λ k. place_among k item < length all) e (place_known all [] item (met_knows known item))
