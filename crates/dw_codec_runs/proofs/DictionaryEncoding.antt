-- What an encoder's loop has read and met, and how values stand for items.
use Rattle.std.proofs.Common.{◌≡◌, ℕ, suc, ◌+◌, ◌≤◌, ◌<◌, inl, inr, true, Option, Some, None, List, [], ◌∷◌, ◌++◌, length, map, take, drop, get_or, refl, sym, ap, ◌∙◌, append_assoc, subst, arith, length-append}
use Rattle.std.specs.Prelude.{All, fold}
use Rattle.std.specs.List.{concat}
use Rattle.std.specs.Str.{bytes_eq}
use Rattle.std.proofs.lemmas.Bool.{cases_Bool, cases_lt, false≢true}
use Rattle.std.proofs.lemmas.List.{append_cancel_left, take_all, take_more, drop_more, map_push, length-map, take-append-drop}
use Rattle.std.proofs.lemmas.List.Elements.{All-nil, All-cons, All-head, All-tail, All-push, All-get_or}
use Rattle.dw_codec_plain.specs.Numbers.{low_bytes}
use Rattle.dw_codec_plain.specs.Spelling.{spelled, IsListOf, IsSpelling, IsDamagedAt}
use Rattle.dw_codec_plain.proofs.FormFronts.{same_texts}
use Rattle.dw_codec_runs.specs.Dictionary.{is_known, met, different, place_among, dictionary}
use Rattle.dw_codec_runs.specs.DictionaryParts.{IsItemOf, IsShape, BeginsWith, IsUnpacked, items_at}
use Rattle.dw_codec_runs.specs.declared.dictionary_item.Shape.{Shape}
use Rattle.dw_codec_runs.proofs.DictionaryItems.{same_item, met_known, met_new, met_knows, known_more, place_kept}
use Rattle.dw_codec_runs.proofs.DictionaryStates.{AreItems, met_least}
use Rattle.dw_codec_runs.proofs.DictionaryHead.{dictionary_short, dictionary_long, all_met, same_number, no_long}
use Rattle.dw_codec_runs.proofs.DictionaryReady.{are_items}

fold_push : (known items : List (List ℕ)) (item : List ℕ) → fold met known (items ++ item ∷ []) ≡ met (fold met known items) item
fold_push known [] item = refl
fold_push known (other ∷ items) item = fold_push (met known other) items item

fold-append : (known items others : List (List ℕ)) → fold met known (items ++ others) ≡ fold met (fold met known items) others
fold-append known [] others = refl
fold-append known (item ∷ items) others = fold-append (met known item) items others

-- what is known stays known, at its place
known_met : (known : List (List ℕ)) (item x : List ℕ) → is_known known x ≡ true → is_known (met known item) x ≡ true
known_met known item x here = elim (cases_Bool (is_known known item)) [
  | inl old ↦ ap (λ k. is_known k x) (met_known known item old) ∙ here
  | inr out ↦ ap (λ k. is_known k x) (met_new known item out) ∙ known_more known (item ∷ []) x here
]

place_met_kept : (known : List (List ℕ)) (item x : List ℕ) → is_known known x ≡ true → place_among (met known item) x ≡ place_among known x
place_met_kept known item x here = elim (cases_Bool (is_known known item)) [
  | inl old ↦ ap (λ k. place_among k x) (met_known known item old)
  | inr out ↦ ap (λ k. place_among k x) (met_new known item out) ∙ place_kept known (item ∷ []) x here
]

places_met : (known : List (List ℕ)) (item : List ℕ) (xs : List (List ℕ)) → All (λ x. is_known known x ≡ true) xs → map (place_among (met known item)) xs ≡ map (place_among known) xs
places_met known item [] each = refl
places_met known item (x ∷ xs) each =
    let one : place_among (met known item) x ≡ place_among known x = place_met_kept known item x (All-head (λ x. is_known known x ≡ true) x xs each) in
    let rest : map (place_among (met known item)) xs ≡ map (place_among known) xs = places_met known item xs (All-tail (λ x. is_known known x ≡ true) x xs each) in
    cc (one, rest)

all_known_met : (known : List (List ℕ)) (item : List ℕ) (xs : List (List ℕ)) → All (λ x. is_known known x ≡ true) xs → All (λ x. is_known (met known item) x ≡ true) xs
all_known_met known item [] each = All-nil (λ x. is_known (met known item) x ≡ true)
all_known_met known item (x ∷ xs) each =
    All-cons (λ x. is_known (met known item) x ≡ true) x xs (known_met known item x (All-head (λ x. is_known known x ≡ true) x xs each))
    (all_known_met known item xs (All-tail (λ x. is_known known x ≡ true) x xs each))

-- the first n of the items are met
pub record IsEncoding (shape : Shape) (count : ℕ) (plain : List ℕ) (known : List (List ℕ)) (places rest : List ℕ) (n : ℕ) : Type 0 where
  pub items : List (List ℕ)
  pub are : IsListOf (IsItemOf shape) count items
  pub plain_is : plain ≡ concat items
  pub known_is : known ≡ different (take n items)
  pub places_is : places ≡ map (place_among known) (take n items)
  pub here : All (λ x. is_known known x ≡ true) (take n items)
  pub rest_is : rest ≡ concat (drop n items)

pub encoding_begins : (shape : Shape) (count : ℕ) (plain : List ℕ) → IsSpelling concat (IsItemOf shape) count plain → IsEncoding shape count plain [] [] plain 0
encoding_begins shape count plain s = record {
  items = s.values;
  are = s.are;
  plain_is = s.spells;
  known_is = refl;
  places_is = refl;
  here = All-nil (λ x. is_known [] x ≡ true);
  rest_is = s.spells;
}

module _ (shape : Shape) (is : IsShape shape) (count : ℕ) (plain : List ℕ) (known : List (List ℕ)) (places rest : List ℕ) (n : ℕ) (at : IsEncoding shape count plain known places rest n) where
  module _ (lt : n < count) where
    within : n < length at.items
    within = let e : length at.items ≡ count = at.are.counted in omega arith

    next : List ℕ
    next = get_or at.items n []

    next_is : IsItemOf shape next
    unfolding next
    next_is = All-get_or (IsItemOf shape) at.items n [] within at.are.each

    left : rest ≡ next ++ concat (drop (n + 1) at.items)
    unfolding next
    left = at.rest_is ∙ ap concat (drop_more at.items n [] within)

    pub begins_there : BeginsWith (IsItemOf shape) rest
    begins_there = record { item = next; is = next_is; rest = concat (drop (n + 1) at.items); begins = left }

    module _ (len : ℕ) (item_is : IsItemOf shape (take len rest)) where
      item_same : take len rest ≡ next
      item_same = let items = are_items shape is in items.apart (take len rest) next (drop len rest) (concat (drop (n + 1) at.items)) item_is next_is (take-append-drop len rest ∙ left)

      after_is : drop len rest ≡ concat (drop (n + 1) at.items)
      after_is =
          append_cancel_left (take len rest) (drop len rest) (concat (drop (n + 1) at.items))
          (take-append-drop len rest ∙ (left ∙ ap (λ (t : List ℕ). t ++ concat (drop (n + 1) at.items)) (sym item_same)))

      taken : take (n + 1) at.items ≡ take n at.items ++ take len rest ∷ []
      unfolding next
      taken = take_more at.items n [] within ∙ ap (λ (t : List ℕ). take n at.items ++ t ∷ []) (sym item_same)

      met_now : met known (take len rest) ≡ different (take (n + 1) at.items)
      met_now = ap (λ k. met k (take len rest)) at.known_is ∙ (sym (fold_push [] (take n at.items) (take len rest)) ∙ ap different (sym taken))

      pub encoding_goes : IsEncoding shape count plain (met known (take len rest)) (places ++ place_among (met known (take len rest)) (take len rest) ∷ []) (drop len rest) (n + 1)
      encoding_goes =
          let item : List ℕ = take len rest in
          let now : List (List ℕ) = met known item in
          record {
            items = at.items;
            are = at.are;
            plain_is = at.plain_is;
            known_is = met_now;
            places_is =
                ap (λ (t : List ℕ). t ++ place_among now item ∷ []) (at.places_is ∙ sym (places_met known item (take n at.items) at.here))
                ∙ (sym (map_push (place_among now) (take n at.items) item) ∙ ap (map (place_among now)) (sym taken));
            here = subst (λ xs. All (λ x. is_known now x ≡ true) xs) (sym taken)
                (All-push (λ x. is_known now x ≡ true) (take n at.items) item (all_known_met known item (take n at.items) at.here) (met_knows known item));
            rest_is = after_is;
          }

      pub encoding_long : (bytes : List ℕ) → 256 < length (met known (take len rest)) → bytes ≡ 255 ∷ 255 ∷ plain → IsUnpacked shape count bytes plain
      encoding_long bytes past is_bytes =
          let whole : take (n + 1) at.items ++ drop (n + 1) at.items ≡ at.items = take-append-drop (n + 1) at.items in
          let all : different at.items ≡ fold met (different (take (n + 1) at.items)) (drop (n + 1) at.items) =
          ap different (sym whole) ∙ fold-append [] (take (n + 1) at.items) (drop (n + 1) at.items) in
          let least : length (different (take (n + 1) at.items)) ≤ length (fold met (different (take (n + 1) at.items)) (drop (n + 1) at.items)) =
          met_least (different (take (n + 1) at.items)) (drop (n + 1) at.items) in
          let many : 256 < length (different at.items) = omega (arith, past, least, ap length met_now, ap length all) in
          record {
            items = at.items;
            are = at.are;
            plain_is = at.plain_is;
            spells = is_bytes ∙ (ap (λ (t : List ℕ). 255 ∷ 255 ∷ t) at.plain_is ∙ sym (dictionary_long at.items many));
          }

  pub encoding_short : (bytes : List ℕ) → count ≤ n → length known ≤ 256 → bytes ≡ low_bytes 2 (length known) ++ (concat known ++ places) → IsUnpacked shape count bytes plain
  encoding_short bytes le most is_bytes =
      let all : take n at.items ≡ at.items = take_all n at.items (let e : length at.items ≡ count = at.are.counted in omega arith) in
      let known_all : known ≡ different at.items = at.known_is ∙ ap different all in
      let places_all : places ≡ map (place_among (different at.items)) at.items =
      at.places_is ∙ (ap (map (place_among known)) all ∙ ap (λ k. map (place_among k) at.items) known_all) in
      record {
        items = at.items;
        are = at.are;
        plain_is = at.plain_is;
        spells = is_bytes ∙ (ap (λ k. low_bytes 2 (length k) ++ (concat k ++ places)) known_all
            ∙ (ap (λ (p : List ℕ). low_bytes 2 (length (different at.items)) ++ (concat (different at.items) ++ p)) places_all
            ∙ sym (dictionary_short at.items (omega (arith, most, ap length known_all)))));
      }

-- lists of items are told by their bytes
module _ (Is : List ℕ → Type 0) (are : AreItems Is) where
  pub concat_one : (xs ys : List (List ℕ)) → All Is xs → All Is ys → concat xs ≡ concat ys → xs ≡ ys
  concat_one [] [] each each' same = refl
  concat_one [] (y ∷ ys) each each' same = absurd (omega (arith, are.filled y (All-head Is y ys each'), ap length same, length-append y (concat ys)))
  concat_one (x ∷ xs) [] each each' same = absurd (omega (arith, are.filled x (All-head Is x xs each), ap length same, length-append x (concat xs)))
  concat_one (x ∷ xs) (y ∷ ys) each each' same =
      let one : x ≡ y = are.apart x y (concat xs) (concat ys) (All-head Is x xs each) (All-head Is y ys each') same in
      let rests : concat xs ≡ concat ys = append_cancel_left y (concat xs) (concat ys) (ap (λ (t : List ℕ). t ++ concat xs) (sym one) ∙ same) in
      let tails : xs ≡ ys = concat_one xs ys (All-tail Is x xs each) (All-tail Is y ys each') rests in
      cc (one, tails)

  concat_front : (xs ys : List (List ℕ)) (p q : List ℕ) → length xs ≡ length ys → All Is xs → All Is ys → concat xs ++ p ≡ concat ys ++ q → (xs ≡ ys) × (p ≡ q)
  concat_front [] [] p q long each each' same = (refl, same)
  concat_front [] (y ∷ ys) p q long each each' same = absurd (omega arith)
  concat_front (x ∷ xs) [] p q long each each' same = absurd (omega arith)
  concat_front (x ∷ xs) (y ∷ ys) p q long each each' same =
      let regrouped : x ++ (concat xs ++ p) ≡ y ++ (concat ys ++ q) = sym (append_assoc x (concat xs) p) ∙ (same ∙ append_assoc y (concat ys) q) in
      let one : x ≡ y = are.apart x y (concat xs ++ p) (concat ys ++ q) (All-head Is x xs each) (All-head Is y ys each') regrouped in
      let rests : concat xs ++ p ≡ concat ys ++ q = append_cancel_left y (concat xs ++ p) (concat ys ++ q) (ap (λ (t : List ℕ). t ++ (concat xs ++ p)) (sym one) ∙ regrouped) in
      let r = concat_front xs ys p q (omega arith) (All-tail Is x xs each) (All-tail Is y ys each') rests in
      let tails : xs ≡ ys = r.0 in
      (cc (one, tails), r.1)

  got_place : (known : List (List ℕ)) (x : List ℕ) → is_known known x ≡ true → get_or known (place_among known x) [] ≡ x
  got_place [] x here = absurd (false≢true here)
  got_place (k ∷ known) x here = elim (cases_Bool (bytes_eq x k)) [
    | inl same ↦ rw same (sym (same_item x k same))
    | inr out ↦
        let rest : is_known known x ≡ true = rw out at here in
        let got : get_or known (place_among known x) [] ≡ x = got_place known x rest in
        let e : place_among (k ∷ known) x ≡ suc (place_among known x) = rw out (omega arith) in
        ap (λ (p : ℕ). get_or (k ∷ known) p []) e ∙ got
  ]

  got_places : (known xs : List (List ℕ)) → All (λ x. is_known known x ≡ true) xs → items_at known (map (place_among known) xs) ≡ xs
  got_places known [] each = refl
  got_places known (x ∷ xs) each =
      let one : get_or known (place_among known x) [] ≡ x = got_place known x (All-head (λ x. is_known known x ≡ true) x xs each) in
      let rest : items_at known (map (place_among known) xs) ≡ xs = got_places known xs (All-tail (λ x. is_known known x ≡ true) x xs each) in
      cc (one, rest)

  known_fold : (known xs : List (List ℕ)) (x : List ℕ) → is_known known x ≡ true → is_known (fold met known xs) x ≡ true
  known_fold known [] x here = here
  known_fold known (y ∷ xs) x here = known_fold (met known y) xs x (known_met known y x here)

  all_fold : (known xs : List (List ℕ)) → All (λ x. is_known (fold met known xs) x ≡ true) xs
  all_fold known [] = All-nil (λ x. is_known known x ≡ true)
  all_fold known (x ∷ xs) =
      All-cons (λ y. is_known (fold met (met known x) xs) y ≡ true) x xs (known_fold (met known x) xs x (met_knows known x)) (all_fold (met known x) xs)

  -- a dictionary's spelling has one form
  pub dictionary_one : (xs ys : List (List ℕ)) → All Is xs → All Is ys → dictionary xs ≡ dictionary ys → xs ≡ ys
  dictionary_one xs ys each each' same = elim (cases_lt 256 (length (different xs))) [
    | inl past ↦ elim (cases_lt 256 (length (different ys))) [
      | inl past' ↦
          let e : 255 ∷ 255 ∷ concat xs ≡ 255 ∷ 255 ∷ concat ys = sym (dictionary_long xs past) ∙ (same ∙ dictionary_long ys past') in
          let e' : concat xs ≡ concat ys = cc in
          concat_one xs ys each each' e'
      | inr le' ↦ absurd (no_long (length (different ys)) _ (concat xs) le' (sym (dictionary_short ys le') ∙ (sym same ∙ dictionary_long xs past)))
    ]
    | inr le ↦ elim (cases_lt 256 (length (different ys))) [
      | inl past' ↦ absurd (no_long (length (different xs)) _ (concat ys) le (sym (dictionary_short xs le) ∙ (same ∙ dictionary_long ys past')))
      | inr le' ↦
          let d : List (List ℕ) = different xs in
          let e : List (List ℕ) = different ys in
          let s = same_number (length d) (length e) (concat d ++ map (place_among d) xs) (concat e ++ map (place_among e) ys) le le' (sym (dictionary_short xs le) ∙ (same ∙ dictionary_short ys le')) in
          let r = concat_front d e (map (place_among d) xs) (map (place_among e) ys) s.0 (all_met Is [] xs (All-nil Is) each) (all_met Is [] ys (All-nil Is) each') s.1 in
          sym (got_places d xs (all_fold [] xs)) ∙ (ap (items_at d) r.1 ∙ (ap (λ k. items_at k (map (place_among e) ys)) r.0 ∙ got_places e ys (all_fold [] ys)))
    ]
  ]

-- how values are spelled as items
pub record AreSpelled {X : Type 0} (Fits : X → Type 0) (spell : X → List ℕ) (Is : List ℕ → Type 0) : Type 0 where
  pub to : (x : X) → Fits x → Is (spell x)
  pub from : (t : List ℕ) → Is t → (x : X) × Fits x × (t ≡ spell x)
  pub one : (x y : X) → Fits x → Fits y → spell x ≡ spell y → x ≡ y

module _ {X : Type 0} (Fits : X → Type 0) (spell : X → List ℕ) (Is : List ℕ → Type 0) (are : AreSpelled Fits spell Is) where
  pub all_spelled : (xs : List X) → All Fits xs → All Is (map spell xs)
  all_spelled [] each = All-nil Is
  all_spelled (x ∷ xs) each = All-cons Is (spell x) (map spell xs) (are.to x (All-head Fits x xs each)) (all_spelled xs (All-tail Fits x xs each))

  pub values_of : (items : List (List ℕ)) → All Is items → (xs : List X) × All Fits xs × (items ≡ map spell xs)
  values_of [] each = ([], All-nil Fits, refl)
  values_of (t ∷ items) each =
      let one = are.from t (All-head Is t items each) in
      let r = values_of items (All-tail Is t items each) in
      let head : t ≡ spell one.0 = one.2 in
      let tail : items ≡ map spell r.0 = r.2 in
      (one.0 ∷ r.0, All-cons Fits one.0 r.0 one.1 r.1, cc (head, tail))

  pub same_values : (xs ys : List X) → All Fits xs → All Fits ys → map spell xs ≡ map spell ys → xs ≡ ys
  same_values [] [] each each' same = refl
  same_values [] (y ∷ ys) each each' same = absurd (omega (arith, ap length same))
  same_values (x ∷ xs) [] each each' same = absurd (omega (arith, ap length same))
  same_values (x ∷ xs) (y ∷ ys) each each' same =
      let heads : spell x ≡ spell y = cc in
      let tails : map spell xs ≡ map spell ys = cc in
      let one : x ≡ y = are.one x y (All-head Fits x xs each) (All-head Fits y ys each') heads in
      let rest : xs ≡ ys = same_values xs ys (All-tail Fits x xs each) (All-tail Fits y ys each') tails in
      cc (one, rest)

  module _ (count : ℕ) where
    spelling_to : (t : List ℕ) → IsSpelling dictionary Is count t → IsSpelling (λ xs. dictionary (map spell xs)) Fits count t
    spelling_to t s =
        let v = values_of s.values s.are.each in
        record {
          values = v.0;
          are = record { counted = sym (length-map v.0 spell) ∙ (ap length (sym v.2) ∙ s.are.counted); each = v.1 };
          spells = s.spells ∙ ap dictionary v.2;
        }

    spelling_from : (t : List ℕ) → IsSpelling (λ xs. dictionary (map spell xs)) Fits count t → IsSpelling dictionary Is count t
    spelling_from t s = record {
      values = map spell s.values;
      are = record { counted = length-map s.values spell ∙ s.are.counted; each = all_spelled s.values s.are.each };
      spells = s.spells;
    }

    pub damaged_values : (bytes : List ℕ) (place : ℕ) → IsDamagedAt dictionary Is count bytes place → IsDamagedAt (λ xs. dictionary (map spell xs)) Fits count bytes place
    damaged_values bytes place d = record {
      spells_none = λ s. d.spells_none (spelling_from bytes s);
      front = same_texts (IsSpelling dictionary Is count) (IsSpelling (λ xs. dictionary (map spell xs)) Fits count) spelling_to spelling_from bytes place d.front;
    }

  -- RAW spells the items one after another
  pub raw_is : (before : Option X) (xs : List X) → spelled (λ _ x. spell x) before xs ≡ concat (map spell xs)
  raw_is before [] = refl
  raw_is before (x ∷ xs) = ap (λ (t : List ℕ). spell x ++ t) (raw_is (Some x) xs)

  pub raw_items : (xs : List X) (plain : List ℕ) → All Fits xs → plain ≡ spelled (λ _ x. spell x) None xs → IsSpelling concat Is (length xs) plain
  raw_items xs plain each is = record {
    values = map spell xs;
    are = record { counted = length-map xs spell; each = all_spelled xs each };
    spells = is ∙ raw_is None xs;
  }

-- what is packed from items one after another spells them
pub unpacked_is : (shape : Shape) → IsShape shape → (count : ℕ) (bytes plain : List ℕ) → IsUnpacked shape count bytes plain → (items : List (List ℕ)) → All (IsItemOf shape) items → plain ≡ concat items → bytes ≡ dictionary items
unpacked_is shape is count bytes plain u items each same =
    u.spells ∙ ap dictionary (concat_one (IsItemOf shape) (are_items shape is) u.items items u.are.each each (sym u.plain_is ∙ same))
