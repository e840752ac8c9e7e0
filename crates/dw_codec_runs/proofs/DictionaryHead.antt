-- The head of a dictionary's spelling, and what follows it.
use Rattle.std.proofs.Common.{◌≡◌, ℕ, suc, ◌+◌, ◌/◌, ◌%◌, ◌≤◌, ◌<◌, ◌⊎◌, inl, inr, Bool, true, false, List, [], ◌∷◌, ◌++◌, length, map, get_or, refl, sym, ap, ◌∙◌, subst, arith}
use Rattle.std.specs.Prelude.{All, fold, nat_lt}
use Rattle.std.specs.List.{concat}
use Rattle.std.proofs.lemmas.Bool.{cases_Bool, cases_lt, ltb-true, ltb-false}
use Rattle.std.proofs.lemmas.List.{length-map}
use Rattle.std.proofs.lemmas.List.Elements.{All-nil, All-cons, All-head, All-tail, All-get_or, All-push}
use Rattle.dw_codec_plain.specs.Numbers.{low_bytes}
use Rattle.dw_codec_plain.specs.Spelling.{IsSpelling}
use Rattle.dw_codec_runs.specs.Dictionary.{is_known, met, different, place_among, dictionary}
use Rattle.dw_codec_runs.specs.DictionaryParts.{AreNew, Grows, HasItems, HasPlain, IsHead, AreSame, Behind, items_at}
use Rattle.dw_codec_runs.proofs.DictionaryFronts.{BeginWith}
use Rattle.dw_codec_runs.proofs.DictionaryItems.{more_met, grows_met, grows_to, met_at}
use Rattle.dw_codec_runs.proofs.DictionaryStates.{AreItems, AreMany, filled_up, places_start, plain_goes, met_most}

-- a spelling with the different items
pub record IsShort (Is : List ℕ → Type 0) (count : ℕ) (t : List ℕ) : Type 0 where
  pub number : ℕ
  pub most : number ≤ 256
  pub rest : List ℕ
  pub items : HasItems Is number count [] rest
  pub spells : t ≡ low_bytes 2 number ++ rest

-- a spelling with all items
pub record IsLong (Is : List ℕ → Type 0) (count : ℕ) (t : List ℕ) : Type 0 where
  pub rest : List ℕ
  pub items : HasPlain Is [] count rest
  pub spells : t ≡ 255 ∷ 255 ∷ rest

abbrev pub HasHead : (List ℕ → Type 0) → ℕ → List ℕ → Type 0
HasHead Is count t = IsShort Is count t ⊎ IsLong Is count t

pub dictionary_short : (items : List (List ℕ)) → length (different items) ≤ 256
    → dictionary items ≡ low_bytes 2 (length (different items)) ++ (concat (different items) ++ map (place_among (different items)) items)
unfolding dictionary
dictionary_short items le = elim (cases_Bool (nat_lt 256 (length (different items)))) [
  | inl past ↦ absurd (let lt : 256 < length (different items) = ltb-true _ _ past in omega arith)
  | inr in_it ↦ rw in_it refl
]

pub dictionary_long : (items : List (List ℕ)) → 256 < length (different items) → dictionary items ≡ 255 ∷ 255 ∷ concat items
unfolding dictionary
dictionary_long items lt = elim (cases_Bool (nat_lt 256 (length (different items)))) [
  | inl past ↦ rw past refl
  | inr in_it ↦ absurd (let le : length (different items) ≤ 256 = ltb-false _ _ in_it in omega arith)
]

-- the items that are different are among the items
pub all_met : (Is : List ℕ → Type 0) (known items : List (List ℕ)) → All Is known → All Is items → All Is (fold met known items)
all_met Is known [] each each' = each
all_met Is known (item ∷ items) each each' = all_met Is (met known item) items (one known item each (All-head Is item items each')) (All-tail Is item items each') where
  one : (known : List (List ℕ)) (item : List ℕ) → All Is known → Is item → All Is (met known item)
  one known item each is = elim (cases_Bool (is_known known item)) [
    | inl here ↦ rw here each
    | inr out ↦ rw out (All-push Is known item each is)
  ]

grows_below : (n k : ℕ) (places : List ℕ) → Grows n k places → All (λ place. place < n) places
grows_below n k [] grows = All-nil (λ place. place < n)
grows_below n k (place ∷ places) (inl known) =
    let to = grows_to n k places known.1 in
    All-cons (λ place. place < n) place places (omega (arith, known.0, to.0)) (grows_below n k places known.1)
grows_below n k (place ∷ places) (inr next) =
    let to = grows_to n (suc k) places next.1 in
    All-cons (λ place. place < n) place places (omega (arith, next.0, to.0)) (grows_below n (suc k) places next.1)

pub all_at : (Is : List ℕ → Type 0) (all : List (List ℕ)) (places : List ℕ) → All Is all → All (λ place. place < length all) places → All Is (items_at all places)
all_at Is all [] each within = All-nil Is
all_at Is all (place ∷ places) each within =
    All-cons Is (get_or all place []) (items_at all places) (All-get_or Is all place [] (All-head (λ place. place < length all) place places within) each)
    (all_at Is all places each (All-tail (λ place. place < length all) place places within))

-- what places among different items spell
pub record IsRead (Is : List ℕ → Type 0) (all : List (List ℕ)) (places : List ℕ) : Type 0 where
  pub each : All Is (items_at all places)
  pub within : All (λ place. place < length all) places
  pub counted : length (items_at all places) ≡ length places
  pub spells : dictionary (items_at all places) ≡ low_bytes 2 (length all) ++ (concat all ++ places)

pub read_places : (Is : List ℕ → Type 0) (all : List (List ℕ)) (places : List ℕ) → length all ≤ 256 → AreNew [] all → All Is all → Grows (length all) 0 places → IsRead Is all places
read_places Is all places le new each grows =
    let at = met_at [] all places new grows in
    let items : List (List ℕ) = items_at all places in
    let same : different items ≡ all = at.different in
    let within : All (λ place. place < length all) places = grows_below (length all) 0 places grows in
    let placed : map (place_among all) items ≡ places = at.placed in
    let short : dictionary items ≡ low_bytes 2 (length (different items)) ++ (concat (different items) ++ map (place_among (different items)) items) = dictionary_short items (omega (arith, ap length same)) in
    record {
      each = all_at Is all places each within;
      within = within;
      counted = length-map places (λ place. get_or all place []);
      spells = short ∙ (ap (λ d. low_bytes 2 (length d) ++ (concat d ++ map (place_among d) items)) same ∙ ap (λ (p : List ℕ). low_bytes 2 (length all) ++ (concat all ++ p)) placed);
    }

module _ (Is : List ℕ → Type 0) (count : ℕ) where
  spelled_to : (t : List ℕ) → IsSpelling dictionary Is count t → HasHead Is count t
  spelled_to t s =
      let items : List (List ℕ) = s.values in
      let r = more_met [] items in
      elim (cases_lt 256 (length (different items))) [
        | inl past ↦ inr (record {
          rest = concat items;
          items = record { items = items; each = s.are.each; counted = s.are.counted; many = past; spells = refl };
          spells = s.spells ∙ dictionary_long items past;
        })
        | inr le ↦ inl (record {
          number = length (different items);
          most = le;
          rest = concat (different items) ++ map (place_among (different items)) items;
          items = record {
            more = different items;
            places = map (place_among (different items)) items;
            counted = omega arith;
            new = subst (λ d. AreNew [] d) (sym r.whole) r.new;
            each = all_met Is [] items (All-nil Is) s.are.each;
            grows = grows_met [] items;
            long = length-map items (place_among (different items)) ∙ s.are.counted;
            spells = refl;
          };
          spells = s.spells ∙ dictionary_short items le;
        })
      ]

  spelled_from : (t : List ℕ) → HasHead Is count t → IsSpelling dictionary Is count t
  spelled_from t (inl s) =
      let h = s.items in
      let is : length h.more ≡ s.number = let e : 0 + length h.more ≡ s.number = h.counted in omega arith in
      let most : length h.more ≤ 256 = let m : s.number ≤ 256 = s.most in omega arith in
      let r : IsRead Is h.more h.places = read_places Is h.more h.places most h.new h.each (subst (λ n. Grows n 0 h.places) (sym is) h.grows) in
      record {
        values = items_at h.more h.places;
        are = record { counted = r.counted ∙ h.long; each = r.each };
        spells = s.spells ∙ (ap (λ (u : List ℕ). low_bytes 2 s.number ++ u) h.spells ∙ (ap (λ (n : ℕ). low_bytes 2 n ++ (concat h.more ++ h.places)) (sym is) ∙ sym r.spells));
      }
  spelled_from t (inr s) =
      let h = s.items in
      record {
        values = h.items;
        are = record { counted = h.counted; each = h.each };
        spells = s.spells ∙ (ap (λ (u : List ℕ). 255 ∷ 255 ∷ u) h.spells ∙ sym (dictionary_long h.items h.many));
      }

  pub spelled_same : AreSame (IsSpelling dictionary Is count) (HasHead Is count)
  spelled_same = record { to = spelled_to; from = spelled_from }

pub same_number : (m n : ℕ) (t u : List ℕ) → m ≤ 256 → n ≤ 256 → low_bytes 2 m ++ t ≡ low_bytes 2 n ++ u → (m ≡ n) × (t ≡ u)
same_number m n t u le le' same =
    let low : m % 256 ≡ n % 256 = cc in
    let high : m / 256 % 256 ≡ n / 256 % 256 = cc in
    (omega arith, cc)

pub no_long : (m : ℕ) (t u : List ℕ) → m ≤ 256 → low_bytes 2 m ++ t ≡ 255 ∷ 255 ∷ u → ⊥
no_long m t u le same =
    let low : m % 256 ≡ 255 = cc in
    let high : m / 256 % 256 ≡ 255 = cc in
    omega arith

pub short_follows : (Is : List ℕ → Type 0) (count number : ℕ) → number ≤ 256 → AreSame (Behind (HasHead Is count) (low_bytes 2 number)) (HasItems Is number count [])
short_follows Is count number le = record {
  to = λ t has. elim has [
    | inl s ↦
        let e = same_number number s.number t s.rest le s.most s.spells in
        subst (λ u. HasItems Is number count [] u) (sym e.1) (subst (λ n. HasItems Is n count [] s.rest) (sym e.0) s.items)
    | inr s ↦ absurd (no_long number t s.rest le s.spells)
  ];
  from = λ t has. inl (record { number = number; most = le; rest = t; items = has; spells = refl });
}

pub long_follows : (Is : List ℕ → Type 0) (count : ℕ) → AreSame (Behind (HasHead Is count) (255 ∷ 255 ∷ [])) (HasPlain Is [] count)
long_follows Is count = record {
  to = λ t has. elim has [
    | inl s ↦ absurd (no_long s.number s.rest t s.most (sym s.spells))
    | inr s ↦ let e : 255 ∷ 255 ∷ t ≡ 255 ∷ 255 ∷ s.rest = s.spells in let e' : t ≡ s.rest = cc in subst (λ u. HasPlain Is [] count u) (sym e') s.items
  ];
  from = λ t has. inr (record { rest = t; items = has; spells = refl });
}

module _ (Is : List ℕ → Type 0) (are : AreItems Is) (wide : Bool) (many : wide ≡ true → AreMany Is)
    (few : wide ≡ false → (known : List (List ℕ)) → AreNew [] known → All Is known → length known ≤ 256) where
  some_place : (n count : ℕ) (places : List ℕ) → Grows n 0 places → length places ≡ count → (n ≤ count) × ((count ≡ 0) ⊎ (0 < n))
  some_place n count [] grows long = (omega arith, inl (omega arith))
  some_place n count (place ∷ places) (inl known) long = absurd (let lt : place < 0 = known.0 in omega arith)
  some_place n count (place ∷ places) (inr next) long =
      let to = grows_to n 1 places next.1 in (omega (arith, to.1), inr (omega (arith, to.0)))

  is_wide : (count : ℕ) (t : List ℕ) → HasPlain Is [] count t → wide ≡ true
  is_wide count t h = elim (cases_Bool wide) [
    | inl in_it ↦ in_it
    | inr narrow ↦
        let r = more_met [] h.items in
        let le : length (different h.items) ≤ 256 = few narrow (different h.items) (subst (λ d. AreNew [] d) (sym r.whole) r.new) (all_met Is [] h.items (All-nil Is) h.each) in
        absurd (let lt : 256 < length (different h.items) = h.many in omega arith)
  ]

  pub head_begin : (count : ℕ) → BeginWith (IsHead wide count) (HasHead Is count)
  head_begin count = record {
    first = λ t has. elim has [
      | inl s ↦
          let p = some_place s.number count s.items.places s.items.grows s.items.long in
          (low_bytes 2 s.number, inl (s.number, record { most = s.most; enough = p.0; some = p.1; is = refl }), s.rest, s.spells)
      | inr s ↦
          let past : 256 < length (different s.items.items) = s.items.many in (
            255 ∷ 255 ∷ [],
            inr (record {
              room = is_wide count s.rest s.items;
              enough = omega (arith, past, met_most [] s.items.items, s.items.counted);
              is = refl;
            }),
            s.rest,
            s.spells,
          )
    ];
    goes = λ item is. elim is [
      | inl s ↦
          let h = s.1 in
          let f = filled_up Is are [] s.0 (let m : s.0 ≤ 256 = h.most in omega arith) in
          let p = places_start s.0 count h.enough h.some in
          let rest : List ℕ = concat f.0 ++ p.0 in (
            rest,
            inl (record {
              number = s.0;
              most = h.most;
              rest = rest;
              items = record { more = f.0; places = p.0; counted = let e : length f.0 ≡ s.0 = f.3 in omega arith; new = f.1; each = f.2; grows = p.1.grows; long = p.1.long; spells = refl };
              spells = ap (λ (u : List ℕ). u ++ rest) h.is;
            }),
          )
      | inr h ↦
          let g = plain_goes Is are (many h.room) [] count (let e : 256 < count = h.enough in omega arith) in
          (g.0, inr (record { rest = g.0; items = g.1; spells = ap (λ (u : List ℕ). u ++ g.0) h.is }))
    ];
  }
