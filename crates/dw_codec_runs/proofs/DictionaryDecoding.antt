-- What a decoder's loop has read of a dictionary's spelling, and what follows where it stops.
use Rattle.std.proofs.Common.{◌≡◌, ℕ, suc, ◌+◌, ◌-◌, ◌≤◌, ◌<◌, inl, inr, Bool, true, false, List, [], ◌∷◌, ◌++◌, length, take, drop, get_or, refl, sym, ap, ◌∙◌, append_assoc, subst, arith, length-append}
use Rattle.std.specs.Prelude.{All, nat_lt}
use Rattle.std.specs.List.{concat}
use Rattle.std.proofs.lemmas.Bool.{cases_Bool, cases_lt, ltb-true, ltb-false}
use Rattle.std.proofs.lemmas.List.{append-nil, take-append-drop, drop_at, nil_from_length, map-append, take_more}
use Rattle.std.proofs.lemmas.List.Folds.{concat-append}
use Rattle.std.proofs.lemmas.List.Elements.{All-nil, All-push}
use Rattle.dw_codec_plain.specs.Numbers.{low_bytes}
use Rattle.dw_codec_plain.specs.Spelling.{IsSpelling, IsLongestFront, IsDamagedAt}
use Rattle.dw_codec_runs.specs.Dictionary.{is_known, met, different, dictionary}
use Rattle.dw_codec_runs.specs.DictionaryParts.{IsItemOf, AreSame, Behind, IsAt, IsBroken, NoneFirst, AreNew, Grows, HasItems, HasPlain, HasPlaces, IsShortHead, IsLongHead, IsHead, IsShape, is_wide, IsUnknown, IsWanted, IsUnpacked, items_at}
use Rattle.dw_codec_runs.specs.declared.dictionary_item.Shape.{Shape}
use Rattle.dw_codec_runs.proofs.DictionaryFronts.{BeginWith, broken_same, broken_item, broken_trail, at_begin, at_more, at_same, at_broken, at_done}
use Rattle.dw_codec_runs.proofs.DictionaryItems.{met_known, met_new, new_append}
use Rattle.dw_codec_runs.proofs.DictionaryStates.{items_begin, items_next, items_done, plain_begin, plain_next, met_least}
use Rattle.dw_codec_runs.proofs.DictionaryHead.{HasHead, spelled_same, short_follows, long_follows, head_begin, dictionary_short, dictionary_long, IsRead, read_places, no_long}
use Rattle.dw_codec_runs.proofs.DictionaryReady.{are_items, are_many, are_few}

pub new_push : (known : List (List ℕ)) (item : List ℕ) → AreNew [] known → is_known known item ≡ false → AreNew [] (known ++ item ∷ [])
new_push known item new out = new_append [] known (item ∷ []) new (out, tt)

module _ (shape : Shape) (is : IsShape shape) (count : ℕ) (bytes : List ℕ) where
  Spells : List ℕ → Type 0
  Spells = IsSpelling dictionary (IsItemOf shape) count

  damaged : (place : ℕ) → IsBroken (IsSpelling dictionary (IsItemOf shape) count) bytes place → IsDamagedAt dictionary (IsItemOf shape) count bytes place
  damaged place broken = record { spells_none = broken.none; front = broken.front }

  at_head : (head : List ℕ) (L : List ℕ → Type 0) → take 2 bytes ≡ head → AreSame (Behind (HasHead (IsItemOf shape) count) head) L → IsAt (IsSpelling dictionary (IsItemOf shape) count) bytes (drop 2 bytes) L
  at_head head L front same =
      let T : List ℕ → Type 0 = IsSpelling dictionary (IsItemOf shape) count in
      let H : List ℕ → Type 0 = HasHead (IsItemOf shape) count in
      at_more T bytes bytes H head (drop 2 bytes) L
      (at_same T bytes bytes T H (at_begin T bytes) (spelled_same (IsItemOf shape) count))
      (sym (take-append-drop 2 bytes) ∙ ap (λ (t : List ℕ). t ++ drop 2 bytes) front) same

  -- the head is none
  pub head_damaged : (place : ℕ) → NoneFirst (IsHead (is_wide shape) count) bytes → IsLongestFront (IsHead (is_wide shape) count) bytes place → IsDamagedAt dictionary (IsItemOf shape) count bytes place
  head_damaged place none front =
      damaged place (broken_same (HasHead (IsItemOf shape) count) (IsSpelling dictionary (IsItemOf shape) count)
      (record { to = (spelled_same (IsItemOf shape) count).from; from = (spelled_same (IsItemOf shape) count).to }) bytes place
      (broken_item (IsHead (is_wide shape) count) (HasHead (IsItemOf shape) count)
      (head_begin (IsItemOf shape) (are_items shape is) (is_wide shape) (are_many shape is) (are_few shape is) count) bytes place none front))

  -- the first n of the different items are read
  pub record IsKnowing (number : ℕ) (known : List (List ℕ)) (rest : List ℕ) (n : ℕ) : Type 0 where
    pub follows : IsAt (IsSpelling dictionary (IsItemOf shape) count) bytes rest (HasItems (IsItemOf shape) number count known)
    pub counted : length known ≡ n
    pub new : AreNew [] known
    pub each : All (IsItemOf shape) known
    pub spells : bytes ≡ low_bytes 2 number ++ (concat known ++ rest)

  module _ (number : ℕ) (head : IsShortHead count number (take 2 bytes)) where
    pub knowing_begins : IsKnowing number [] (drop 2 bytes) 0
    knowing_begins = record {
      follows = at_head (low_bytes 2 number) (HasItems (IsItemOf shape) number count []) head.is (short_follows (IsItemOf shape) count number head.most);
      counted = refl;
      new = tt;
      each = All-nil (IsItemOf shape);
      spells = sym (take-append-drop 2 bytes) ∙ ap (λ (t : List ℕ). t ++ drop 2 bytes) head.is;
    }

    module _ (known : List (List ℕ)) (rest : List ℕ) (n : ℕ) (knowing : IsKnowing number known rest n) where
      pub knowing_goes : (len : ℕ) → n < number → IsUnknown shape known (take len rest) → IsKnowing number (met known (take len rest)) (drop len rest) (n + 1)
      knowing_goes len lt unknown =
          let item : List ℕ = take len rest in
          let counted : length known ≡ n = knowing.counted in
          let new : met known item ≡ known ++ item ∷ [] = met_new known item unknown.out in
          let whole : rest ≡ item ++ drop len rest = sym (take-append-drop len rest) in
          let joined : concat (known ++ item ∷ []) ≡ concat known ++ item = concat-append known (item ∷ []) ∙ ap (λ (t : List ℕ). concat known ++ t) (append-nil item) in
          let next : IsKnowing number (known ++ item ∷ []) (drop len rest) (n + 1) = record {
            follows = at_more (IsSpelling dictionary (IsItemOf shape) count) bytes rest (HasItems (IsItemOf shape) number count known) item (drop len rest) (HasItems (IsItemOf shape) number count (known ++ item ∷ []))
                knowing.follows whole (items_next (IsItemOf shape) (are_items shape is) number count known item (omega arith) unknown.is unknown.out);
            counted = omega (arith, length-append known (item ∷ []));
            new = new_push known item knowing.new unknown.out;
            each = All-push (IsItemOf shape) known item knowing.each unknown.is;
            spells = knowing.spells ∙ ap (λ (t : List ℕ). low_bytes 2 number ++ t)
                (ap (λ (t : List ℕ). concat known ++ t) whole ∙ (sym (append_assoc (concat known) item (drop len rest)) ∙ ap (λ (t : List ℕ). t ++ drop len rest) (sym joined)));
          } in
          subst (λ k. IsKnowing number k (drop len rest) (n + 1)) (sym new) next

      pub knowing_stops : (place whole : ℕ) → n < number → whole ≡ length bytes - length rest + place → NoneFirst (IsUnknown shape known) rest → IsLongestFront (IsUnknown shape known) rest place → IsDamagedAt dictionary (IsItemOf shape) count bytes whole
      knowing_stops place whole lt at none front =
          let counted : length known ≡ n = knowing.counted in
          let begin = items_begin (IsItemOf shape) (are_items shape is) number count known head.most head.enough (omega arith) in
          let begin' : BeginWith (IsUnknown shape known) (HasItems (IsItemOf shape) number count known) = record {
            first = λ t has. let f = begin.first t has in (f.0, record { is = f.1.0; out = f.1.1 }, f.2, f.3);
            goes = λ item unknown. begin.goes item (unknown.is, unknown.out);
          } in
          damaged whole (at_broken (IsSpelling dictionary (IsItemOf shape) count) bytes rest (HasItems (IsItemOf shape) number count known) place whole knowing.follows at
          (broken_item (IsUnknown shape known) (HasItems (IsItemOf shape) number count known) begin' rest place none front))

      pub knowing_done : n ≡ number → IsAt (IsSpelling dictionary (IsItemOf shape) count) bytes rest (HasPlaces number 0 count)
      knowing_done done =
          let counted : length known ≡ n = knowing.counted in
          at_same (IsSpelling dictionary (IsItemOf shape) count) bytes rest (HasItems (IsItemOf shape) number count known) (HasPlaces number 0 count) knowing.follows
          (items_done (IsItemOf shape) (are_items shape is) number count known (omega arith))

    pub places_damaged : (rest : List ℕ) (place whole : ℕ) → IsAt (IsSpelling dictionary (IsItemOf shape) count) bytes rest (HasPlaces number 0 count) → whole ≡ length bytes - length rest + place
        → IsBroken (HasPlaces number 0 count) rest place → IsDamagedAt dictionary (IsItemOf shape) count bytes whole
    places_damaged rest place whole at is_whole broken =
        damaged whole (at_broken (IsSpelling dictionary (IsItemOf shape) count) bytes rest (HasPlaces number 0 count) place whole at is_whole broken)

    places_read : (known : List (List ℕ)) (places : List ℕ) → length known ≡ number → AreNew [] known → All (IsItemOf shape) known → HasPlaces number 0 count places → IsRead (IsItemOf shape) known places
    places_read known places counted new each has =
        let most : number ≤ 256 = head.most in
        read_places (IsItemOf shape) known places (omega arith) new each (subst (λ k. Grows k 0 places) (sym counted) has.grows)

    pub places_within : (known : List (List ℕ)) (places : List ℕ) → length known ≡ number → AreNew [] known → All (IsItemOf shape) known → HasPlaces number 0 count places → All (λ place. place < length known) places
    places_within known places counted new each has = let r = places_read known places counted new each has in r.within

    pub short_unpacked : (known : List (List ℕ)) (places plain : List ℕ) → length known ≡ number → AreNew [] known → All (IsItemOf shape) known → HasPlaces number 0 count places
        → bytes ≡ low_bytes 2 number ++ (concat known ++ places) → plain ≡ concat (items_at known places) → IsUnpacked shape count bytes plain
    short_unpacked known places plain counted new each has spells plain_is =
        let r = places_read known places counted new each has in
        record {
          items = items_at known places;
          are = record { counted = r.counted ∙ has.long; each = r.each };
          plain_is = plain_is;
          spells = spells ∙ (ap (λ (k : ℕ). low_bytes 2 k ++ (concat known ++ places)) (sym counted) ∙ sym r.spells);
        }

  -- the first of all items are read
  pub record IsPassing (known : List (List ℕ)) (rest : List ℕ) (at : ℕ) : Type 0 where
    pub follows : IsAt (IsSpelling dictionary (IsItemOf shape) count) bytes rest (HasPlain (IsItemOf shape) known (count - at))
    pub counted : length known ≤ at
    pub enough : 256 < length known + (count - at)
    pub new : AreNew [] known
    pub each : All (IsItemOf shape) known

  module _ (head : IsLongHead (is_wide shape) count (take 2 bytes)) where
    pub passing_begins : IsPassing [] (drop 2 bytes) 0
    passing_begins =
        let e : count ≡ count - 0 = omega arith in
        let enough : 256 < count = head.enough in
        record {
          follows = subst (λ r. IsAt (IsSpelling dictionary (IsItemOf shape) count) bytes (drop 2 bytes) (HasPlain (IsItemOf shape) [] r)) e
              (at_head (255 ∷ 255 ∷ []) (HasPlain (IsItemOf shape) [] count) head.is (long_follows (IsItemOf shape) count));
          counted = omega arith;
          enough = omega arith;
          new = tt;
          each = All-nil (IsItemOf shape);
        }

    pub long_unpacked : IsSpelling dictionary (IsItemOf shape) count bytes → IsUnpacked shape count bytes (drop 2 bytes)
    long_unpacked s =
        let whole : bytes ≡ 255 ∷ 255 ∷ drop 2 bytes = sym (take-append-drop 2 bytes) ∙ ap (λ (t : List ℕ). t ++ drop 2 bytes) head.is in
        elim (cases_lt 256 (length (different s.values))) [
          | inl past ↦ record {
            items = s.values;
            are = s.are;
            plain_is = ap (drop 2) (s.spells ∙ dictionary_long s.values past);
            spells = s.spells;
          }
          | inr le ↦ absurd (no_long (length (different s.values)) _ (drop 2 bytes) le (sym (dictionary_short s.values le) ∙ (sym s.spells ∙ whole)))
        ]

    module _ (known : List (List ℕ)) (rest : List ℕ) (at left : ℕ) (any : Bool) (passing : IsPassing known rest at) (is_left : count - at ≡ suc left) (is_any : any ≡ nat_lt 256 (length known + left)) where
      passing_at : IsAt (IsSpelling dictionary (IsItemOf shape) count) bytes rest (HasPlain (IsItemOf shape) known (suc left))
      passing_at = subst (λ r. IsAt (IsSpelling dictionary (IsItemOf shape) count) bytes rest (HasPlain (IsItemOf shape) known r)) is_left passing.follows

      few_known : any ≡ false → length known + left ≡ 256
      few_known e =
          let le : length known + left ≤ 256 = ltb-false 256 (length known + left) (sym is_any ∙ e) in
          let enough : 256 < length known + (count - at) = passing.enough in
          omega arith

      pub known_most : any ≡ false → length known ≤ 256
      known_most e = let x : length known + left ≡ 256 = few_known e in omega arith

      wanted_to : (item : List ℕ) (b : Bool) → any ≡ b → IsItemOf shape item → 256 < length (met known item) + left → IsWanted shape known b item
      wanted_to item true e item_is more = item_is
      wanted_to item false e item_is more =
          let x : length known + left ≡ 256 = few_known e in
          record {
            is = item_is;
            out = elim (cases_Bool (is_known known item)) [
              | inl here ↦ absurd (omega (arith, x, more, ap length (met_known known item here)))
              | inr out ↦ out
            ];
          }

      wanted_from : (item : List ℕ) (b : Bool) → any ≡ b → IsWanted shape known b item → IsItemOf shape item × (256 < length (met known item) + left)
      wanted_from item true e wanted =
          let lt : 256 < length known + left = ltb-true 256 (length known + left) (sym is_any ∙ e) in
          (wanted, omega (arith, lt, met_least known (item ∷ [])))
      wanted_from item false e wanted =
          let x : length known + left ≡ 256 = few_known e in
          (wanted.is, omega (arith, x, ap length (met_new known item wanted.out), length-append known (item ∷ [])))

      pub passing_stops : (place whole : ℕ) → whole ≡ length bytes - length rest + place → NoneFirst (IsWanted shape known any) rest → IsLongestFront (IsWanted shape known any) rest place → IsDamagedAt dictionary (IsItemOf shape) count bytes whole
      passing_stops place whole is_whole none front =
          let begin = plain_begin (IsItemOf shape) (are_items shape is) (are_many shape is head.room) known left in
          let begin' : BeginWith (IsWanted shape known any) (HasPlain (IsItemOf shape) known (suc left)) = record {
            first = λ t has. let f = begin.first t has in (f.0, wanted_to f.0 any refl f.1.0 f.1.1, f.2, f.3);
            goes = λ item wanted. begin.goes item (wanted_from item any refl wanted);
          } in
          damaged whole (at_broken (IsSpelling dictionary (IsItemOf shape) count) bytes rest (HasPlain (IsItemOf shape) known (suc left)) place whole passing_at is_whole
          (broken_item (IsWanted shape known any) (HasPlain (IsItemOf shape) known (suc left)) begin' rest place none front))

      pub passing_goes : (len : ℕ) → IsWanted shape known any (take len rest) → IsPassing (met known (take len rest)) (drop len rest) (at + 1)
      passing_goes len wanted =
          let item : List ℕ = take len rest in
          let w = wanted_from item any refl wanted in
          let e : left ≡ count - (at + 1) = omega arith in
          let counted : length known ≤ at = passing.counted in
          let goes : IsAt (IsSpelling dictionary (IsItemOf shape) count) bytes (drop len rest) (HasPlain (IsItemOf shape) (met known item) left) =
          at_more (IsSpelling dictionary (IsItemOf shape) count) bytes rest (HasPlain (IsItemOf shape) known (suc left)) item (drop len rest) (HasPlain (IsItemOf shape) (met known item) left)
          passing_at (sym (take-append-drop len rest)) (plain_next (IsItemOf shape) (are_items shape is) known left item w.0) in
          let follows : IsAt (IsSpelling dictionary (IsItemOf shape) count) bytes (drop len rest) (HasPlain (IsItemOf shape) (met known item) (count - (at + 1))) =
          subst (λ r. IsAt (IsSpelling dictionary (IsItemOf shape) count) bytes (drop len rest) (HasPlain (IsItemOf shape) (met known item) r)) e goes in
          let enough : 256 < length (met known item) + (count - (at + 1)) = omega (arith, w.1) in
          elim (cases_Bool (is_known known item)) [
            | inl here ↦
                let same : met known item ≡ known = met_known known item here in
                record {
                  follows = follows;
                  counted = omega (arith, ap length same, counted);
                  enough = enough;
                  new = subst (λ k. AreNew [] k) (sym same) passing.new;
                  each = subst (λ k. All (IsItemOf shape) k) (sym same) passing.each;
                }
            | inr out ↦
                let same : met known item ≡ known ++ item ∷ [] = met_new known item out in
                record {
                  follows = follows;
                  counted = omega (arith, ap length same, counted, length-append known (item ∷ []));
                  enough = enough;
                  new = subst (λ k. AreNew [] k) (sym same) (new_push known item passing.new out);
                  each = subst (λ k. All (IsItemOf shape) k) (sym same) (All-push (IsItemOf shape) known item passing.each w.0);
                }
          ]

    module _ (known : List (List ℕ)) (rest : List ℕ) (at : ℕ) (passing : IsPassing known rest at) (done : at ≡ count) where
      all_passed : HasPlain (IsItemOf shape) known (count - at) []
      all_passed = record {
        items = [];
        each = All-nil (IsItemOf shape);
        counted = omega arith;
        many = let enough : 256 < length known + (count - at) = passing.enough in omega arith;
        spells = refl;
      }

      pub passing_done : length rest ≡ 0 → IsUnpacked shape count bytes (drop 2 bytes)
      passing_done none =
          long_unpacked (at_done (IsSpelling dictionary (IsItemOf shape) count) bytes rest (HasPlain (IsItemOf shape) known (count - at)) passing.follows
          (subst (HasPlain (IsItemOf shape) known (count - at)) (sym (nil_from_length rest none)) all_passed))

      no_items : (t : List ℕ) → HasPlain (IsItemOf shape) known (count - at) t → length t ≡ 0
      no_items t has =
          let none : length has.items ≡ 0 = let e : length has.items ≡ count - at = has.counted in omega arith in
          ap length (has.spells ∙ ap concat (nil_from_length has.items none))

      pub passing_trails : (whole : ℕ) → whole ≡ length bytes - length rest → 0 < length rest → IsDamagedAt dictionary (IsItemOf shape) count bytes whole
      passing_trails whole is_whole some =
          damaged whole (at_broken (IsSpelling dictionary (IsItemOf shape) count) bytes rest (HasPlain (IsItemOf shape) known (count - at)) 0 whole passing.follows (omega arith)
          (broken_trail (HasPlain (IsItemOf shape) known (count - at)) all_passed no_items rest some))

-- one more item is written
pub written_more : (known : List (List ℕ)) (places : List ℕ) (i : ℕ) (old new : List ℕ) → i < length places → old ≡ concat (items_at known (take i places)) → new ≡ old ++ get_or known (get_or places i 0) []
    → new ≡ concat (items_at known (take (i + 1) places))
written_more known places i old new lt so_far is =
    let front : List ℕ = take i places in
    let place : ℕ = get_or places i 0 in
    let got : List ℕ = get_or known place [] in
    let one : concat (items_at known (front ++ place ∷ [])) ≡ concat (items_at known front) ++ got =
    ap concat (map-append (λ (p : ℕ). get_or known p []) front (place ∷ [])) ∙ (concat-append (items_at known front) (got ∷ []) ∙ ap (λ (t : List ℕ). concat (items_at known front) ++ t) (append-nil got)) in
    is ∙ (ap (λ (t : List ℕ). t ++ got) so_far ∙ (sym one ∙ ap (λ (ps : List ℕ). concat (items_at known ps)) (sym (take_more places i 0 lt))))

-- what is left are the last bytes
pub at_rest : (T : List ℕ → Type 0) (bytes rest : List ℕ) (L : List ℕ → Type 0) → IsAt T bytes rest L → drop (length bytes - length rest) bytes ≡ rest
at_rest T bytes rest L at =
    ap (drop (length bytes - length rest)) at.whole ∙ drop_at at.read rest (length bytes - length rest) (omega (arith, length-append at.read rest, ap length at.whole))
