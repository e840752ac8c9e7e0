-- What is known of a block's bytes and zone, by its content.
use Rattle.std.proofs.Common.{◌≡◌, ℕ, suc, ◌+◌, ◌-◌, ◌≤◌, Bool, true, false, if◌then◌else◌, ℤ, Option, None, Some, List, [], ◌∷◌, length, take, drop, refl, sym, ap, subst, ◌∙◌, arith, length-append}
use Rattle.std.specs.Prelude.{All}
use Rattle.std.specs.Coded.{le_prop}
use Rattle.std.specs.List.{filter_map, cons_option, count_by}
use Rattle.std.proofs.lemmas.List.Recursion.{is_count_by}
use Rattle.std.proofs.lemmas.List.Elements.{All-head, All-tail}
use Rattle.std.proofs.lemmas.List.Sums.{count_by-le-length}
use Rattle.std.proofs.Math.Nat.{ℕ_set}
use mathlib.Core.Logic.{∥∥₁_elim, ∥∥₁_prop}
use Rattle.dw_value.specs.declared.kinds.Kind.{Kind}
use Rattle.dw_value.specs.declared.kinds.Encoding.{Encoding}
use Rattle.dw_value.specs.declared.values.Value.{Value}
use Rattle.dw_value.specs.declared.values.Value.TheVariants.{Words, Null}
use Rattle.dw_value.specs.Values.{is_null, takes_texts}
use Rattle.dw_codec_plain.specs.Numbers.{FitsWidth}
use Rattle.dw_codec_plain.specs.Spelling.{IsSpelling}
use Rattle.dw_codec_plain.specs.Encodings.{IsText}
use Rattle.dw_block.specs.declared.zone.Zone.{Zone}
use Rattle.dw_block.specs.Zones.{zone_of}
use Rattle.dw_block.specs.Nulls.{null_len, null_bits}
use Rattle.dw_value.specs.Encodings.{width}
use Rattle.dw_block.specs.Blocks.{encoded_numbers, encoded_texts, items_bytes, block_bytes, IsValueOf, IsBlockText, number_in, text_in, numbers_of, texts_of, value_of}
use Rattle.dw_block.specs.Stored.{Spells, Content, IsPlaced}
use Rattle.dw_block.proofs.Places.{null_is, some_number, some_text}
use Rattle.dw_block.specs.Unique.{Values-set}
use Rattle.dw_block.proofs.SameBytes.{Zone-set, length-null_bits, front_is, back_is, are_texts, few_items, AllBlockTexts-prop, AllValues-prop}

-- the NULLs among values
abbrev nulls_in : List Value → ℕ
nulls_in [] = 0
nulls_in (v ∷ vs) = if is_null v then 1 + nulls_in vs else nulls_in vs

module _ {X : Type 0} (item_in : Value → Option X) (from : X → Value) (kind : Kind)
    (some : (v : Value) → IsValueOf kind v → is_null v ≡ false → (x : X) × (item_in v ≡ Some x) × (from x ≡ v)) (none : item_in Null ≡ None) where
  one_counted : (v : Value) (items : List X) (n : ℕ) (t : Bool) → is_null v ≡ t → IsValueOf kind v → length (cons_option (item_in v) items) + (if t then 1 + n else n) ≡ suc (length items + n)
  one_counted v items n true e is =
      let same : length (cons_option (item_in v) items) ≡ length items = ap (λ o. length (cons_option o items)) (ap item_in (null_is v e) ∙ none) in
      omega (arith, same)
  one_counted v items n false e is =
      let same : length (cons_option (item_in v) items) ≡ suc (length items) = ap (λ o. length (cons_option o items)) (some v is e).1 in
      omega (arith, same)

  all_counted : (values : List Value) → All (IsValueOf kind) values → length (filter_map item_in values) + nulls_in values ≡ length values
  all_counted [] all = refl
  all_counted (v ∷ vs) all =
      one_counted v (filter_map item_in vs) (nulls_in vs) (is_null v) refl (All-head (IsValueOf kind) v vs all) ∙ ap suc (all_counted vs (All-tail (IsValueOf kind) v vs all))

  -- a value is NULL or has an item
  present : (values : List Value) → All (IsValueOf kind) values → length (filter_map item_in values) ≡ length values - count_by is_null values
  present values all = omega (arith, all_counted values all, is_count_by nulls_in is_null refl (λ x xs. refl) values)

module _ (encoding : Encoding) (kind : Kind) (count : ℕ) (bytes : List ℕ) (zone : Zone) (x : Content encoding kind count bytes zone) where
  pub zone_is : zone ≡ zone_of x.0
  zone_is = ∥∥₁_elim x.1.spells (Zone-set zone (zone_of x.0)) (λ s. s.zone_is)

  pub size_is : length bytes ≡ length (block_bytes encoding kind x.0)
  size_is = ∥∥₁_elim x.1.spells (ℕ_set (length bytes) (length (block_bytes encoding kind x.0))) (λ s. ap length s.bytes_are)

  pub few : count ≤ 4096
  few = ∥∥₁_elim x.1.spells le_prop (λ s. s.few)

  pub front_within : null_len count ≤ length bytes
  front_within = ∥∥₁_elim x.1.spells le_prop (λ s.
      omega (arith, ap length s.bytes_are, length-append (null_bits x.0) (items_bytes encoding kind x.0), length-null_bits x.0, s.counted, ap null_len s.counted))

  pub nulls_within : zone.nulls ≤ count
  nulls_within = ∥∥₁_elim x.1.spells le_prop (λ s. omega (arith, ap (λ z. z.nulls) s.zone_is, count_by-le-length is_null x.0, s.counted))

  pub each_is : All (IsValueOf kind) x.0
  each_is = ∥∥₁_elim x.1.spells (AllValues-prop kind x.0) (λ s. s.each)

  pub few_values : length x.0 ≤ 4096
  few_values = ∥∥₁_elim x.1.spells le_prop (λ s. omega (arith, s.counted, s.few))

  pub content_is : (values : List Value) → Spells encoding kind count bytes zone values → x.0 ≡ values
  content_is values s = sym (x.1.only values s)

  front : (values : List Value) → Spells encoding kind count bytes zone values → take (null_len count) bytes ≡ null_bits values
  front values s = ap (take (null_len count)) s.bytes_are ∙ front_is values count (items_bytes encoding kind values) s.counted

  back : (values : List Value) → Spells encoding kind count bytes zone values → drop (null_len count) bytes ≡ items_bytes encoding kind values
  back values s = ap (drop (null_len count)) s.bytes_are ∙ back_is values count (items_bytes encoding kind values) s.counted

  items_by : (values : List Value) (t : Bool) → takes_texts kind ≡ t → items_bytes encoding kind values ≡ (if t then encoded_texts encoding (texts_of values) else encoded_numbers encoding (width kind) (numbers_of values))
  items_by values t e = ap (λ (b : Bool). if b then encoded_texts encoding (texts_of values) else encoded_numbers encoding (width kind) (numbers_of values)) e

  few_present : {X : Type 0} (item_in : Value → Option X) (values : List Value) → Spells encoding kind count bytes zone values → length (filter_map item_in values) ≤ 4096
  few_present item_in values s = omega (arith, few_items item_in values, s.counted, s.few)

  left : (values : List Value) → Spells encoding kind count bytes zone values → count - zone.nulls ≡ length values - count_by is_null values
  left values s = omega (arith, ap (λ z. z.nulls) s.zone_is, s.counted)

  pub numbers_spelled : takes_texts kind ≡ false → (items : List ℕ) → items ≡ drop (null_len count) bytes → ∥ IsSpelling (encoded_numbers encoding (width kind)) (FitsWidth (width kind)) (count - zone.nulls) items ∥₁
  numbers_spelled e items is = ∥∥₁_elim x.1.spells ∥∥₁_prop (λ s. ∣ record {
    values = numbers_of x.0;
    are = record { counted = present number_in (value_of kind) kind (some_number kind e) refl x.0 s.each ∙ sym (left x.0 s); each = s.spelled.numbers e };
    spells = is ∙ back x.0 s ∙ items_by x.0 false e;
  } ∣₁)

  pub texts_spelled : takes_texts kind ≡ true → (items : List ℕ) → items ≡ drop (null_len count) bytes → ∥ IsSpelling (encoded_texts encoding) IsText (count - zone.nulls) items ∥₁
  texts_spelled e items is = ∥∥₁_elim x.1.spells ∥∥₁_prop (λ s. ∣ record {
    values = texts_of x.0;
    are = record { counted = present text_in Words kind (some_text kind e) refl x.0 s.each ∙ sym (left x.0 s); each = are_texts (texts_of x.0) (s.spelled.texts e) };
    spells = is ∙ back x.0 s ∙ items_by x.0 true e;
  } ∣₁)

  pub numbers_found : takes_texts kind ≡ false → (nulls items : List ℕ) (numbers : List ℤ) (found : List Value) → nulls ≡ take (null_len count) bytes → items ≡ drop (null_len count) bytes
      → ((others : List ℤ) → length others ≤ 4096 → All (FitsWidth (width kind)) others → items ≡ encoded_numbers encoding (width kind) others → numbers ≡ others)
      → ((values : List Value) → IsPlaced numbers_of kind nulls numbers count values → found ≡ values) → found ≡ x.0
  numbers_found e nulls items numbers found fronts backs same finds = ∥∥₁_elim x.1.spells (Values-set found x.0) (λ s. finds x.0 (record {
    counted = s.counted;
    each = s.each;
    nulls_are = fronts ∙ front x.0 s;
    items_are = same (numbers_of x.0) (few_present number_in x.0 s) (s.spelled.numbers e) (backs ∙ back x.0 s ∙ items_by x.0 false e);
  }))

  pub texts_found : takes_texts kind ≡ true → (nulls items : List ℕ) (texts : List (List ℕ)) (found : List Value) → nulls ≡ take (null_len count) bytes → items ≡ drop (null_len count) bytes
      → ((others : List (List ℕ)) → length others ≤ 4096 → All IsText others → items ≡ encoded_texts encoding others → texts ≡ others)
      → ((values : List Value) → IsPlaced texts_of kind nulls texts count values → found ≡ values) → found ≡ x.0
  texts_found e nulls items texts found fronts backs same finds = ∥∥₁_elim x.1.spells (Values-set found x.0) (λ s. finds x.0 (record {
    counted = s.counted;
    each = s.each;
    nulls_are = fronts ∙ front x.0 s;
    items_are = same (texts_of x.0) (few_present text_in x.0 s) (are_texts (texts_of x.0) (s.spelled.texts e)) (backs ∙ back x.0 s ∙ items_by x.0 true e);
  }))

  pub texts_stored : takes_texts kind ≡ true → (items : List ℕ) (texts : List (List ℕ)) → items ≡ drop (null_len count) bytes
      → ((others : List (List ℕ)) → length others ≤ 4096 → All IsText others → items ≡ encoded_texts encoding others → texts ≡ others) → All IsBlockText texts
  texts_stored e items texts backs same = ∥∥₁_elim x.1.spells (AllBlockTexts-prop texts) (λ s.
      let is : texts ≡ texts_of x.0 = same (texts_of x.0) (few_present text_in x.0 s) (are_texts (texts_of x.0) (s.spelled.texts e)) (backs ∙ back x.0 s ∙ items_by x.0 true e) in
      subst (All IsBlockText) (sym is) (s.spelled.texts e))
