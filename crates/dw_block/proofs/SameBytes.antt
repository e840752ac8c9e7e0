-- The bytes of a block are those of one list of values: two lists with the same bytes are equal.
use Rattle.std.proofs.Common.{◌≡◌, ℕ, zero, suc, ◌<◌, ◌≤◌, Bool, true, false, Option, None, Some, List, [], ◌∷◌, ◌++◌, length, take, drop, get_or, if◌then◌else◌, refl, sym, ap, ◌∙◌, arith}
use Rattle.std.specs.Prelude.{All}
use Rattle.std.specs.List.{filter_map, cons_option}
use Rattle.std.proofs.Math.Seq.{drop-append_seam, take-append_seam}
use Rattle.std.proofs.lemmas.List.Elements.{All-head, All-tail, All-weaker}
use Rattle.std.proofs.Props.{props}
use Rattle.dw_value.specs.declared.kinds.Kind.{Kind}
use Rattle.dw_value.specs.declared.kinds.Encoding.{Encoding}
use Rattle.dw_value.specs.declared.values.Value.{Value}
use Rattle.dw_value.specs.declared.values.Value.TheVariants.{Words, Null}
use Rattle.dw_value.specs.Values.{is_null, takes_texts}
use Rattle.dw_codec_plain.specs.Encodings.{IsText}
use Rattle.dw_block.specs.declared.zone.Zone.{Zone}
use Rattle.dw_block.specs.Nulls.{null_bytes, null_len, null_bits, bit_at}
use Rattle.dw_value.specs.Encodings.{width}
use Rattle.dw_block.specs.Blocks.{encoded_numbers, encoded_texts, items_bytes, IsValueOf, IsBlockText, number_in, text_in, numbers_of, texts_of, value_of}
use Rattle.dw_block.specs.Stored.{IsSpelled, Spells}
use Rattle.dw_block.specs.Unique.{Value-set}
use Rattle.dw_block.proofs.Places.{null_at, null_is, some_number, some_text}
use Rattle.dw_block.proofs.Forms.{texts_form, numbers_form, IsWidth-width}

module _ {X : Type 0} (item_in : Value → Option X) (from : X → Value) (kind : Kind)
    (some : (v : Value) → IsValueOf kind v → is_null v ≡ false → (x : X) × (item_in v ≡ Some x) × (from x ≡ v)) (none : item_in Null ≡ None) where
  abbrev SameNulls : List Value → List Value → Type 0
  SameNulls v w = (k : ℕ) → k < length v → is_null (get_or v k Null) ≡ is_null (get_or w k Null)

  null_first : (x y : Value) (xs ys : List Value) → is_null x ≡ true → is_null y ≡ true → filter_map item_in (x ∷ xs) ≡ filter_map item_in (y ∷ ys) → filter_map item_in xs ≡ filter_map item_in ys
  null_first x y xs ys e f items =
      sym (ap (λ o. cons_option o (filter_map item_in xs)) (ap item_in (null_is x e) ∙ none)) ∙ items
      ∙ ap (λ o. cons_option o (filter_map item_in ys)) (ap item_in (null_is y f) ∙ none)

  item_first : (x y : Value) (xs ys : List Value) → IsValueOf kind x → IsValueOf kind y → is_null x ≡ false → is_null y ≡ false → filter_map item_in (x ∷ xs) ≡ filter_map item_in (y ∷ ys)
      → (x ≡ y) × (filter_map item_in xs ≡ filter_map item_in ys)
  item_first x y xs ys is is' e f items =
      let a = some x is e in
      let b = some y is' f in
      let both : a.0 ∷ filter_map item_in xs ≡ b.0 ∷ filter_map item_in ys =
      sym (ap (λ o. cons_option o (filter_map item_in xs)) a.1) ∙ items ∙ ap (λ o. cons_option o (filter_map item_in ys)) b.1 in
      let first : a.0 ≡ b.0 = cc both in
      let rest : filter_map item_in xs ≡ filter_map item_in ys = cc both in
      (sym a.2 ∙ ap from first ∙ b.2, rest)

  same_by : (x y : Value) (xs ys : List Value) (t : Bool) → is_null x ≡ t → is_null y ≡ t → IsValueOf kind x → IsValueOf kind y → filter_map item_in (x ∷ xs) ≡ filter_map item_in (y ∷ ys)
      → (x ≡ y) × (filter_map item_in xs ≡ filter_map item_in ys)
  same_by x y xs ys true e f is is' items = (null_is x e ∙ sym (null_is y f), null_first x y xs ys e f items)
  same_by x y xs ys false e f is is' items = item_first x y xs ys is is' e f items

  same : (v w : List Value) → SameNulls v w → length v ≡ length w → All (IsValueOf kind) v → All (IsValueOf kind) w → filter_map item_in v ≡ filter_map item_in w → v ≡ w
  same [] [] nulls len all all' items = refl
  same [] (y ∷ ys) nulls len all all' items = absurd (omega (arith, len))
  same (x ∷ xs) [] nulls len all all' items = absurd (omega (arith, len))
  same (x ∷ xs) (y ∷ ys) nulls len all all' items =
      let r = same_by x y xs ys (is_null x) refl (sym (nulls 0 (omega arith))) (All-head (IsValueOf kind) x xs all) (All-head (IsValueOf kind) y ys all') items in
      let rest : xs ≡ ys = same xs ys (λ k lt. nulls (suc k) (omega arith)) (omega (arith, len)) (All-tail (IsValueOf kind) x xs all) (All-tail (IsValueOf kind) y ys all') r.1 in
      ap (λ (z : Value). z ∷ xs) r.0 ∙ ap (λ (l : List Value). y ∷ l) rest

length-null_bytes : (count : ℕ) (values : List Value) → length (null_bytes count values) ≡ count
length-null_bytes zero values = refl
length-null_bytes (suc count) values = ap suc (length-null_bytes count (drop 8 values))

pub length-null_bits : (values : List Value) → length (null_bits values) ≡ null_len (length values)
length-null_bits values = length-null_bytes (null_len (length values)) values

-- the null bits are in front, and the encoding after them
pub front_is : (values : List Value) (count : ℕ) (rest : List ℕ) → length values ≡ count → take (null_len count) (null_bits values ++ rest) ≡ null_bits values
front_is values count rest is =
    let len : null_len count ≡ length (null_bits values) = sym (length-null_bits values ∙ ap null_len is) in
    ap (λ (n : ℕ). take n (null_bits values ++ rest)) len ∙ take-append_seam (null_bits values) rest

pub back_is : (values : List Value) (count : ℕ) (rest : List ℕ) → length values ≡ count → drop (null_len count) (null_bits values ++ rest) ≡ rest
back_is values count rest is =
    let len : null_len count ≡ length (null_bits values) = sym (length-null_bits values ∙ ap null_len is) in
    ap (λ (n : ℕ). drop n (null_bits values ++ rest)) len ∙ drop-append_seam (null_bits values) rest

pub are_texts : (texts : List (List ℕ)) → All IsBlockText texts → All IsText texts
are_texts texts all = All-weaker IsBlockText IsText (λ t s. s.is) texts all

one_at_most : {X : Type 0} (o : Option X) (items : List X) (n : ℕ) → length items ≤ n → length (cons_option o items) ≤ suc n
one_at_most None items n few = omega (arith, few)
one_at_most (Some x) items n few = omega (arith, few)

-- values have at most one item each
pub few_items : {X : Type 0} (item_in : Value → Option X) (values : List Value) → length (filter_map item_in values) ≤ length values
few_items item_in [] = omega arith
few_items item_in (v ∷ vs) = one_at_most (item_in v) (filter_map item_in vs) (length vs) (few_items item_in vs)

by_class : (kind : Kind) (encoding : Encoding) (v w : List Value) (t : Bool) → takes_texts kind ≡ t → IsSpelled kind v → IsSpelled kind w → ((k : ℕ) → k < length v → is_null (get_or v k Null) ≡ is_null (get_or w k Null))
    → length v ≡ length w → length v ≤ 4096 → length w ≤ 4096 → All (IsValueOf kind) v → All (IsValueOf kind) w
    → (if t then encoded_texts encoding (texts_of v) else encoded_numbers encoding (width kind) (numbers_of v)) ≡ (if t then encoded_texts encoding (texts_of w) else encoded_numbers encoding (width kind) (numbers_of w)) → v ≡ w
by_class kind encoding v w true e a b nulls len few few' all all' items =
    same text_in Words kind (some_text kind e) refl v w nulls len all all'
    (texts_form encoding (texts_of v) (texts_of w) (omega (arith, few, few_items text_in v)) (omega (arith, few', few_items text_in w)) (are_texts (texts_of v) (a.texts e)) (are_texts (texts_of w) (b.texts e)) items)
by_class kind encoding v w false e a b nulls len few few' all all' items =
    same number_in (value_of kind) kind (some_number kind e) refl v w nulls len all all'
    (numbers_form encoding (width kind) (numbers_of v) (numbers_of w) (IsWidth-width kind) (omega (arith, few, few_items number_in v)) (omega (arith, few', few_items number_in w)) (a.numbers e) (b.numbers e) items)

-- two lists of values with the same bytes are one
pub unique : (encoding : Encoding) (kind : Kind) (count : ℕ) (bytes : List ℕ) (zone : Zone) (v w : List Value) → Spells encoding kind count bytes zone v → Spells encoding kind count bytes zone w → v ≡ w
unique encoding kind count bytes zone v w a b =
    let bytes : null_bits v ++ items_bytes encoding kind v ≡ null_bits w ++ items_bytes encoding kind w = sym a.bytes_are ∙ b.bytes_are in
    let fronts : null_bits v ≡ null_bits w =
    sym (front_is v count (items_bytes encoding kind v) a.counted) ∙ ap (take (null_len count)) bytes ∙ front_is w count (items_bytes encoding kind w) b.counted in
    let backs : items_bytes encoding kind v ≡ items_bytes encoding kind w =
    sym (back_is v count (items_bytes encoding kind v) a.counted) ∙ ap (drop (null_len count)) bytes ∙ back_is w count (items_bytes encoding kind w) b.counted in
    let len : length v ≡ length w = a.counted ∙ sym b.counted in
    by_class kind encoding v w (takes_texts kind) refl a.spelled b.spelled
    (λ k lt. sym (null_at v k lt) ∙ ap (λ (l : List ℕ). bit_at l k) fronts ∙ null_at w k (omega (arith, len))) len (omega (arith, a.counted, a.few)) (omega (arith, b.counted, b.few)) a.each b.each backs

pub Zone-set : IsSet Zone
Zone-set = hlevel props

IsBlockText-prop : (text : List ℕ) → IsProp (IsBlockText text)
IsBlockText-prop text = hlevel props

pub AllBlockTexts-prop : (texts : List (List ℕ)) → IsProp (All IsBlockText texts)
AllBlockTexts-prop texts = hlevel (props, IsBlockText-prop)

IsValueOf-prop : (kind : Kind) (value : Value) → IsProp (IsValueOf kind value)
IsValueOf-prop kind value = hlevel (props, Value-set)

pub AllValues-prop : (kind : Kind) (values : List Value) → IsProp (All (IsValueOf kind) values)
AllValues-prop kind values = hlevel (props, IsValueOf-prop)
