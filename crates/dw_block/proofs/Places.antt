-- Values are found from their null bits and items, place by place.
use Rattle.std.proofs.Common.{◌≡◌, ℕ, ◌+◌, ◌*◌, ◌<◌, ◌≤◌, Bool, true, false, eqb, if◌then◌else◌, ℤ, pos, Option, None, Some, List, [], ◌∷◌, ◌++◌, length, take, drop, get_or, refl, sym, ap, ◌∙◌, arith, true≢false, add-one, drop-cons}
use Rattle.std.specs.List.{filter_map, cons_option}
use Rattle.std.proofs.lemmas.List.{take_more, drop_all}
use Rattle.std.proofs.lemmas.List.Elements.{All-get_or}
use Rattle.dw_value.specs.declared.kinds.Kind.{Kind}
use Rattle.dw_value.specs.declared.kinds.Kind.TheVariants.{Char, Varchar, Date, Bool as Boolean}
use Rattle.dw_value.specs.declared.values.Value.{Value}
use Rattle.dw_value.specs.declared.values.Value.TheVariants.{Number, Words, Day, Truth, Null}
use Rattle.dw_value.specs.Values.{is_null, takes_texts}
use Rattle.dw_block.specs.Nulls.{null_len, null_bits, bit_at}
use Rattle.dw_block.specs.Blocks.{IsValueOf, number_in, text_in, value_of}
use Rattle.dw_block.specs.Stored.{IsPlaced}
use Rattle.dw_block.proofs.NullBits.{bit_is}

flag_test : (t : Bool) → eqb (if t then 1 else 0) 1 ≡ t
flag_test true = refl
flag_test false = refl

pub null_is : (v : Value) → is_null v ≡ true → v ≡ Null
null_is (Number n) e = absurd (true≢false (sym e))
null_is (Words text) e = absurd (true≢false (sym e))
null_is (Day n) e = absurd (true≢false (sym e))
null_is (Truth b) e = absurd (true≢false (sym e))
null_is Null e = refl

front_more : {X : Type 0} (d x : X) (l : List X) (i : ℕ) → i < length l → drop i l ≡ get_or l i d ∷ drop (i + 1) l
front_more d x l i lt = rw (add-one, drop-cons l i d) refl

-- the null bits of values say which are NULL
pub null_at : (values : List Value) (place : ℕ) → place < length values → bit_at (null_bits values) place ≡ is_null (get_or values place Null)
null_at values place lt =
    let within : place < 8 * null_len (length values) = omega arith in
    ap (λ (n : ℕ). eqb n 1) (bit_is (null_len (length values)) values place Null lt within) ∙ flag_test (is_null (get_or values place Null))

-- so far the values up to the place are found, and the items after `next` are those of the values that are left
abbrev pub IsFound : {X : Type 0} → (Value → Option X) → Kind → List ℕ → List X → ℕ → ℕ → ℕ → List Value → Type 0
IsFound item_in kind nulls items count place next found = (values : List Value) → IsPlaced (filter_map item_in) kind nulls items count values
    → (found ≡ take place values) × (drop next items ≡ filter_map item_in (drop place values))

module _ {X : Type 0} (item_in : Value → Option X) (from : X → Value) (kind : Kind)
    (some : (v : Value) → IsValueOf kind v → is_null v ≡ false → (x : X) × (item_in v ≡ Some x) × (from x ≡ v)) (none : item_in Null ≡ None)
    (nulls : List ℕ) (items : List X) (count : ℕ) where
  abbrev Found : ℕ → ℕ → List Value → Type 0
  Found = IsFound item_in kind nulls items count

  bit : (values : List Value) (place : ℕ) → IsPlaced (filter_map item_in) kind nulls items count values → place < count → bit_at nulls place ≡ is_null (get_or values place Null)
  bit values place p lt = ap (λ (l : List ℕ). bit_at l place) p.nulls_are ∙ null_at values place (omega (arith, p.counted))

  left : (values : List Value) (place : ℕ) → place < length values → filter_map item_in (drop place values) ≡ cons_option (item_in (get_or values place Null)) (filter_map item_in (drop (place + 1) values))
  left values place lt = ap (filter_map item_in) (front_more Null Null values place lt)

  pub start : Found 0 0 []
  start values p = (refl, p.items_are)

  pub null_place : (place next : ℕ) (found : List Value) → place < count → bit_at nulls place ≡ true → Found place next found → Found (place + 1) next (found ++ Null ∷ [])
  null_place place next found lt set before values p =
      let within : place < length values = omega (arith, p.counted) in
      let null : get_or values place Null ≡ Null = null_is (get_or values place Null) (sym (bit values place p lt) ∙ set) in
      let r = before values p in (
        ap (λ (l : List Value). l ++ Null ∷ []) r.0 ∙ ap (λ (v : Value). take place values ++ v ∷ []) (sym null) ∙ sym (take_more values place Null within),
        r.1 ∙ left values place within ∙ ap (λ (v : Value). cons_option (item_in v) (filter_map item_in (drop (place + 1) values))) null
            ∙ ap (λ o. cons_option o (filter_map item_in (drop (place + 1) values))) none,
      )

  -- the item of a value that isn't NULL
  item : (values : List Value) (place next : ℕ) (found : List Value) → IsPlaced (filter_map item_in) kind nulls items count values → place < count → bit_at nulls place ≡ false → Found place next found
      → (x : X) × (drop next items ≡ x ∷ filter_map item_in (drop (place + 1) values)) × (from x ≡ get_or values place Null)
  item values place next found p lt clear before =
      let within : place < length values = omega (arith, p.counted) in
      let r = some (get_or values place Null) (All-get_or (IsValueOf kind) values place Null within p.each) (sym (bit values place p lt) ∙ clear) in
      (r.0, (before values p).1 ∙ left values place within ∙ ap (λ o. cons_option o (filter_map item_in (drop (place + 1) values))) r.1, r.2)

  pub item_place : (place next : ℕ) (found : List Value) (x : X) → place < count → bit_at nulls place ≡ false → next < length items → x ≡ get_or items next x → Found place next found
      → Found (place + 1) (next + 1) (found ++ from x ∷ [])
  item_place place next found x lt clear has is before values p =
      let within : place < length values = omega (arith, p.counted) in
      let r = item values place next found p lt clear before in
      let both : x ∷ drop (next + 1) items ≡ r.0 ∷ filter_map item_in (drop (place + 1) values) =
      ap (λ (y : X). y ∷ drop (next + 1) items) is ∙ sym (front_more x x items next has) ∙ r.1 in
      let same : x ≡ r.0 = cc both in
      let rest : drop (next + 1) items ≡ filter_map item_in (drop (place + 1) values) = cc both in (
        ap (λ (l : List Value). l ++ from x ∷ []) (before values p).0 ∙ ap (λ (v : Value). take place values ++ v ∷ []) (ap from same ∙ r.2) ∙ sym (take_more values place Null within),
        rest,
      )

  pub no_item : (place next : ℕ) (found : List Value) → place < count → bit_at nulls place ≡ false → length items ≤ next → Found place next found → (values : List Value) → IsPlaced (filter_map item_in) kind nulls items count values → ⊥
  no_item place next found lt clear out before values p =
      let r = item values place next found p lt clear before in
      let none : [] ≡ r.0 ∷ filter_map item_in (drop (place + 1) values) = sym (drop_all next items out) ∙ r.1 in
      cc none

-- a value of a kind that takes no texts is NULL or a number of that kind
pub some_number : (kind : Kind) → takes_texts kind ≡ false → (v : Value) → IsValueOf kind v → is_null v ≡ false → (n : ℤ) × (number_in v ≡ Some n) × (value_of kind n ≡ v)
some_number Date e (Number n) of not = absurd (true≢false (sym of.goes))
some_number Boolean e (Number n) of not = absurd (true≢false (sym of.goes))
some_number (Char limit) e (Number n) of not = absurd (true≢false (sym of.goes))
some_number (Varchar limit) e (Number n) of not = absurd (true≢false (sym of.goes))
some_number kind e (Number n) of not = (n, refl, refl)
some_number Date e (Day n) of not = (n, refl, refl)
some_number kind e (Day n) of not = absurd (true≢false (sym of.goes))
some_number Boolean e (Truth true) of not = (pos 1, refl, refl)
some_number Boolean e (Truth false) of not = (pos 0, refl, refl)
some_number kind e (Truth b) of not = absurd (true≢false (sym of.goes))
some_number kind e (Words text) of not = absurd (true≢false (sym of.goes ∙ e))
some_number kind e Null of not = absurd (true≢false not)

-- a value of a kind that takes texts is NULL or a text
pub some_text : (kind : Kind) → takes_texts kind ≡ true → (v : Value) → IsValueOf kind v → is_null v ≡ false → (t : List ℕ) × (text_in v ≡ Some t) × (Words t ≡ v)
some_text (Char limit) e (Number n) of not = absurd (true≢false (sym of.goes))
some_text (Varchar limit) e (Number n) of not = absurd (true≢false (sym of.goes))
some_text kind e (Number n) of not = absurd (true≢false (sym e))
some_text Date e (Day n) of not = absurd (true≢false (sym e))
some_text kind e (Day n) of not = absurd (true≢false (sym of.goes))
some_text Boolean e (Truth b) of not = absurd (true≢false (sym e))
some_text kind e (Truth b) of not = absurd (true≢false (sym of.goes))
some_text kind e (Words text) of not = (text, refl, refl)
some_text kind e Null of not = absurd (true≢false not)
