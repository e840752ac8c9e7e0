-- Values of each shape, and their items.
use Rattle.std.proofs.Common.{◌≡◌, ℕ, ℤ, None, Ok, Err, List, [], length, map, refl, sym, ap, ◌∙◌}
use Rattle.std.specs.Prelude.{Result, All, IfOk, IfErr}
use Rattle.std.specs.List.{concat}
use Rattle.std.proofs.lemmas.List.{append-nil, length-map}
use Rattle.dw_codec_plain.specs.declared.fault.CodecFault.{CodecFault}
use Rattle.dw_codec_plain.specs.declared.fault.CodecFault.TheVariants.{Damaged, Memory}
use Rattle.dw_codec_plain.specs.Numbers.{IsWidth, FitsWidth, number}
use Rattle.dw_codec_plain.specs.Encodings.{IsText, raw_text}
use Rattle.dw_codec_plain.specs.Spelling.{spelled, IsListOf, Explains}
use Rattle.dw_codec_plain.proofs.Signed.{same_number}
use Rattle.dw_codec_plain.proofs.TextItems.{texts_apart}
use Rattle.dw_codec_runs.specs.Dictionary.{dictionary, bytedict, bytedict_texts}
use Rattle.dw_codec_runs.specs.DictionaryParts.{IsItemOf, IsNumberItem, IsTextItem, IsShape, IsUnpacked}
use Rattle.dw_codec_runs.specs.declared.dictionary_item.Shape.{Shape}
use Rattle.dw_codec_runs.specs.declared.dictionary_item.Shape.TheVariants.{Number, Text}
use Rattle.dw_codec_runs.proofs.DictionaryEncoding.{AreSpelled, all_spelled, values_of, same_values, damaged_values, raw_is, unpacked_is, dictionary_one}
use Rattle.dw_codec_runs.proofs.DictionaryReady.{are_items}

pub numbers_spelled : (width : ℕ) → IsWidth width → AreSpelled (FitsWidth width) (number width) (IsNumberItem width)
numbers_spelled width is = record {
  to = λ value fits. record { value = value; fits = fits; spells = refl };
  from = λ t item. (item.value, item.fits, item.spells);
  one = λ v w fits fits' same. same_number width is v w fits fits' same;
}

pub texts_spelled : AreSpelled IsText raw_text IsTextItem
texts_spelled = record {
  to = λ text fits. record { text = text; fits = fits; spells = refl };
  from = λ t item. (item.text, item.fits, item.spells);
  one = λ t u fits fits' same. texts_apart t u [] [] fits fits' (append-nil (raw_text t) ∙ (same ∙ sym (append-nil (raw_text u))));
}

pub if_ok : {T E : Type 0} (P Q : T → Type 0) → ((x : T) → P x → Q x) → (r : Result T E) → IfOk r P → IfOk r Q
if_ok P Q to (Ok x) p = to x p
if_ok P Q to (Err e) p = p

pub if_err : {T E : Type 0} (P Q : E → Type 0) → ((x : E) → P x → Q x) → (r : Result T E) → IfErr r P → IfErr r Q
if_err P Q to (Ok x) p = p
if_err P Q to (Err e) p = to e p

module _ (shape : Shape) (is : IsShape shape) {X : Type 0} (Fits : X → Type 0) (spell : X → List ℕ) (are : AreSpelled Fits spell (IsItemOf shape)) where
  pub packed : (count : ℕ) (xs : List X) (bytes plain : List ℕ) → All Fits xs → plain ≡ spelled (λ _ x. spell x) None xs → IsUnpacked shape count bytes plain → bytes ≡ dictionary (map spell xs)
  packed count xs bytes plain each plain_is u =
      unpacked_is shape is count bytes plain u (map spell xs) (all_spelled Fits spell (IsItemOf shape) are xs each) (plain_is ∙ raw_is Fits spell (IsItemOf shape) are None xs)

  pub decoded : (count : ℕ) (bytes plain : List ℕ) → IsUnpacked shape count bytes plain → (xs : List X) → IsListOf Fits count xs × (plain ≡ spelled (λ _ x. spell x) None xs)
      → IsListOf Fits count xs × (bytes ≡ dictionary (map spell xs))
  decoded count bytes plain u xs d = (d.0, packed count xs bytes plain d.0.each d.1 u)

  -- what was unpacked is RAW's spelling, so only memory may be wanting
  pub raw_fault : (count : ℕ) (bytes plain : List ℕ) → IsUnpacked shape count bytes plain → (fault : CodecFault) → Explains fault (spelled (λ _ x. spell x) None) Fits count plain
      → Explains fault (λ (xs : List X). dictionary (map spell xs)) Fits count bytes
  raw_fault count bytes plain u (Damaged place) damaged =
      let v = values_of Fits spell (IsItemOf shape) are u.items u.are.each in
      absurd (damaged.spells_none (record {
        values = v.0;
        are = record { counted = sym (length-map v.0 spell) ∙ (ap length (sym v.2) ∙ u.are.counted); each = v.1 };
        spells = u.plain_is ∙ (ap concat v.2 ∙ sym (raw_is Fits spell (IsItemOf shape) are None v.0));
      }))
  raw_fault count bytes plain u Memory fault = tt

  pub items_fault : (count : ℕ) (bytes : List ℕ) (fault : CodecFault) → Explains fault dictionary (IsItemOf shape) count bytes → Explains fault (λ (xs : List X). dictionary (map spell xs)) Fits count bytes
  items_fault count bytes (Damaged place) damaged = damaged_values Fits spell (IsItemOf shape) are count bytes place damaged
  items_fault count bytes Memory fault = tt

  pub one_spelling : (xs ys : List X) → All Fits xs → All Fits ys → dictionary (map spell xs) ≡ dictionary (map spell ys) → xs ≡ ys
  one_spelling xs ys each each' same =
      same_values Fits spell (IsItemOf shape) are xs ys each each'
      (dictionary_one (IsItemOf shape) (are_items shape is) (map spell xs) (map spell ys) (all_spelled Fits spell (IsItemOf shape) are xs each) (all_spelled Fits spell (IsItemOf shape) are ys each') same)

-- BYTEDICT has one form
pub bytedict_form : (width : ℕ) (values others : List ℤ) → IsWidth width → All (FitsWidth width) values → All (FitsWidth width) others → bytedict width values ≡ bytedict width others → values ≡ others
bytedict_form width values others is fits fits' same = one_spelling (Number width) is (FitsWidth width) (number width) (numbers_spelled width is) values others fits fits' same

pub bytedict_texts_form : (values others : List (List ℕ)) → All IsText values → All IsText others → bytedict_texts values ≡ bytedict_texts others → values ≡ others
bytedict_texts_form values others fits fits' same = one_spelling Text tt IsText raw_text texts_spelled values others fits fits' same
