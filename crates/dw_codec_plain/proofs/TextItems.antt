-- Texts, each with its length before it, one after another.
use Rattle.std.proofs.Common.{◌≡◌, ℕ, ◌+◌, ◌-◌, ◌*◌, ◌^◌, ◌%◌, ◌≤◌, ◌<◌, Option, None, List, ◌++◌, length, take, drop, get_or, refl, sym, ap, ◌∙◌, append_assoc, arith, length-append, subst}
use Rattle.std.specs.Prelude.{All, replicate}
use Rattle.std.proofs.Math.Nat.{mod-eq_of_lt}
use Rattle.std.proofs.lemmas.List.{take-append-drop, length-take-le, length-replicate, take_all, get_or-drop}
use Rattle.std.proofs.lemmas.List.Elements.{All-from_get_or, All-replicate, All-append}
use Rattle.dw_codec_plain.specs.Numbers.{natural_of, low_bytes}
use Rattle.dw_codec_plain.specs.Encodings.{IsText, raw_text, raw_text_item}
use Rattle.dw_codec_plain.specs.Spelling.{IsItem, NoItem, IsLongestFront}
use Rattle.dw_codec_plain.proofs.Fronts.{same_front}
use Rattle.dw_codec_plain.proofs.Items.{IsPrefixFree}
use Rattle.dw_codec_plain.proofs.Naturals.{AreBytes, length-low_bytes, taken_are_bytes, natural_of-low_bytes, natural_of-lt, low_bytes_from}
use Rattle.dw_codec_plain.proofs.FormFronts.{same_texts}
use Rattle.dw_codec_plain.proofs.RawItems.{filled_are_bytes}

same_length : (m n : ℕ) → m ≤ 65535 → n ≤ 65535 → low_bytes 2 m ≡ low_bytes 2 n → m ≡ n
same_length m n le le' same =
    let e : m % 65536 ≡ n % 65536 = sym (natural_of-low_bytes 2 m) ∙ (ap natural_of same ∙ natural_of-low_bytes 2 n) in
    omega arith

pub texts_apart : (t u x y : List ℕ) → IsText t → IsText u → raw_text t ++ x ≡ raw_text u ++ y → t ≡ u
texts_apart t u x y is is' same =
    let a : List ℕ = low_bytes 2 (length t) in
    let b : List ℕ = low_bytes 2 (length u) in
    let regrouped : a ++ (t ++ x) ≡ b ++ (u ++ y) = sym (append_assoc a t x) ∙ (same ∙ append_assoc b u y) in
    let r = same_front a (t ++ x) b (u ++ y) regrouped (length-low_bytes 2 (length t) ∙ sym (length-low_bytes 2 (length u))) in
    (same_front t x u y r.1 (same_length (length t) (length u) is.short is'.short r.0)).0

pub texts_free : IsPrefixFree raw_text_item IsText
texts_free = record { apart = λ before t u x y is is' same. texts_apart t u x y is is' same }

pub length-raw_text : (text : List ℕ) → length (raw_text text) ≡ 2 + length text
length-raw_text text = omega (arith, length-append (low_bytes 2 (length text)) text, length-low_bytes 2 (length text))

dropped_are_bytes : (k : ℕ) (bs : List ℕ) → AreBytes bs → AreBytes (drop k bs)
dropped_are_bytes k bs are i = let e : get_or (drop k bs) i 0 ≡ get_or bs (k + i) 0 = get_or-drop k bs i 0 in omega (arith, e, are (k + i))

are_all : (bs : List ℕ) → AreBytes bs → All (λ byte. byte < 256) bs
are_all bs are = All-from_get_or (λ byte. byte < 256) bs 0 (λ i lt. are i)

-- the length that the first two bytes say
module _ (bytes : List ℕ) (are : AreBytes bytes) (enough : 2 ≤ length bytes) (n : ℕ) (is : n ≡ natural_of (take 2 bytes)) where
  pub said_below : n < 65536
  said_below =
      let long : length (take 2 bytes) ≡ 2 = length-take-le 2 bytes enough in
      let below : natural_of (take 2 bytes) < 2 ^ (8 * length (take 2 bytes)) = natural_of-lt (take 2 bytes) (taken_are_bytes 2 bytes are) in
      let below' : natural_of (take 2 bytes) < 65536 = subst (λ l. natural_of (take 2 bytes) < 2 ^ (8 * l)) long below in
      omega arith

  said : low_bytes 2 n ≡ take 2 bytes
  said =
      let small : n < 65536 = said_below in
      low_bytes_from 2 (take 2 bytes) n (taken_are_bytes 2 bytes are) (length-take-le 2 bytes enough) (mod-eq_of_lt small ∙ is)

  pub text_read : n ≤ length (drop 2 bytes) → IsText (take n (drop 2 bytes)) × (bytes ≡ raw_text (take n (drop 2 bytes)) ++ drop n (drop 2 bytes))
  text_read le =
      let tail : List ℕ = drop 2 bytes in
      let text : List ℕ = take n tail in
      let long : length text ≡ n = length-take-le n tail le in
      let small : n < 65536 = said_below in
      let head : low_bytes 2 (length text) ≡ take 2 bytes = ap (low_bytes 2) long ∙ said in (
        record { short = omega arith; bytes = are_all text (taken_are_bytes n tail (dropped_are_bytes 2 bytes are)) },
        sym (take-append-drop 2 bytes) ∙ (ap (λ (t : List ℕ). take 2 bytes ++ t) (sym (take-append-drop n tail))
            ∙ (ap (λ (h : List ℕ). h ++ (text ++ drop n tail)) (sym head) ∙ sym (append_assoc (low_bytes 2 (length text)) text (drop n tail)))),
      )

  pub text_none_cut : (before : Option (List ℕ)) → length (drop 2 bytes) < n → NoItem raw_text_item IsText before bytes
  text_none_cut before lt text rest fits same =
      let a : List ℕ = low_bytes 2 (length text) in
      let long : length (take 2 bytes) ≡ 2 = length-take-le 2 bytes enough in
      let regrouped : take 2 bytes ++ drop 2 bytes ≡ a ++ (text ++ rest) = take-append-drop 2 bytes ∙ (same ∙ append_assoc a text rest) in
      let r = same_front (take 2 bytes) (drop 2 bytes) a (text ++ rest) regrouped (long ∙ sym (length-low_bytes 2 (length text))) in
      let e : n ≡ length text = same_length n (length text) (let small : n < 65536 = said_below in omega arith) fits.short (said ∙ r.0) in
      omega (arith, e, ap length r.1, length-append text rest)

  pub text_front_cut : (before : Option (List ℕ)) → length (drop 2 bytes) < n → IsLongestFront (IsItem raw_text_item IsText before) bytes (length bytes)
  text_front_cut before lt =
      let tail : List ℕ = drop 2 bytes in
      let more : List ℕ = replicate (n - length tail) 0 in
      let text : List ℕ = tail ++ more in
      let long : length text ≡ n = omega (arith, length-append tail more, length-replicate {A = ℕ} (n - length tail) 0) in
      let small : n < 65536 = said_below in
      let head : low_bytes 2 (length text) ≡ take 2 bytes = ap (low_bytes 2) long ∙ said in
      let whole : take (length bytes) bytes ≡ bytes = take_all (length bytes) bytes (omega arith) in
      record {
        within = omega arith;
        begins = record {
          text = raw_text text;
          is = record {
            value = text;
            fits = record { short = omega arith; bytes = All-append (λ byte. byte < 256) tail more (are_all tail (dropped_are_bytes 2 bytes are)) (All-replicate (λ byte. byte < 256) (n - length tail) 0 (omega arith)) };
            spells = refl;
          };
          rest = more;
          begins = ap (λ (h : List ℕ). h ++ text) head ∙ (sym (append_assoc (take 2 bytes) tail more) ∙ ap (λ (t : List ℕ). t ++ more) (take-append-drop 2 bytes ∙ sym whole));
        };
        longest = λ more within b. within;
      }

pub text_none_short : (before : Option (List ℕ)) (bytes : List ℕ) → length bytes < 2 → NoItem raw_text_item IsText before bytes
text_none_short before bytes lt text rest fits same =
    omega (arith, ap length same, length-append (raw_text text) rest, length-raw_text text)

pub text_front_short : (before : Option (List ℕ)) (bytes : List ℕ) → AreBytes bytes → length bytes < 2 → IsLongestFront (IsItem raw_text_item IsText before) bytes (length bytes)
text_front_short before bytes are lt =
    let k : ℕ = 2 - length bytes in
    let filled : List ℕ = bytes ++ replicate k 0 in
    let long : length filled ≡ 2 = omega (arith, length-append bytes (replicate k 0), length-replicate {A = ℕ} k 0) in
    let n : ℕ = natural_of filled in
    let below : n < 2 ^ (8 * length filled) = natural_of-lt filled (filled_are_bytes bytes k are) in
    let below' : n < 65536 = subst (λ l. n < 2 ^ (8 * l)) long below in
    let head : low_bytes 2 n ≡ filled = low_bytes_from 2 filled n (filled_are_bytes bytes k are) long (mod-eq_of_lt below') in
    let text : List ℕ = replicate n 0 in
    let long' : length text ≡ n = length-replicate n 0 in
    let whole : take (length bytes) bytes ≡ bytes = take_all (length bytes) bytes (omega arith) in
    record {
      within = omega arith;
      begins = record {
        text = raw_text text;
        is = record { value = text; fits = record { short = omega arith; bytes = All-replicate (λ byte. byte < 256) n 0 (omega arith) }; spells = refl };
        rest = replicate k 0 ++ text;
        begins = ap (λ (l : ℕ). low_bytes 2 l ++ text) long' ∙ (ap (λ (h : List ℕ). h ++ text) head
            ∙ (append_assoc bytes (replicate k 0) text ∙ ap (λ (t : List ℕ). t ++ (replicate k 0 ++ text)) (sym whole)));
      };
      longest = λ more within b. within;
    }

-- a text is spelled alike behind each other one
pub texts_none : (before : Option (List ℕ)) (bytes : List ℕ) → NoItem raw_text_item IsText None bytes → NoItem raw_text_item IsText before bytes
texts_none before bytes none = none

pub texts_front : (before : Option (List ℕ)) (bytes : List ℕ) (place : ℕ) → IsLongestFront (IsItem raw_text_item IsText None) bytes place → IsLongestFront (IsItem raw_text_item IsText before) bytes place
texts_front before bytes place front =
    same_texts (IsItem raw_text_item IsText None) (IsItem raw_text_item IsText before)
    (λ text i. record { value = i.value; fits = i.fits; spells = i.spells })
    (λ text i. record { value = i.value; fits = i.fits; spells = i.spells }) bytes place front
