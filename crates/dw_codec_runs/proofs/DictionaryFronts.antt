-- How far bytes begin a text of some kind, by what may follow the front that is read.
use Rattle.std.proofs.Common.{◌≡◌, ℕ, ◌+◌, ◌-◌, ◌≤◌, ◌<◌, inl, inr, List, [], ◌++◌, length, take, drop, refl, sym, ap, ◌∙◌, append_assoc, subst, arith, length-append}
use Rattle.std.proofs.Math.Seq.{take-append-add}
use Rattle.std.proofs.lemmas.Bool.{cases_lt}
use Rattle.std.proofs.lemmas.List.{length-take-le, take-append-drop}
use Rattle.dw_codec_plain.specs.Spelling.{IsLongestFront}
use Rattle.dw_codec_runs.specs.DictionaryParts.{IsBroken, NoneFirst, AreSame, Behind, IsAt}
use Rattle.dw_codec_plain.proofs.Fronts.{overlap}
use Rattle.dw_codec_plain.proofs.FormFronts.{same_texts}

pub broken_same : (A B : List ℕ → Type 0) → AreSame A B → (bytes : List ℕ) (place : ℕ) → IsBroken A bytes place → IsBroken B bytes place
broken_same A B same bytes place broken = record {
  none = λ b. broken.none (same.from bytes b);
  front = same_texts A B same.to same.from bytes place broken.front;
}

pub broken_behind : (T : List ℕ → Type 0) (front rest : List ℕ) (place : ℕ) → IsBroken (Behind T front) rest place → IsBroken T (front ++ rest) (length front + place)
broken_behind T front rest place broken =
    let fronts : (k : ℕ) → take (length front + k) (front ++ rest) ≡ front ++ take k rest = λ k. take-append-add front rest k in
    let b = broken.front.begins in
    record {
      none = broken.none;
      front = record {
        within = let w : place ≤ length rest = broken.front.within in omega (arith, length-append front rest);
        begins = record {
          text = front ++ b.text;
          is = b.is;
          rest = b.rest;
          begins = ap (λ (t : List ℕ). front ++ t) b.begins ∙ (sym (append_assoc front (take place rest) b.rest) ∙ ap (λ (t : List ℕ). t ++ b.rest) (sym (fronts place)));
        };
        longest = λ more within b. elim (cases_lt more (length front)) [
          | inl lt ↦ omega arith
          | inr le ↦
              let j : ℕ = more - length front in
              let e : more ≡ length front + j = omega arith in
              let cut : take more (front ++ rest) ≡ front ++ take j rest = ap (λ (k : ℕ). take k (front ++ rest)) e ∙ fronts j in
              let same : b.text ≡ front ++ (take j rest ++ b.rest) = b.begins ∙ (ap (λ (t : List ℕ). t ++ b.rest) cut ∙ append_assoc front (take j rest) b.rest) in
              let inside : j ≤ length rest = omega (arith, length-append front rest) in
              let bound : j ≤ place = broken.front.longest j inside (record { text = take j rest ++ b.rest; is = subst T same b.is; rest = b.rest; begins = refl }) in
              omega arith
        ];
      };
    }

-- each text of the kind begins with an item, and each item begins one
pub record BeginWith (Is T : List ℕ → Type 0) : Type 0 where
  pub first : (t : List ℕ) → T t → (item : List ℕ) × Is item × (rest : List ℕ) × (t ≡ item ++ rest)
  pub goes : (item : List ℕ) → Is item → (rest : List ℕ) × T (item ++ rest)

pub broken_item : (Is T : List ℕ → Type 0) → BeginWith Is T → (bytes : List ℕ) (place : ℕ) → NoneFirst Is bytes → IsLongestFront Is bytes place → IsBroken T bytes place
broken_item Is T begin bytes place none front = record {
  none = λ t. let f = begin.first bytes t in none f.0 f.2 f.1 f.3;
  front = record {
    within = front.within;
    begins =
        let b = front.begins in
        let g = begin.goes b.text b.is in
        record { text = b.text ++ g.0; is = g.1; rest = b.rest ++ g.0; begins = ap (λ (t : List ℕ). t ++ g.0) b.begins ∙ append_assoc (take place bytes) b.rest g.0 };
    longest = λ more within b.
        let f = begin.first b.text b.is in
        let same : f.0 ++ f.2 ≡ take more bytes ++ b.rest = sym f.3 ∙ b.begins in
        let long : length (take more bytes) ≡ more = length-take-le more bytes within in
        elim (cases_lt (length f.0) more) [
          | inl lt ↦
              let o = overlap (take more bytes) b.rest f.0 f.2 (sym same) (omega arith) in
              let whole : bytes ≡ f.0 ++ (o.0 ++ drop more bytes) =
              sym (take-append-drop more bytes) ∙ (ap (λ (t : List ℕ). t ++ drop more bytes) o.1 ∙ append_assoc f.0 o.0 (drop more bytes)) in
              absurd (none f.0 (o.0 ++ drop more bytes) f.1 whole)
          | inr le ↦
              let o = overlap f.0 f.2 (take more bytes) b.rest same (omega arith) in
              front.longest more within (record { text = f.0; is = f.1; rest = o.0; begins = o.1 })
        ];
  };
}

-- where only nothing may follow, more bytes are damage
pub broken_trail : (T : List ℕ → Type 0) → T [] → ((t : List ℕ) → T t → length t ≡ 0) → (bytes : List ℕ) → 0 < length bytes → IsBroken T bytes 0
broken_trail T is only bytes some = record {
  none = λ t. let e : length bytes ≡ 0 = only bytes t in omega arith;
  front = record {
    within = omega arith;
    begins = record { text = []; is = is; rest = []; begins = refl };
    longest = λ more within b.
        let e : length b.text ≡ 0 = only b.text b.is in
        omega (arith, length-take-le more bytes within, length-append (take more bytes) b.rest, ap length b.begins, e);
  };
}

pub at_begin : (T : List ℕ → Type 0) (bytes : List ℕ) → IsAt T bytes bytes T
at_begin T bytes = record { read = []; whole = refl; follows = record { to = λ t x. x; from = λ t x. x } }

pub at_more : (T : List ℕ → Type 0) (bytes rest : List ℕ) (L : List ℕ → Type 0) (front after : List ℕ) (M : List ℕ → Type 0)
    → IsAt T bytes rest L → rest ≡ front ++ after → AreSame (Behind L front) M → IsAt T bytes after M
at_more T bytes rest L front after M at is same =
    let joined : (t : List ℕ) → (at.read ++ front) ++ t ≡ at.read ++ (front ++ t) = λ t. append_assoc at.read front t in
    record {
      read = at.read ++ front;
      whole = at.whole ∙ (ap (λ (t : List ℕ). at.read ++ t) is ∙ sym (joined after));
      follows = record {
        to = λ t x. same.to t (at.follows.to (front ++ t) (subst T (joined t) x));
        from = λ t x. subst T (sym (joined t)) (at.follows.from (front ++ t) (same.from t x));
      };
    }

pub at_same : (T : List ℕ → Type 0) (bytes rest : List ℕ) (L M : List ℕ → Type 0) → IsAt T bytes rest L → AreSame L M → IsAt T bytes rest M
at_same T bytes rest L M at same = record {
  read = at.read;
  whole = at.whole;
  follows = record { to = λ t x. same.to t (at.follows.to t x); from = λ t x. at.follows.from t (same.from t x) };
}

pub at_broken : (T : List ℕ → Type 0) (bytes rest : List ℕ) (L : List ℕ → Type 0) (place whole : ℕ) → IsAt T bytes rest L → whole ≡ length bytes - length rest + place → IsBroken L rest place → IsBroken T bytes whole
at_broken T bytes rest L place whole at is broken =
    let behind : IsBroken (Behind T at.read) rest place = broken_same L (Behind T at.read) (record { to = at.follows.from; from = at.follows.to }) rest place broken in
    let all : IsBroken T (at.read ++ rest) (length at.read + place) = broken_behind T at.read rest place behind in
    let e : length at.read + place ≡ whole = omega (arith, length-append at.read rest, ap length at.whole) in
    subst (λ k. IsBroken T bytes k) e (subst (λ b. IsBroken T b (length at.read + place)) (sym at.whole) all)

pub at_done : (T : List ℕ → Type 0) (bytes rest : List ℕ) (L : List ℕ → Type 0) → IsAt T bytes rest L → L rest → T bytes
at_done T bytes rest L at is = subst T (sym at.whole) (at.follows.from rest is)

pub at_within : (T : List ℕ → Type 0) (bytes rest : List ℕ) (L : List ℕ → Type 0) → IsAt T bytes rest L → length rest ≤ length bytes
at_within T bytes rest L at = omega (arith, length-append at.read rest, ap length at.whole)
