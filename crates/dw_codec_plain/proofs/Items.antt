-- Values spelled one after another: how far bytes begin a spelling follows from how far they begin an item.
use Rattle.std.proofs.Common.{◌≡◌, ℕ, suc, ◌+◌, ◌-◌, ◌≤◌, ◌<◌, Option, Some, List, [], ◌∷◌, ◌++◌, length, take, drop, refl, sym, ap, ◌∙◌, append_assoc, arith, length-append, inl, inr, subst}
use Rattle.std.specs.Prelude.{All, replicate}
use Rattle.std.proofs.Math.Seq.{take-append-add}
use Rattle.std.proofs.lemmas.List.{append-nil, append_cancel_left, take-append-drop, length-take-le, length-replicate}
use Rattle.std.proofs.lemmas.List.Elements.{All-nil, All-cons, All-head, All-tail, All-replicate}
use Rattle.std.proofs.lemmas.Bool.{cases_lt}
use Rattle.dw_codec_plain.specs.Spelling.{spelled, IsListOf, IsItem, NoItem, IsLongestFront, IsDamagedAt}
use Rattle.dw_codec_plain.proofs.Fronts.{overlap}

-- no item begins another behind the same value
pub record IsPrefixFree {X : Type 0} (item : Option X → X → List ℕ) (IsValue : X → Type 0) : Type 0 where
  pub apart : (before : Option X) (v w : X) (x y : List ℕ) → IsValue v → IsValue w → item before v ++ x ≡ item before w ++ y → v ≡ w

-- the last of the values, or what was before them
abbrev pub last_of : {X : Type 0} → Option X → List X → Option X
last_of before [] = before
last_of before (v ∷ vs) = last_of (Some v) vs

pub last_of-push : {X : Type 0} (before : Option X) (vs : List X) (w : X) → last_of before (vs ++ w ∷ []) ≡ Some w
last_of-push before [] w = refl
last_of-push before (v ∷ vs) w = last_of-push (Some v) vs w

module _ {X : Type 0} (item : Option X → X → List ℕ) (IsValue : X → Type 0) where
  pub spelled-append : (before : Option X) (vs ws : List X) → spelled item before (vs ++ ws) ≡ spelled item before vs ++ spelled item (last_of before vs) ws
  spelled-append before [] ws = refl
  spelled-append before (v ∷ vs) ws =
      ap (λ (t : List ℕ). item before v ++ t) (spelled-append (Some v) vs ws)
      ∙ sym (append_assoc (item before v) (spelled item (Some v) vs) (spelled item (last_of (Some v) vs) ws))

  -- one more value
  pub spelled_push : (before now : Option X) (vs : List X) (w : X) → now ≡ last_of before vs → spelled item before (vs ++ w ∷ []) ≡ spelled item before vs ++ item now w
  spelled_push before now vs w is =
      spelled-append before vs (w ∷ [])
      ∙ ap (λ (t : List ℕ). spelled item before vs ++ t) (append-nil (item (last_of before vs) w) ∙ ap (λ (o : Option X). item o w) (sym is))

  -- where no item begins the bytes, the place of the damage is that in the item
  stops-none : (before : Option X) (bytes : List ℕ) (n : ℕ) (vs : List X) → NoItem item IsValue before bytes → IsListOf IsValue (suc n) vs → bytes ≡ spelled item before vs → ⊥
  stops-none before bytes n [] none are same = let e : 0 ≡ suc n = are.counted in cc
  stops-none before bytes n (v ∷ vs) none are same = none v (spelled item (Some v) vs) (All-head IsValue v vs are.each) same

  stops-longest : (before : Option X) (bytes : List ℕ) (n place : ℕ) → NoItem item IsValue before bytes → IsLongestFront (IsItem item IsValue before) bytes place
      → (more : ℕ) → more ≤ length bytes → (vs : List X) → IsListOf IsValue (suc n) vs → (rest : List ℕ) → spelled item before vs ≡ take more bytes ++ rest → more ≤ place
  stops-longest before bytes n place none front more within [] are rest same = let e : 0 ≡ suc n = are.counted in absurd (omega arith)
  stops-longest before bytes n place none front more within (v ∷ vs) are rest same =
      let fits : IsValue v = All-head IsValue v vs are.each in
      let tail : List ℕ = spelled item (Some v) vs in
      let long : length (take more bytes) ≡ more = length-take-le more bytes within in
      elim (cases_lt (length (item before v)) more) [
        | inl lt ↦
            let fitting : length (item before v) ≤ length (take more bytes) = omega arith in
            let o = overlap (take more bytes) rest (item before v) tail (sym same) fitting in
            let whole : bytes ≡ item before v ++ (o.0 ++ drop more bytes) =
            sym (take-append-drop more bytes) ∙ (ap (λ (t : List ℕ). t ++ drop more bytes) o.1 ∙ append_assoc (item before v) o.0 (drop more bytes)) in
            absurd (none v (o.0 ++ drop more bytes) fits whole)
        | inr le ↦
            let fitting : length (take more bytes) ≤ length (item before v) = omega arith in
            let o = overlap (item before v) tail (take more bytes) rest same fitting in
            front.longest more within (record { text = item before v; is = record { value = v; fits = fits; spells = refl }; rest = o.0; begins = o.1 })
      ]

  pub stops : (before : Option X) (bytes : List ℕ) (n place : ℕ) → NoItem item IsValue before bytes → IsLongestFront (IsItem item IsValue before) bytes place
      → IsDamagedAt (spelled item before) IsValue (suc n) bytes place
  stops before bytes n place none front =
      let i = front.begins.is in
      let others : List X = replicate n i.value in
      let more : List ℕ = spelled item (Some i.value) others in
      record {
        spells_none = λ s. stops-none before bytes n s.values none s.are s.spells;
        front = record {
          within = front.within;
          begins = record {
            text = item before i.value ++ more;
            is = record {
              values = i.value ∷ others;
              are = record { counted = ap suc (length-replicate n i.value); each = All-cons IsValue i.value others i.fits (All-replicate IsValue n i.value i.fits) };
              spells = refl;
            };
            rest = front.begins.rest ++ more;
            begins = ap (λ (t : List ℕ). t ++ more) (sym i.spells ∙ front.begins.begins) ∙ append_assoc (take place bytes) front.begins.rest more;
          };
          longest = λ more within b. stops-longest before bytes n place none front more within b.is.values b.is.are b.rest (sym b.is.spells ∙ b.begins);
        };
      }

  module _ (free : IsPrefixFree item IsValue) where
    -- an item at the front is the first value's
    pub goes-same : (before : Option X) (v : X) (rest x : List ℕ) (n : ℕ) (vs : List X) → IsValue v → IsListOf IsValue (suc n) vs → spelled item before vs ≡ (item before v ++ rest) ++ x
        → (ws : List X) × IsListOf IsValue n ws × (spelled item (Some v) ws ≡ rest ++ x)
    goes-same before v rest x n [] fits are same = let e : 0 ≡ suc n = are.counted in absurd cc
    goes-same before v rest x n (w ∷ ws) fits are same =
        let fits' : IsValue w = All-head IsValue w ws are.each in
        let regrouped : item before w ++ spelled item (Some w) ws ≡ item before v ++ (rest ++ x) = same ∙ append_assoc (item before v) rest x in
        let one : w ≡ v = free.apart before w v (spelled item (Some w) ws) (rest ++ x) fits' fits regrouped in
        let turned : item before v ++ spelled item (Some v) ws ≡ item before v ++ (rest ++ x) =
        subst (λ u. item before u ++ spelled item (Some u) ws ≡ item before v ++ (rest ++ x)) one regrouped in
        let counted : suc (length ws) ≡ suc n = are.counted in
        (ws, record { counted = cc; each = All-tail IsValue w ws are.each }, append_cancel_left (item before v) (spelled item (Some v) ws) (rest ++ x) turned)

    -- damage behind an item is damage of the whole
    pub goes : (before : Option X) (v : X) (bytes rest : List ℕ) (n place : ℕ) → IsValue v → bytes ≡ item before v ++ rest
        → IsDamagedAt (spelled item (Some v)) IsValue n rest place → IsDamagedAt (spelled item before) IsValue (suc n) bytes (length (item before v) + place)
    goes before v bytes rest n place fits is damaged =
        let P : List ℕ → Type 0 = λ b. IsDamagedAt (spelled item before) IsValue (suc n) b (length (item before v) + place) in
        let at : List ℕ = item before v in
        let fronts : (k : ℕ) → take (length at + k) (at ++ rest) ≡ at ++ take k rest = λ k. take-append-add at rest k in
        let b = damaged.front.begins in
        subst P (sym is) (record {
          spells_none = λ s.
              let r = goes-same before v rest [] n s.values fits s.are (sym s.spells ∙ sym (append-nil (at ++ rest))) in
              damaged.spells_none (record { values = r.0; are = r.1; spells = sym (r.2 ∙ append-nil rest) });
          front = record {
            within = let w : place ≤ length rest = damaged.front.within in omega (arith, length-append at rest);
            begins = record {
              text = at ++ spelled item (Some v) b.is.values;
              is = record {
                values = v ∷ b.is.values;
                are = record { counted = ap suc b.is.are.counted; each = All-cons IsValue v b.is.values fits b.is.are.each };
                spells = refl;
              };
              rest = b.rest;
              begins = ap (λ (t : List ℕ). at ++ t) (sym b.is.spells ∙ b.begins) ∙ (sym (append_assoc at (take place rest) b.rest) ∙ ap (λ (t : List ℕ). t ++ b.rest) (sym (fronts place)));
            };
            longest = λ more within b.
                elim (cases_lt more (length at)) [
                  | inl lt ↦ omega arith
                  | inr le ↦
                      let j : ℕ = more - length at in
                      let e : more ≡ length at + j = omega arith in
                      let cut : take more (at ++ rest) ≡ at ++ take j rest = ap (λ (k : ℕ). take k (at ++ rest)) e ∙ fronts j in
                      let same : spelled item before b.is.values ≡ (at ++ take j rest) ++ b.rest = sym b.is.spells ∙ (b.begins ∙ ap (λ (t : List ℕ). t ++ b.rest) cut) in
                      let r = goes-same before v (take j rest) b.rest n b.is.values fits b.is.are same in
                      let inside : j ≤ length rest = omega (arith, length-append at rest) in
                      let bound : j ≤ place = damaged.front.longest j inside (record { text = spelled item (Some v) r.0; is = record { values = r.0; are = r.1; spells = refl }; rest = b.rest; begins = r.2 }) in
                      omega arith
                ];
          };
        })

    -- damage behind some items is damage of the whole
    pub goes_on : (before : Option X) (vs : List X) (bytes rest : List ℕ) (n place : ℕ) → All IsValue vs → bytes ≡ spelled item before vs ++ rest
        → IsDamagedAt (spelled item (last_of before vs)) IsValue n rest place → IsDamagedAt (spelled item before) IsValue (length vs + n) bytes (length (spelled item before vs) + place)
    goes_on before [] bytes rest n place each is damaged =
        let zeros : (n ≡ 0 + n) × (place ≡ 0 + place) = (omega arith, omega arith) in
        subst (λ m. IsDamagedAt (spelled item before) IsValue m bytes (0 + place)) zeros.0
        (subst (λ m. IsDamagedAt (spelled item before) IsValue n bytes m) zeros.1 (subst (λ b. IsDamagedAt (spelled item before) IsValue n b place) (sym is) damaged))
    goes_on before (v ∷ vs) bytes rest n place each is damaged =
        let at : List ℕ = item before v in
        let behind : List ℕ = spelled item (Some v) vs in
        let inner : IsDamagedAt (spelled item (Some v)) IsValue (length vs + n) (behind ++ rest) (length behind + place) =
        goes_on (Some v) vs (behind ++ rest) rest n place (All-tail IsValue v vs each) refl damaged in
        let counted : suc (length vs + n) ≡ suc (length vs) + n = omega arith in
        let e : length at + (length behind + place) ≡ length (at ++ behind) + place = omega (arith, length-append at behind) in
        let outer : IsDamagedAt (spelled item before) IsValue (suc (length vs + n)) bytes (length at + (length behind + place)) =
        goes before v bytes (behind ++ rest) (length vs + n) (length behind + place) (All-head IsValue v vs each) (is ∙ append_assoc at behind rest) inner in
        subst (λ k. IsDamagedAt (spelled item before) IsValue (suc (length vs) + n) bytes k) e (subst (λ m. IsDamagedAt (spelled item before) IsValue m bytes (length at + (length behind + place))) counted outer)

    -- two lists of values with one spelling are equal, where no item is empty
    pub one_form : ((before : Option X) (v : X) → 0 < length (item before v)) → (before : Option X) (vs ws : List X) → All IsValue vs → All IsValue ws → spelled item before vs ≡ spelled item before ws → vs ≡ ws
    one_form full before [] [] fits fits' same = refl
    one_form full before [] (w ∷ ws) fits fits' same =
        absurd (omega (arith, full before w, length-append (item before w) (spelled item (Some w) ws), ap length same))
    one_form full before (v ∷ vs) [] fits fits' same =
        absurd (omega (arith, full before v, length-append (item before v) (spelled item (Some v) vs), ap length same))
    one_form full before (v ∷ vs) (w ∷ ws) fits fits' same =
        let one : v ≡ w = free.apart before v w (spelled item (Some v) vs) (spelled item (Some w) ws) (All-head IsValue v vs fits) (All-head IsValue w ws fits') same in
        let turned : item before w ++ spelled item (Some w) vs ≡ item before w ++ spelled item (Some w) ws =
        subst (λ u. item before u ++ spelled item (Some u) vs ≡ item before w ++ spelled item (Some w) ws) one same in
        let rests : spelled item (Some w) vs ≡ spelled item (Some w) ws = append_cancel_left (item before w) (spelled item (Some w) vs) (spelled item (Some w) ws) turned in
        let tails : vs ≡ ws = one_form full (Some w) vs ws (All-tail IsValue v vs fits) (All-tail IsValue w ws fits') rests in
        cc

  -- bytes behind the last value are damage
  pub trails : (before : Option X) (bytes : List ℕ) → 0 < length bytes → IsDamagedAt (spelled item before) IsValue 0 bytes 0
  trails before bytes some = record {
    spells_none = λ s. trails-none before bytes s.values some s.are (s.spells ∙ sym (append-nil (spelled item before s.values)));
    front = record {
      within = omega arith;
      begins = record { text = []; is = record { values = []; are = record { counted = refl; each = All-nil IsValue }; spells = refl }; rest = []; begins = refl };
      longest = λ more within b. trails-longest before bytes b.is.values more within b.is.are b.rest (sym b.is.spells ∙ b.begins);
    };
  } where
    trails-none : (before : Option X) (bytes : List ℕ) (vs : List X) → 0 < length bytes → IsListOf IsValue 0 vs → bytes ≡ spelled item before vs ++ [] → ⊥
    trails-none before bytes [] some are same = omega (arith, ap length same)
    trails-none before bytes (v ∷ vs) some are same = let e : suc (length vs) ≡ 0 = are.counted in cc

    trails-longest : (before : Option X) (bytes : List ℕ) (vs : List X) (more : ℕ) → more ≤ length bytes → IsListOf IsValue 0 vs → (rest : List ℕ) → spelled item before vs ≡ take more bytes ++ rest → more ≤ 0
    trails-longest before bytes [] more within are rest same =
        omega (arith, length-take-le more bytes within, length-append (take more bytes) rest, ap length same)
    trails-longest before bytes (v ∷ vs) more within are rest same = let e : suc (length vs) ≡ 0 = are.counted in absurd (omega arith)
