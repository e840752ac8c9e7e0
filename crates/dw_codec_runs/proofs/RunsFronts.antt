-- Texts of a head and of what may stand behind it: how far bytes begin such a text.
use Rattle.std.proofs.Common.{◌≡◌, ℕ, ◌+◌, ◌-◌, ◌≤◌, Option, None, List, ◌++◌, length, take, drop, refl, sym, ap, ◌∙◌, append_assoc, arith, length-append, inl, inr, subst}
use Rattle.std.proofs.Math.Seq.{take-append-add}
use Rattle.std.proofs.lemmas.List.{append_cancel_left, take-append-drop, length-take-le}
use Rattle.std.proofs.lemmas.Bool.{cases_lt}
use Rattle.dw_codec_plain.specs.Spelling.{IsItem, NoItem, IsLongestFront}
use Rattle.dw_codec_plain.proofs.Fronts.{overlap}

-- the text is a head that fits, and behind it a text that may stand behind that head
pub record IsJoined {H : Type 0} (item : Option H → H → List ℕ) (Fits : H → Type 0) (Rest : H → List ℕ → Type 0) (text : List ℕ) : Type 0 where
  pub head : H
  pub fits : Fits head
  pub behind : List ℕ
  pub is : Rest head behind
  pub spells : text ≡ item None head ++ behind

module _ {H : Type 0} (item : Option H → H → List ℕ) (Fits : H → Type 0) (Rest : H → List ℕ → Type 0) where
  stop-longest : (bytes : List ℕ) (place more : ℕ) → NoItem item Fits None bytes → IsLongestFront (IsItem item Fits None) bytes place → more ≤ length bytes
      → (h : H) (behind rest : List ℕ) → Fits h → item None h ++ behind ≡ take more bytes ++ rest → more ≤ place
  stop-longest bytes place more none front within h behind rest fits same =
      let long : length (take more bytes) ≡ more = length-take-le more bytes within in
      elim (cases_lt (length (item None h)) more) [
        | inl lt ↦
            let fitting : length (item None h) ≤ length (take more bytes) = omega arith in
            let o = overlap (take more bytes) rest (item None h) behind (sym same) fitting in
            let whole : bytes ≡ item None h ++ (o.0 ++ drop more bytes) =
            sym (take-append-drop more bytes) ∙ (ap (λ (t : List ℕ). t ++ drop more bytes) o.1 ∙ append_assoc (item None h) o.0 (drop more bytes)) in
            absurd (none h (o.0 ++ drop more bytes) fits whole)
        | inr le ↦
            let fitting : length (take more bytes) ≤ length (item None h) = omega arith in
            let o = overlap (item None h) behind (take more bytes) rest same fitting in
            front.longest more within (record { text = item None h; is = record { value = h; fits = fits; spells = refl }; rest = o.0; begins = o.1 })
      ]

  -- where no head begins the bytes, they begin such a text as far as they begin a head
  pub stop_front : (bytes : List ℕ) (place : ℕ) → NoItem item Fits None bytes → IsLongestFront (IsItem item Fits None) bytes place → ((h : H) → Fits h → (rest : List ℕ) × Rest h rest)
      → IsLongestFront (IsJoined item Fits Rest) bytes place
  stop_front bytes place none front some =
      let i = front.begins.is in
      let more = some i.value i.fits in
      record {
        within = front.within;
        begins = record {
          text = item None i.value ++ more.0;
          is = record { head = i.value; fits = i.fits; behind = more.0; is = more.1; spells = refl };
          rest = front.begins.rest ++ more.0;
          begins = ap (λ (t : List ℕ). t ++ more.0) (sym i.spells ∙ front.begins.begins) ∙ append_assoc (take place bytes) front.begins.rest more.0;
        };
        longest = λ more within b. stop-longest bytes place more none front within b.is.head b.is.behind b.rest b.is.fits (sym b.is.spells ∙ b.begins);
      }

  -- behind a head, they begin such a text as far as the bytes behind begin what may stand there
  pub go_front : (bytes : List ℕ) (h : H) (rest : List ℕ) (place : ℕ) → Fits h → bytes ≡ item None h ++ rest
      → ((g : H) (x y : List ℕ) → Fits g → item None g ++ x ≡ item None h ++ y → g ≡ h)
      → IsLongestFront (Rest h) rest place → IsLongestFront (IsJoined item Fits Rest) bytes (length (item None h) + place)
  go_front bytes h rest place fits is apart front =
      let at : List ℕ = item None h in
      let fronts : (k : ℕ) → take (length at + k) (at ++ rest) ≡ at ++ take k rest = λ k. take-append-add at rest k in
      let b = front.begins in
      subst (λ t. IsLongestFront (IsJoined item Fits Rest) t (length at + place)) (sym is) (record {
        within = let w : place ≤ length rest = front.within in omega (arith, length-append at rest);
        begins = record {
          text = at ++ b.text;
          is = record { head = h; fits = fits; behind = b.text; is = b.is; spells = refl };
          rest = b.rest;
          begins = ap (λ (t : List ℕ). at ++ t) b.begins ∙ (sym (append_assoc at (take place rest) b.rest) ∙ ap (λ (t : List ℕ). t ++ b.rest) (sym (fronts place)));
        };
        longest = λ more within x.
            elim (cases_lt more (length at)) [
              | inl lt ↦ omega arith
              | inr le ↦
                  let j : ℕ = more - length at in
                  let e : more ≡ length at + j = omega arith in
                  let cut : take more (at ++ rest) ≡ at ++ take j rest = ap (λ (k : ℕ). take k (at ++ rest)) e ∙ fronts j in
                  let g : H = x.is.head in
                  let same : item None g ++ x.is.behind ≡ at ++ (take j rest ++ x.rest) =
                  sym x.is.spells ∙ (x.begins ∙ (ap (λ (t : List ℕ). t ++ x.rest) cut ∙ append_assoc at (take j rest) x.rest)) in
                  let one : g ≡ h = apart g x.is.behind (take j rest ++ x.rest) x.is.fits same in
                  let turned : at ++ x.is.behind ≡ at ++ (take j rest ++ x.rest) = subst (λ u. item None u ++ x.is.behind ≡ at ++ (take j rest ++ x.rest)) one same in
                  let inside : j ≤ length rest = omega (arith, length-append at rest) in
                  let bound : j ≤ place = front.longest j inside (record {
                    text = x.is.behind;
                    is = subst (λ u. Rest u x.is.behind) one x.is.is;
                    rest = x.rest;
                    begins = append_cancel_left at x.is.behind (take j rest ++ x.rest) turned;
                  }) in
                  omega arith
            ];
      })
