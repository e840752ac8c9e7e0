-- Two lists of values with one spelling are equal.
use Rattle.std.proofs.Common.{◌≡◌, ℕ, zero, suc, ◌+◌, ◌≤◌, ◌<◌, List, [], ◌∷◌, ◌++◌, length, refl, sym, ap, ◌∙◌, arith, length-append, Bool}
use Rattle.std.specs.Prelude.{All, replicate}
use Rattle.std.proofs.lemmas.List.Elements.{All-head}
use Rattle.dw_codec_plain.specs.Numbers.{low_bytes}
use Rattle.dw_codec_plain.proofs.Naturals.{length-low_bytes}
use Rattle.dw_codec_runs.specs.Runs.{Run, spelled_runs}
use Rattle.dw_codec_runs.proofs.RunsValues.{IsCode, runs_apart}
use Rattle.dw_codec_runs.proofs.RunsTails.{IsParted, parted}

module _ {X : Type 0} (same : X → X → Bool) (item : X → List ℕ) (IsValue : X → Type 0) (code : IsCode same item IsValue) where
  some_bytes : (v : X) (vs : List X) → 0 < length (spelled_runs same item (v ∷ vs))
  some_bytes v vs =
      let r : IsParted same item IsValue code v vs = parted same item IsValue code v vs in
      let head : List ℕ = low_bytes 2 (suc r.more) ++ item v in
      omega (arith, ap length r.spells, length-append head (spelled_runs same item r.others), length-append (low_bytes 2 (suc r.more)) (item v), length-low_bytes 2 (suc r.more))

  same_by : (fuel : ℕ) (vs ws : List X) → length vs ≤ fuel → length vs ≤ 65535 → length ws ≤ 65535 → All IsValue vs → All IsValue ws → spelled_runs same item vs ≡ spelled_runs same item ws → vs ≡ ws
  same_by fuel [] [] enough most most' fits fits' found = refl
  same_by fuel [] (w ∷ ws) enough most most' fits fits' found = absurd (omega (arith, some_bytes w ws, ap length found))
  same_by fuel (v ∷ vs) [] enough most most' fits fits' found = absurd (omega (arith, some_bytes v vs, ap length found))
  same_by zero (v ∷ vs) (w ∷ ws) enough most most' fits fits' found = absurd (omega arith)
  same_by (suc fuel) (v ∷ vs) (w ∷ ws) enough most most' fits fits' found =
      let r : IsParted same item IsValue code v vs = parted same item IsValue code v vs in
      let s : IsParted same item IsValue code w ws = parted same item IsValue code w ws in
      let counted : length (v ∷ vs) ≡ suc r.more + length r.others = r.counted in
      let counted' : length (w ∷ ws) ≡ suc s.more + length s.others = s.counted in
      let run : Run X = record { times = suc r.more; value = v } in
      let run' : Run X = record { times = suc s.more; value = w } in
      let one = runs_apart same item IsValue code run run' (spelled_runs same item r.others) (spelled_runs same item s.others) (omega arith) (omega arith)
      (All-head IsValue v vs fits) (All-head IsValue w ws fits') (sym r.spells ∙ (found ∙ s.spells)) in
      let behind : r.others ≡ s.others = same_by fuel r.others s.others (omega arith) (omega arith) (omega arith) (r.each fits) (s.each fits') one.1 in
      r.is ∙ (ap (λ (u : Run X). replicate u.times u.value ++ r.others) one.0 ∙ (ap (λ (t : List X). replicate (suc s.more) w ++ t) behind ∙ sym s.is))

  pub one_form : (vs ws : List X) → length vs ≤ 65535 → length ws ≤ 65535 → All IsValue vs → All IsValue ws → spelled_runs same item vs ≡ spelled_runs same item ws → vs ≡ ws
  one_form vs ws most most' fits fits' found = same_by (length vs) vs ws (omega arith) most most' fits fits' found
