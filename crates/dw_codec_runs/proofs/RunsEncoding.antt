-- What an encoder's loop has written.
use Rattle.std.proofs.Common.{◌≡◌, ℕ, suc, ◌+◌, Some, List, ◌∷◌, ◌++◌, take, drop, sym, ap, ◌∙◌, append_assoc, arith, Bool}
use Rattle.std.specs.Prelude.{replicate}
use Rattle.std.proofs.lemmas.List.{take-append-drop}
use Rattle.dw_codec_plain.specs.Numbers.{low_bytes}
use Rattle.dw_codec_runs.specs.Runs.{run_bytes, spelled_runs, StartsOther}
use Rattle.dw_codec_runs.proofs.RunsValues.{IsCode}
use Rattle.dw_codec_runs.proofs.RunsTails.{spelled_runs-replicate}

-- one more run is written
pub encoding_goes_on : {X : Type 0} (same : X → X → Bool) (item : X → List ℕ) (IsValue : X → Type 0) → IsCode same item IsValue → (v : X) (others after : List X) (n : ℕ) (old new whole : List ℕ)
    → take n others ≡ replicate n v → after ≡ drop n others → StartsOther (Some v) after
    → old ++ spelled_runs same item (v ∷ others) ≡ whole → new ≡ old ++ run_bytes item (record { times = 1 + n; value = v }) → new ++ spelled_runs same item after ≡ whole
encoding_goes_on {X} same item IsValue code v others after n old new whole equal back other so_far is =
    let e : 1 + n ≡ suc n = omega arith in
    let parts : replicate n v ++ after ≡ others =
    ap (λ (t : List X). replicate n v ++ t) back ∙ (ap (λ (t : List X). t ++ drop n others) (sym equal) ∙ take-append-drop n others) in
    let run : List ℕ = low_bytes 2 (1 + n) ++ item v in
    let behind : run ++ spelled_runs same item after ≡ spelled_runs same item (v ∷ others) =
    ap (λ (k : ℕ). (low_bytes 2 k ++ item v) ++ spelled_runs same item after) e
    ∙ (sym (spelled_runs-replicate same item IsValue code n v after other) ∙ ap (λ (t : List X). spelled_runs same item (v ∷ t)) parts) in
    ap (λ (t : List ℕ). t ++ spelled_runs same item after) is
    ∙ (append_assoc old run (spelled_runs same item after) ∙ (ap (λ (t : List ℕ). old ++ t) behind ∙ so_far))
