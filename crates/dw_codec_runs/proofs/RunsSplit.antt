-- The runs of values: the first run, and the runs behind it.
use Rattle.std.proofs.Common.{◌≡◌, ℕ, zero, suc, Bool, true, false, Some, List, [], ◌∷◌, ◌++◌, refl, sym, ap, ◌∙◌, subst, inl, inr}
use Rattle.std.specs.Prelude.{replicate}
use Rattle.std.specs.Bool.{Decides}
use Rattle.std.proofs.lemmas.Bool.{cases_Bool, both_ways}
use Rattle.dw_codec_runs.specs.Runs.{Run, put_before, runs_of, StartsOther}

pub none_same : {X : Type 0} (v w : X) → Some v ≡ Some w → v ≡ w
none_same v w same = cc

module _ {X : Type 0} (same : X → X → Bool) (decides : (v w : X) → Decides (same v w) (v ≡ w)) where
  differ : (v w : X) → (Some v ≡ Some w → ⊥) → same v w ≡ false
  differ v w other = elim (cases_Bool (same v w)) [ inl t ↦ absurd (other (ap (λ (x : X). Some x) ((decides v w).0 t))) | inr f ↦ f ]

  put_equal : (n : ℕ) (v : X) (runs : List (Run X)) → put_before same v (record { times = n; value = v } ∷ runs) ≡ record { times = suc n; value = v } ∷ runs
  put_equal n v runs = let t : same v v ≡ true = (decides v v).1 refl in rw t refl

  put_other : (n : ℕ) (v w : X) (runs : List (Run X)) → (Some v ≡ Some w → ⊥) → put_before same v (record { times = n; value = w } ∷ runs) ≡ record { times = 1; value = v } ∷ record { times = n; value = w } ∷ runs
  put_other n v w runs other = let f : same v w ≡ false = differ v w other in rw f refl

  -- the first run has the first value
  first_of : (w : X) (runs : List (Run X)) → (n : ℕ) × (others : List (Run X)) × (put_before same w runs ≡ record { times = n; value = w } ∷ others)
  first_of w [] = (1, [], refl)
  first_of w (run ∷ runs) = elim (cases_Bool (same w run.value)) [
    | inl t ↦ (suc run.times, runs, rw t refl)
    | inr f ↦ (1, run ∷ runs, rw f refl)
  ]

  -- equal values, and behind them others, are a run and the runs of those
  pub runs_of-replicate : (n : ℕ) (v : X) (vs : List X) → StartsOther (Some v) vs → runs_of same (replicate (suc n) v ++ vs) ≡ record { times = suc n; value = v } ∷ runs_of same vs
  runs_of-replicate zero v [] other = refl
  runs_of-replicate zero v (w ∷ ws) other =
      let first = first_of w (runs_of same ws) in
      ap (put_before same v) first.2 ∙ (put_other first.0 v w first.1 other ∙ ap (λ (t : List (Run X)). record { times = 1; value = v } ∷ t) (sym first.2))
  runs_of-replicate (suc n) v vs other =
      ap (put_before same v) (runs_of-replicate n v vs other) ∙ put_equal (suc n) v (runs_of same vs)

  -- values begin with a run, as long as it goes
  pub record IsFirstRun (v : X) (vs : List X) : Type 0 where
    pub more : ℕ
    pub others : List X
    pub is : v ∷ vs ≡ replicate (suc more) v ++ others
    pub starts : StartsOther (Some v) others

  pub first_run : (v : X) (vs : List X) → IsFirstRun v vs
  first_run v [] = record { more = 0; others = []; is = refl; starts = tt }
  first_run v (w ∷ ws) = elim (cases_Bool (same v w)) [
    | inl t ↦
        let e : w ≡ v = sym ((decides v w).0 t) in
        let r : IsFirstRun v ws = subst (λ u. IsFirstRun u ws) e (first_run w ws) in
        record { more = suc r.more; others = r.others; is = ap (λ (u : X). v ∷ u ∷ ws) e ∙ ap (λ (t : List X). v ∷ t) r.is; starts = r.starts }
    | inr f ↦ record { more = 0; others = w ∷ ws; is = refl; starts = λ e. both_ways (same v w) f ((decides v w).1 (none_same v w e)) }
  ]
