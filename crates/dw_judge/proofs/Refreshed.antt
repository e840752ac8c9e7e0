-- The summary stands for the history after a refresh.
use Rattle.std.proofs.Common.{◌≡◌, ℕ, zero, suc, ◌<◌, Bool, true, false, List, [], ◌∷◌, ◌++◌, length, reverse, refl, sym, ap, subst, ◌∙◌, arith}
use Rattle.std.specs.Prelude.{Option, Some, None, slice_get, if◌then◌else◌, ◌==◌}
use Rattle.std.proofs.Math.ListN.{set}
use Rattle.std.proofs.lemmas.Bool.{eqb-true, eqb-false}
use Rattle.dw_journal.specs.declared.Event.{Event}
use Rattle.dw_journal.specs.declared.Event.TheVariants.{Refresh}
use Rattle.dw_journal.specs.History.{History, with_event}
use Rattle.dw_judge.specs.declared.summaries.Summary.{Summary}
use Rattle.dw_judge.specs.Summaries.{StandsFor, stamp_kept}
use Rattle.dw_judge.proofs.Happening.{IsKept-other}

-- a cluster without a stamp changes nothing
pub stamp_kept-more : (stamps : List (Option ℕ)) (cluster : ℕ) → stamp_kept (stamps ++ None ∷ []) cluster ≡ stamp_kept stamps cluster
stamp_kept-more [] zero = refl
stamp_kept-more [] (suc cluster) = refl
stamp_kept-more (stamp ∷ stamps) zero = refl
stamp_kept-more (stamp ∷ stamps) (suc cluster) = stamp_kept-more stamps cluster

stamp_kept-same : (stamps : List (Option ℕ)) (cluster stamp : ℕ) → cluster < length stamps → stamp_kept (set stamps cluster (Some stamp)) cluster ≡ Some stamp
stamp_kept-same [] cluster stamp within = absurd (omega arith)
stamp_kept-same (x ∷ stamps) zero stamp within = refl
stamp_kept-same (x ∷ stamps) (suc cluster) stamp within = stamp_kept-same stamps cluster stamp (omega arith)

stamp_kept-other : (stamps : List (Option ℕ)) (cluster other stamp : ℕ) → (cluster ≡ other → ⊥) → stamp_kept (set stamps cluster (Some stamp)) other ≡ stamp_kept stamps other
stamp_kept-other [] cluster other stamp apart = refl
stamp_kept-other (x ∷ stamps) zero zero stamp apart = absurd (apart refl)
stamp_kept-other (x ∷ stamps) zero (suc other) stamp apart = refl
stamp_kept-other (x ∷ stamps) (suc cluster) zero stamp apart = refl
stamp_kept-other (x ∷ stamps) (suc cluster) (suc other) stamp apart = stamp_kept-other stamps cluster other stamp (λ same. apart (ap suc same))

stamp_by : (stamps : List (Option ℕ)) (cluster other stamp : ℕ) (b : Bool) (before : Option ℕ) → cluster < length stamps → (cluster == other) ≡ b → stamp_kept stamps other ≡ before
    → stamp_kept (set stamps cluster (Some stamp)) other ≡ (if b then Some stamp else before)
stamp_by stamps cluster other stamp true before within is same =
    subst (λ (n : ℕ). stamp_kept (set stamps cluster (Some stamp)) n ≡ Some stamp) (eqb-true cluster other is) (stamp_kept-same stamps cluster stamp within)
stamp_by stamps cluster other stamp false before within is same = stamp_kept-other stamps cluster other stamp (eqb-false cluster other is) ∙ same

pub stands_refreshed : (events : List Event) (history : History) (summary : Summary) → StandsFor events history summary → (event : Event) (cluster stamp : ℕ) → event ≡ Refresh cluster stamp
    → (roomy : List (Option ℕ)) → ((other : ℕ) → stamp_kept roomy other ≡ stamp_kept summary.stamps.items other) → cluster < length roomy → (changed : Summary)
    → changed.sessions ≡ summary.sessions → changed.horizons ≡ summary.horizons → changed.commits ≡ summary.commits → changed.database ≡ summary.database
    → changed.stamps.items ≡ set roomy cluster (Some stamp) → StandsFor events (with_event history event) changed
stands_refreshed events history summary stands event cluster stamp is roomy same within changed sessions_are horizons_are done_are newest stamped =
    subst (λ (e : Event). StandsFor events (with_event history e) changed) (sym is) (record {
      number = ap (λ s. length s.items) sessions_are ∙ stands.number;
      as_many = ap (λ h. length h.items) horizons_are ∙ stands.as_many;
      each = λ session kept at. IsKept-other events history (Refresh cluster stamp) session kept refl
          (stands.each session kept (ap (λ s. slice_get s.items session) (sym sessions_are) ∙ at));
      horizons = λ session due at. stands.horizons session due (ap (λ h. slice_get h.items session) (sym horizons_are) ∙ at);
      certified_are = ap (λ c. reverse c.items) done_are ∙ stands.certified_are;
      newest = newest ∙ stands.newest;
      stamps = λ other. ap (λ (s : List (Option ℕ)). stamp_kept s other) stamped
          ∙ stamp_by roomy cluster other stamp (cluster == other) _ within refl (same other ∙ stands.stamps other);
    })
