-- No cluster is attached: statements are worked on here.
use Rattle.std.proofs.Common.{◌≡◌, ℕ, Bool, true, false, ◌&&◌, List, [], ◌∷◌, refl, ap}
use Rattle.std.specs.Prelude.{Option, Some, None, if◌then◌else◌, nat_lt}
use Rattle.std.specs.List.{find, range_with_len}
use Rattle.dw_model.specs.declared.statements.Statement.{Statement}
use Rattle.dw_journal.specs.declared.Route.TheVariants.{Main, Cluster}
use Rattle.dw_journal.specs.History.{History}
use Rattle.dw_journal.specs.Routes.{can_take, cluster_or_main, may_leave, open_on, refreshed, shows}
use Rattle.dw_core.specs.DueEvents.{route_for}

module _ (history : History) (unattached : (cluster : ℕ) → refreshed cluster history.events ≡ None) where
  none_takes : (snapshot : ℕ) (clusters : List ℕ) → find (can_take history snapshot) clusters ≡ None
  none_takes snapshot [] = refl
  none_takes snapshot (cluster ∷ clusters) =
      let e : can_take history snapshot cluster ≡ false =
      ap (λ (stamp : Option ℕ). shows stamp snapshot && nat_lt (open_on history (Cluster cluster)) history.shape.slots) (unattached cluster) in
      rw e (none_takes snapshot clusters)

  either : (b : Bool) (found : Option ℕ) → found ≡ None → (if b then cluster_or_main found else Main) ≡ Main
  either true found none = ap cluster_or_main none
  either false found none = refl

  -- where no cluster is attached, statements are worked on by the main nodes
  pub route_main : (session snapshot : ℕ) (statement : Option Statement) → route_for history session snapshot statement ≡ Main
  route_main session snapshot None = refl
  route_main session snapshot (Some statement) =
      either (may_leave history session statement) (find (can_take history snapshot) (range_with_len 1 history.shape.clusters)) (none_takes snapshot (range_with_len 1 history.shape.clusters))
