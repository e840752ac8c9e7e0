-- What the public calls say.
use Rattle.std.specs.Prelude.{◌≡◌, ℕ, ◌<◌, ◌≤◌, List, [], ◌++◌, Some, Contains}
use Rattle.dw_history.specs.declared.grown.Grown.{Ghosts}
use Rattle.dw_history.specs.declared.kept.Kept.{Kept}
use Rattle.dw_history.specs.declared.kept.Pass.{Pass}
use Rattle.dw_history.specs.declared.views.View.{View}
use Rattle.dw_history.specs.Histories.{IsFront, entries_of, AreOf}

module _ {V E G : Type 0} where
  -- the value that it began with
  abbrev pub origin : Kept V E G → V
  origin kept = kept.table.shared.key.value

  -- how many passes may be made of it, the pass 0 among them
  abbrev pub most_passes : Kept V E G → ℕ
  most_passes kept = kept.passes

module _ {V E G : Type 0} {B : Ghosts V E G} where
  -- what the pass knows
  abbrev pub known : Pass V E G B → View E G
  known pass = pass.seat.me.0

  -- the pass is one of this kept value
  abbrev pub IsPassOf : (V → G) → Kept V E G → Pass V E G B → Type 0
  IsPassOf ground_of kept pass =
      (pass.seat.table_id ≡ kept.table.shared.table_id) × ((known pass).own_ground ≡ Some (ground_of (origin kept)))

module _ {E G : Type 0} (number_of : E → ℕ) where
  -- the history begins with what the pass has seen, and the entries of its number are those that the pass made
  abbrev pub Continues : View E G → List E → Type 0
  Continues view history = IsFront view.seen history × (entries_of number_of view.number history ≡ view.mine)

  -- the need holds of every history that may be there when the pass has its turn
  abbrev pub MayTurn : (List E → Type 0) → View E G → Type 0
  MayTurn need view = (history : List E) → Continues view history → need history

  -- the pass has seen a history that begins so, with its own new entries at the end, and the act had this outcome
  pub record HasTurned (outcome : List E → List E → Type 0) (old new : View E G) : Type 0 where
    -- the history of the value that the act was given
    pub before : List E
    pub entries : List E
    pub continues : Continues old before
    pub number : new.number ≡ old.number
    pub made : new.made ≡ old.made
    pub joined : new.joined ≡ old.joined
    pub seen : new.seen ≡ before ++ entries
    pub mine : new.mine ≡ old.mine ++ entries
    pub own : AreOf number_of old.number entries
    pub all_own : entries_of number_of new.number new.seen ≡ new.mine
    pub outcome_holds : outcome before (before ++ entries)

  -- the history has the entries of the pass 0, of each pass that it took in, and no others
  pub record IsWhole (view : View E G) (history : List E) : Type 0 where
    pub seen : history ≡ view.seen
    pub mine : entries_of number_of 0 history ≡ view.mine
    pub theirs : (number : ℕ) (entries : List E) → Contains view.joined (number, entries)
        → entries_of number_of number history ≡ entries
    pub each : (number : ℕ) → 0 < number → number < view.made
        → Contains view.joined (number, entries_of number_of number history)
    pub no_others : (number : ℕ) → view.made ≤ number → entries_of number_of number history ≡ []
