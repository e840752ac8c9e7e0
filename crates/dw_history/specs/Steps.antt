-- What each kind of step tells the pass that takes it.
use Rattle.std.specs.Prelude.{◌≡◌, ◌≢◌, ℕ, true, false, List, [], ◌∷◌, Option, Some}
use Rattle.atomic_table.specs.Table.{Me}
use Rattle.dw_history.specs.declared.views.View.{View}
use Rattle.dw_history.specs.Histories.{IsFront, entries_of, AppendsOnly}
use Rattle.dw_history.specs.Views.{view_with_ticket, view_inside, view_after_turn}

module _ {S E G : Type 0} where
  -- it drew the ticket that it found
  abbrev pub Draws : Me (Option S) (View E G) → ℕ → Me (Option S) (View E G) → Type 0
  Draws before found after = after ≡ (view_with_ticket before.0 found, before.1)

  -- it waits for its turn with this ticket
  abbrev pub IsWaiting : ℕ → Me (Option S) (View E G) → Type 0
  IsWaiting ticket me =
      (me.0.ticket ≡ Some ticket) × (me.0.is_spent ≡ false) × (me.0.is_inside ≡ false) × (me.1 ≡ [])

  -- it gave back the value that it held
  abbrev pub Advances : (S → List E) → Me (Option S) (View E G) → Me (Option S) (View E G) → Type 0
  Advances history_of before after =
      (value : S) → before.1 ≡ (0, Some value) ∷ [] → after ≡ (view_after_turn before.0 (history_of value), [])

  -- nothing changed; and what a join put together begins what is seen
  abbrev pub Compares : Me (Option S) (View E G) → Me (Option S) (View E G) → Type 0
  Compares before after =
      (after ≡ before) × IsFront before.0.met.0 before.0.seen × IsFront before.0.met.1 before.0.seen

module _ {S E G : Type 0} (history_of : S → List E) (number_of : E → ℕ) (ground_of : S → G) where
  -- it is inside and has the value, whose history begins with what it had seen and has its own entries of its number
  abbrev pub Enters : Me (Option S) (View E G) → Me (Option S) (View E G) → Type 0
  Enters before after =
      (value : S) × (after ≡ (view_inside before.0 (history_of value), (0, Some value) ∷ []))
      × (before.0.own_ground ≡ Some (ground_of value)) × IsFront before.0.seen (history_of value)
      × (entries_of number_of before.0.number (history_of value) ≡ before.0.mine)

  -- where the number that it found is its ticket it is inside
  abbrev pub Looks : Me (Option S) (View E G) → ℕ → Me (Option S) (View E G) → Type 0
  Looks before found after =
      (before.0.ticket ≡ Some found → Enters before after) × (before.0.ticket ≢ Some found → Compares before after)

  -- the act of this number was done once on the value that the seat holds, with this outcome
  pub record Works (number : ℕ) (outcome : G → List E → List E → Type 0)
      (before after : Me (Option S) (View E G)) : Type 0 where
    pub given : S
    pub left : S
    pub held : before.1 ≡ (0, Some given) ∷ []
    pub puts_back : after ≡ (before.0, (0, Some left) ∷ [])
    pub stands : ground_of left ≡ ground_of given
    pub grows : AppendsOnly number_of number (history_of given) (history_of left)
    pub outcome_holds : outcome (ground_of given) (history_of given) (history_of left)

  -- the seat is inside with this ticket, and its value's history is what it has seen with its own entries after it
  pub record MayLeave (ticket : ℕ) (me : Me (Option S) (View E G)) : Type 0 where
    pub value : S
    pub held : me.1 ≡ (0, Some value) ∷ []
    pub unspent : me.0.is_spent ≡ false
    pub served : me.0.ticket ≡ Some ticket
    pub within : me.0.is_inside ≡ true
    pub stands : me.0.own_ground ≡ Some (ground_of value)
    pub grows : AppendsOnly number_of me.0.number me.0.seen (history_of value)
