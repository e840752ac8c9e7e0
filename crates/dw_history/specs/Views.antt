-- What a pass knows, as it begins and after each step.
use Rattle.std.specs.Prelude.{◌≡◌, ℕ, ◌+◌, true, false, List, [], ◌∷◌, ◌++◌, length, drop, Option, Some, None}
use Rattle.atomic_table.specs.declared.shared.Seat.{Seat}
use Rattle.dw_history.specs.declared.views.View.{View}
use Rattle.dw_history.specs.Histories.{longer}

module _ {E G : Type 0} where
  -- the pass 0 at the start
  abbrev pub first_view : G → View E G
  first_view own = record {
    is_spent = false;
    number = 0;
    own_ground = Some own;
    seen = [];
    mine = [];
    ticket = None;
    is_inside = false;
    made = 1;
    joined = [];
    met = ([], []);
  }

  abbrev pub spent_view : View E G
  spent_view = record {
    is_spent = true;
    number = 0;
    own_ground = None;
    seen = [];
    mine = [];
    ticket = None;
    is_inside = false;
    made = 0;
    joined = [];
    met = ([], []);
  }

  abbrev pub view_with_ticket : View E G → ℕ → View E G
  view_with_ticket view ticket = record view { ticket = Some ticket }

  -- it has the value, whose history is this
  abbrev pub view_inside : View E G → List E → View E G
  view_inside view history = record view { seen = history; is_inside = true }

  -- it has given the value back with this history
  abbrev pub view_after_turn : View E G → List E → View E G
  view_after_turn view history = record view {
    seen = history;
    mine = view.mine ++ drop (length view.seen) history;
    ticket = None;
    is_inside = false;
  }

  -- the pass 0 after it made one more
  abbrev pub view_after_split : View E G → View E G
  view_after_split view = record view { made = view.made + 1 }

  -- the pass that it made
  abbrev pub view_of_new : View E G → View E G
  view_of_new view = record {
    is_spent = false;
    number = view.made;
    own_ground = view.own_ground;
    seen = view.seen;
    mine = [];
    ticket = None;
    is_inside = false;
    made = 0;
    joined = [];
    met = ([], []);
  }

  -- the pass 0 after it took another in
  abbrev pub view_after_join : View E G → View E G → View E G
  view_after_join view other = record view {
    seen = longer view.seen other.seen;
    joined = view.joined ++ (other.number, other.mine) ∷ [];
    met = (view.seen, other.seen);
  }

module _ {S E G : Type 0} where
  -- between two calls a pass has no ticket, isn't inside and holds no slot, and no other pass took it in
  pub record IsIdle (seat : Seat (Option S) (View E G)) : Type 0 where
    pub unspent : seat.me.0.is_spent ≡ false
    pub no_ticket : seat.me.0.ticket ≡ None
    pub outside : seat.me.0.is_inside ≡ false
    pub no_slot : seat.me.1 ≡ []
