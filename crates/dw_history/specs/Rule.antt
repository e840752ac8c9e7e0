-- The rule that holds between any two steps. Words: 0 is the number of the turn that is served, 1 the next ticket.
-- Slot 0 has the value, or None while a pass works on it.
use Rattle.std.specs.Prelude.{◌≡◌, ◌⊎◌, ℕ, ◌+◌, ◌%◌, ◌^◌, ◌<◌, ◌≤◌, Bool, true, false, List, [], ◌∷◌, length, Option, Some, None, Contains}
use mathlib.Core.Option.{some, none}
use lib.ListN.{get_elem?}
use Rattle.atomic_table.specs.Table.{State}
use Rattle.dw_history.specs.declared.views.View.{View}
use Rattle.dw_history.specs.Histories.{IsFront, entries_of}

abbrev pub one_if_some : Option ℕ → ℕ
one_if_some None = 0
one_if_some (Some ticket) = 1

abbrev pub one_if : Bool → ℕ
one_if true = 1
one_if false = 0

-- what f gives of each element, added up
abbrev pub total : {A : Type 0} → (A → ℕ) → List A → ℕ
total f [] = 0
total f (x ∷ xs) = f x + total f xs

module _ {E G : Type 0} where
  -- the seat has a view, and no other seat took it in
  abbrev pub IsSeated : List (View E G) → ℕ → View E G → Type 0
  IsSeated views seat view = (get_elem? views seat ≡ some view) × (view.is_spent ≡ false)

  -- how many views have a ticket
  abbrev pub count_of_tickets : List (View E G) → ℕ
  count_of_tickets views = total (λ view. one_if_some view.ticket) views

  -- the seat has a view that another seat took in
  abbrev pub IsTakenIn : List (View E G) → ℕ → Type 0
  IsTakenIn views seat = (view : View E G) × (get_elem? views seat ≡ some view) × (view.is_spent ≡ true)

  -- how many views other seats took in
  abbrev pub count_of_spent : List (View E G) → ℕ
  count_of_spent views = total (λ view. one_if view.is_spent) views

  -- no two views have the same ticket
  abbrev pub AreApart : List (View E G) → Type 0
  AreApart views =
      (seat other : ℕ) (one two : View E G) (ticket : ℕ) → IsSeated views seat one → IsSeated views other two
      → one.ticket ≡ Some ticket → two.ticket ≡ Some ticket → seat ≡ other

module _ {E G : Type 0} (number_of : E → ℕ) where
  -- what holds of the view of one seat
  pub record Fits (own : G) (history : List E) (turns tickets seat : ℕ) (view : View E G) : Type 0 where
    pub number : view.number ≡ seat
    pub stands : view.own_ground ≡ Some own
    pub seen : IsFront view.seen history
    pub met : IsFront view.met.0 view.seen × IsFront view.met.1 view.seen
    pub mine : entries_of number_of seat history ≡ view.mine
    pub drawn : (ticket : ℕ) → view.ticket ≡ Some ticket
        → (place : ℕ) × (place < tickets) × (ticket ≡ (turns + place) % 2 ^ 64)
    pub inside : view.is_inside ≡ true → (view.ticket ≡ Some (turns % 2 ^ 64)) × (view.seen ≡ history)

  -- what the pass 0 knows of the others
  pub record Counts (history : List E) (views : List (View E G)) (view : View E G) : Type 0 where
    pub made : view.made ≡ length views
    pub taken : length view.joined ≡ count_of_spent views
    pub kept : (number : ℕ) (entries : List E) → Contains view.joined (number, entries)
        → (entries_of number_of number history ≡ entries) × IsTakenIn views number
    pub found : (number : ℕ) → IsTakenIn views number
        → Contains view.joined (number, entries_of number_of number history)

module _ {S E G : Type 0} (history_of : S → List E) (ground_of : S → G) where
  -- the value is in its place, and nobody is inside
  abbrev pub IsHome : G → List E → State (Option S) (View E G) → Type 0
  IsHome own history s =
      (value : S) × (s.homes ≡ some (Some value) ∷ []) × (history_of value ≡ history) × (ground_of value ≡ own)
      × ((seat : ℕ) (view : View E G) → IsSeated s.views seat view → view.is_inside ≡ false)

-- somebody is inside, and has the value's place
abbrev pub IsOut : {S E G : Type 0} → State (Option S) (View E G) → Type 0
IsOut {S} {E} {G} s =
    (seat : ℕ) × (view : View E G) × IsSeated s.views seat view × (view.is_inside ≡ true) × (s.homes ≡ none ∷ [])

module _ {S E G : Type 0} (history_of : S → List E) (number_of : E → ℕ) (ground_of : S → G) where
  pub record IsOneHistory (own : G) (s : State (Option S) (View E G)) : Type 0 where
    -- how many turns have ended
    pub turns : ℕ
    pub history : List E
    pub words : s.words ≡ turns % 2 ^ 64 ∷ (turns + count_of_tickets s.views) % 2 ^ 64 ∷ []
    pub few : length s.views < 2 ^ 32
    pub fits : (seat : ℕ) (view : View E G) → IsSeated s.views seat view
        → Fits number_of own history turns (count_of_tickets s.views) seat view
    pub apart : AreApart s.views
    pub longest : (seat : ℕ) × (view : View E G) × IsSeated s.views seat view × (view.seen ≡ history)
    pub first : (view : View E G) → get_elem? s.views 0 ≡ some view
        → (view.is_spent ≡ false) × Counts number_of history s.views view
    pub unmade : (number : ℕ) → length s.views ≤ number → entries_of number_of number history ≡ []
    pub value : IsHome history_of ground_of own history s ⊎ IsOut s
