-- What the steps of one turn tell together.
use Rattle.std.proofs.Common.{◌≡◌, ℕ, Option, Some, List, [], ◌∷◌, ◌++◌, length, drop, refl, sym, ap, ◌∙◌, subst}
use Rattle.std.proofs.Math.Seq.{drop-append_seam}
use Rattle.atomic_table.specs.Table.{Me, rest}
use Rattle.dw_history.specs.declared.views.View.{View}
use Rattle.dw_history.specs.Histories.{IsFront, entries_of, AreOf, AppendsOnly}
use Rattle.dw_history.specs.Views.{view_with_ticket, view_inside, view_after_turn}
use Rattle.dw_history.specs.Steps.{Enters, Works, Advances}
use Rattle.dw_history.specs.Calls.{HasTurned}
use Rattle.dw_history.proofs.Fronts.{entries_grown}
use Rattle.dw_history.proofs.Seats.{some_value}
use Rattle.dw_history.proofs.Moves.{same_value}

-- of a seat that holds one slot
pub one_slot : {A : Type 0} (held : List (ℕ × A)) (value : A) → held ≡ (0, value) ∷ [] → held ≡ (0, value) ∷ rest held
one_slot held value e = e ∙ ap (λ (r : List (ℕ × _)). (0, value) ∷ r) (sym (ap rest e))

module _ {S E G : Type 0} (history_of : S → List E) (number_of : E → ℕ) (ground_of : S → G) (own : G) (outcome : G → List E → List E → Type 0) (number : ℕ) (old : View E G) (number_is : number ≡ old.number) (stands : old.own_ground ≡ Some own) where
  -- what the entries say of the view after
  flat : (x left : S) (ticket : ℕ) → old.own_ground ≡ Some (ground_of x) → IsFront old.seen (history_of x) → entries_of number_of old.number (history_of x) ≡ old.mine → AppendsOnly number_of number (history_of x) (history_of left)
      → outcome (ground_of x) (history_of x) (history_of left) → HasTurned number_of (outcome own) old (view_after_turn (view_inside (view_with_ticket old ticket) (history_of x)) (history_of left))
  flat x left ticket on front mine grows told =
      let entries : List E = grows.0 in
      let same_ground : ground_of x ≡ own = some_value (sym on ∙ stands) in
      let all : AreOf number_of old.number entries = subst (λ (n : ℕ). AreOf number_of n entries) number_is grows.2 in
      let new : drop (length (history_of x)) (history_of left) ≡ entries = ap (λ (l : List E). drop (length (history_of x)) l) grows.1 ∙ drop-append_seam (history_of x) entries in record {
        before = history_of x;
        entries = entries;
        continues = (front, mine);
        number = refl;
        made = refl;
        joined = refl;
        seen = grows.1;
        mine = ap (λ (l : List E). old.mine ++ l) new;
        own = all;
        all_own =
            ap (λ (l : List E). entries_of number_of old.number l) grows.1
            ∙ (entries_grown number_of old.number (history_of x) entries all
            ∙ (ap (λ (l : List E). l ++ entries) mine ∙ ap (λ (l : List E). old.mine ++ l) (sym new)));
        outcome_holds = subst (λ (l : List E). outcome own (history_of x) l) grows.1 (subst (λ (g : G). outcome g (history_of x) (history_of left)) same_ground told);
      }

  pub turned : (before one two after : Me (Option S) (View E G)) (ticket : ℕ) → before ≡ (view_with_ticket old ticket, []) → Enters history_of number_of ground_of before one → Works history_of number_of ground_of number outcome one two → Advances history_of two after
      → HasTurned number_of (outcome own) old after.0
  turned before one two after ticket is enters works advances =
      let P : Me (Option S) (View E G) → Type 0 = λ m. Enters history_of number_of ground_of m one in
      let ent : Enters history_of number_of ground_of (view_with_ticket old ticket, []) one = subst P is enters in
      let x : S = ent.0 in
      let same : x ≡ works.given = same_value x works.given (sym (ap (λ (m : Me (Option S) (View E G)). m.1) ent.1) ∙ works.held) in
      let grows : AppendsOnly number_of number (history_of x) (history_of works.left) = subst (λ (v : S). AppendsOnly number_of number (history_of v) (history_of works.left)) (sym same) works.grows in
      let told : outcome (ground_of x) (history_of x) (history_of works.left) = subst (λ (v : S). outcome (ground_of v) (history_of v) (history_of works.left)) (sym same) works.outcome_holds in
      let end : after ≡ (view_after_turn two.0 (history_of works.left), []) = advances works.left (ap (λ (m : Me (Option S) (View E G)). m.1) works.puts_back) in
      let middle : two.0 ≡ view_inside (view_with_ticket old ticket) (history_of x) = ap (λ (m : Me (Option S) (View E G)). m.0) works.puts_back ∙ ap (λ (m : Me (Option S) (View E G)). m.0) ent.1 in
      let view : view_after_turn (view_inside (view_with_ticket old ticket) (history_of x)) (history_of works.left) ≡ after.0 =
      ap (λ (v : View E G). view_after_turn v (history_of works.left)) (sym middle) ∙ sym (ap (λ (m : Me (Option S) (View E G)). m.0) end) in
      subst (λ (v : View E G). HasTurned number_of (outcome own) old v) view (flat x works.left ticket ent.2 ent.3 ent.4 grows told)
