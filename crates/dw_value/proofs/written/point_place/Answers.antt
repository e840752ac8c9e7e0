use Rattle.std.proofs.Common.{◌≡◌, ◌∙◌, ℕ, suc, ◌<◌, Bool, false, ◌||◌, List, [], ◌∷◌, length, get_or, refl, sym, ap, arith}
use Rattle.std.specs.List.{list_any}
use Rattle.std.proofs.lemmas.Bool.{eq-eqb, lt-leb}
use Rattle.std.proofs.lemmas.List.Sums.{position_or_len_is}
use Rattle.dw_value.specs.Written.{is_point}
use Rattle.dw_value.proofs.written.point_place.Goals as goal

no_point : (text : List ℕ) → ((k : ℕ) → k < length text → is_point (get_or text k 0) ≡ false) → list_any is_point text ≡ false
no_point [] none = refl
no_point (byte ∷ rest) none =
    ap (λ (b : Bool). b || list_any is_point rest) (none 0 (omega arith)) ∙ no_point rest (λ k h. none (suc k) (omega arith))

pub returns-else-text-place-ne46-clause-place : goal.returns-else-text-place-ne46-clause-place
returns-else-text-place-ne46-clause-place c =
    sym (position_or_len_is is_point c.args.text.now c.loop-place.place 0 c.loop-place.invariant.within c.loop-place.invariant.none
    (λ h. eq-eqb (get_or c.args.text.now c.loop-place.place 0) 46 (omega arith)))

pub returns-after-loop-place-clause-place : goal.returns-after-loop-place-clause-place
returns-after-loop-place-clause-place c =
    sym (position_or_len_is is_point c.args.text.now c.loop-place.place 0 c.loop-place.invariant.within c.loop-place.invariant.none
    (λ h. absurd (omega arith)))

pub returns-after-loop-place-clause-point : goal.returns-after-loop-place-clause-point
returns-after-loop-place-clause-point c =
    let none = no_point c.args.text.now (λ k h. c.loop-place.invariant.none k (omega arith)) in
    lt-leb (suc c.loop-place.place) (length c.args.text.now) (omega arith) ∙ sym none
