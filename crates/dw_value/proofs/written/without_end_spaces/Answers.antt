use Rattle.std.proofs.Common.{◌≡◌, ◌∙◌, ℕ, zero, suc, ◌+◌, ◌-◌, ◌<◌, List, [], ◌∷◌, ◌++◌, length, get_or, take, sym, ap, subst, arith, length-take}
use Rattle.std.proofs.lemmas.Bool.{eqb-true, false≢true}
use Rattle.std.proofs.lemmas.List.{take_more, get_or-take}
use Rattle.dw_value.specs.Texts.{without_end_spaces}
use Rattle.dw_value.proofs.EndSpaces.{EndsInSpace, kept, one_less}
use Rattle.dw_value.proofs.written.without_end_spaces.Goals as goal

some : (text : List ℕ) (end : ℕ) → EndsInSpace (take end text) → 0 < end
some text zero e = absurd (false≢true e)
some text (suc end) e = omega arith

one_off : (text : List ℕ) (end : ℕ) → end < length text → EndsInSpace (take (end + 1) text) → without_end_spaces (take end text) ≡ without_end_spaces (take (end + 1) text)
one_off text end less e =
    let place : length (take (end + 1) text) - 1 ≡ end = omega (arith, length-take (end + 1) text) in
    let last : get_or text end 0 ≡ 32 =
    sym (get_or-take (end + 1) text end 0 (omega arith)) ∙ sym (ap (λ (n : ℕ). get_or (take (end + 1) text) n 0) place) ∙ eqb-true _ _ e in
    sym (one_less (take end text)) ∙ ap without_end_spaces (ap (λ (n : ℕ). take end text ++ n ∷ []) (sym last) ∙ sym (take_more text end 0 less))

pub loop-end-preserved : goal.loop-end-preserved
loop-end-preserved c =
    let text : List ℕ = c.args.text.now in
    let ends : EndsInSpace (take c.loop-end.end text) = sym c.ends_in_space.ensures ∙ c.loop-end-test.true in
    let least : 0 < c.loop-end.end = some text c.loop-end.end ends in
    let more : (c.loop-end.end - 1) + 1 ≡ c.loop-end.end = omega arith in
    record {
      within = omega (arith, c.loop-end.invariant.within);
      same = one_off text (c.loop-end.end - 1) (omega (arith, c.loop-end.invariant.within)) (subst (λ (n : ℕ). EndsInSpace (take n text)) (sym more) ends) ∙ ap (λ (n : ℕ). without_end_spaces (take n text)) more ∙ c.loop-end.invariant.same;
    }

pub returns : goal.returns
returns c = sym (kept (take c.loop-end.end c.args.text.now) (sym c.ends_in_space.ensures ∙ c.loop-end-test.false)) ∙ c.loop-end.invariant.same
