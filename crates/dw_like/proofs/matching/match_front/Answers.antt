use Rattle.std.proofs.Common.{◌≡◌, ◌∷◌, ◌⊎◌, inl, inr, ap, ◌∙◌, rules}
use Rattle.std.specs.Str.{chars}
use Rattle.dw_like.proofs.Steps.{IsStep-over, like-at_many, tails-at_many, length-after}
use Rattle.dw_like.proofs.matching.match_front.Goals as goal

pub returns-then-wanted-eq-MANY : goal.returns-then-wanted-eq-MANY
returns-then-wanted-eq-MANY c =
    let step = c.loop-wanted.invariant.2 in
    let many = c.in-Some.ensures ∙ ap (λ w. w ∷ chars c.in-Some.after.now) c.if-wanted-eq-MANY.true in (
      like-at_many _ _ _ _ _ step many,
      tails-at_many _ _ _ _ _ step many,
      length-after _ _ _ _ _ _ step many,
      step.text_within,
    )

pub loop-wanted-preserved : goal.loop-wanted-preserved
loop-wanted-preserved c =
    let taken : (c.in-Some.wanted ≡ 95) ⊎ (c.in-Some-first.character ≡ c.in-Some.wanted) =
    elim c.if-character-wanted.either [ inl h ↦ inl h | inr h ↦ inr h.1 ] in (
      search rules,
      search rules,
      IsStep-over _ _ _ _ _ _ _ _ c.loop-wanted.invariant.2 c.in-Some-first.ensures c.in-Some.ensures
          c.if-wanted-eq-MANY.false taken,
    )
