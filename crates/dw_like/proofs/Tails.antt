-- Tails of a text that pass a test.
use Rattle.std.specs.Prelude.{◌≡◌, ℕ, Bool, true, false, ◌||◌, List, [], ◌∷◌, ◌++◌}
use Rattle.std.proofs.Common.{refl, sym, ap, ◌∙◌, true≢false}
use Rattle.std.specs.List.{list_any}
use Rattle.dw_like.specs.Like.{tails}

-- a text cut in two, of which the latter part passes
pub record Cut (test : List ℕ → Bool) (text : List ℕ) : Type 0 where
  pub part : List ℕ
  pub tail : List ℕ
  pub is : part ++ tail ≡ text
  pub passes : test tail ≡ true

pub or_true : (left : Bool) → (left || true) ≡ true
or_true true = refl
or_true false = refl

pub left_true : (left right : Bool) → left ≡ true → (left || right) ≡ true
left_true left right h = ap (λ b. b || right) h

pub right_true : (left right : Bool) → right ≡ true → (left || right) ≡ true
right_true left right h = ap (λ b. left || b) h ∙ or_true left

-- the whole text is a tail of it
pub whole_passes : (test : List ℕ → Bool) (text : List ℕ) → test text ≡ true → list_any test (tails text) ≡ true
whole_passes test [] h = left_true (test []) false h
whole_passes test (c ∷ text) h = left_true (test (c ∷ text)) (list_any test (tails text)) h

pub tail_passes : (test : List ℕ → Bool) (part text : List ℕ) → test text ≡ true
    → list_any test (tails (part ++ text)) ≡ true
tail_passes test [] text h = whole_passes test text h
tail_passes test (c ∷ part) text h =
    right_true (test (c ∷ part ++ text)) (list_any test (tails (part ++ text))) (tail_passes test part text h)

cut_at_end : (test : List ℕ → Bool) (here : Bool) → test [] ≡ here → (here || false) ≡ true → Cut test []
cut_at_end test true e h = record { part = []; tail = []; is = refl; passes = e }
cut_at_end test false e h = absurd (true≢false (sym h))

cut_here : (test : List ℕ → Bool) (c : ℕ) (text : List ℕ) (here : Bool) → test (c ∷ text) ≡ here
    → (list_any test (tails text) ≡ true → Cut test text) → (here || list_any test (tails text)) ≡ true
    → Cut test (c ∷ text)
cut_here test c text true e later h = record { part = []; tail = c ∷ text; is = refl; passes = e }
cut_here test c text false e later h =
    let cut : Cut test text = later h in
    record { part = c ∷ cut.part; tail = cut.tail; is = ap (λ t. c ∷ t) cut.is; passes = cut.passes }

-- where some tail passes, the text is cut before it
pub Cut-tails : (test : List ℕ → Bool) (text : List ℕ) → list_any test (tails text) ≡ true → Cut test text
Cut-tails test [] h = cut_at_end test (test []) refl h
Cut-tails test (c ∷ text) h = cut_here test c text (test (c ∷ text)) refl (Cut-tails test text) h
