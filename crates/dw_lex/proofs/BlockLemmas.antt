-- The comments that are open, one step of their reading after the other.
use Rattle.std.proofs.Common.{◌≡◌, ℕ, zero, suc, ◌+◌, ◌-◌, ◌<◌, ◌≤◌, true, false, ◌&&◌, eqb, None, List, [], ◌∷◌, length, drop, get_or, refl, sym, ◌∙◌, ap, arith}
use Rattle.std.proofs.lemmas.List.{drop_more, length-drop}
use Rattle.dw_lex.specs.Characters.{slash, star}
use Rattle.dw_lex.specs.Gaps.{blocks_end}

two_more : (bytes : List ℕ) (at : ℕ) → at + 1 < length bytes → drop at bytes ≡ get_or bytes at 0 ∷ get_or bytes (at + 1) 0 ∷ drop (at + 2) bytes
two_more bytes at lt =
    let n : at + 1 + 1 ≡ at + 2 = omega arith in
    drop_more bytes at 0 (omega arith)
    ∙ ap (λ (rest : List ℕ). get_or bytes at 0 ∷ rest) (drop_more bytes (at + 1) 0 lt ∙ ap (λ (k : ℕ). get_or bytes (at + 1) 0 ∷ drop k bytes) n)

pub ends_step : (bytes : List ℕ) (at blocks : ℕ) → at + 1 < length bytes → 0 < blocks → eqb (get_or bytes at 0) star && eqb (get_or bytes (at + 1) 0) slash ≡ true
    → blocks_end blocks (drop at bytes) (at + 2) ≡ blocks_end (blocks - 1) (drop (at + 2) bytes) (at + 2 + 2)
ends_step bytes at zero lt some h = absurd (omega arith)
ends_step bytes at (suc blocks) lt some h =
    let less : suc blocks - 1 ≡ blocks = omega arith in
    ap (λ (rest : List ℕ). blocks_end (suc blocks) rest (at + 2)) (two_more bytes at lt) ∙ rw (h, less) refl

pub opens_step : (bytes : List ℕ) (at blocks : ℕ) → at + 1 < length bytes → 0 < blocks → eqb (get_or bytes at 0) star && eqb (get_or bytes (at + 1) 0) slash ≡ false
    → eqb (get_or bytes at 0) slash && eqb (get_or bytes (at + 1) 0) star ≡ true
    → blocks_end blocks (drop at bytes) (at + 2) ≡ blocks_end (blocks + 1) (drop (at + 2) bytes) (at + 2 + 2)
opens_step bytes at zero lt some h k = absurd (omega arith)
opens_step bytes at (suc blocks) lt some h k =
    let more : suc blocks + 1 ≡ suc (suc blocks) = omega arith in
    ap (λ (rest : List ℕ). blocks_end (suc blocks) rest (at + 2)) (two_more bytes at lt) ∙ rw (h, k, more) refl

pub other_step : (bytes : List ℕ) (at blocks : ℕ) → at + 1 < length bytes → 0 < blocks → eqb (get_or bytes at 0) star && eqb (get_or bytes (at + 1) 0) slash ≡ false
    → eqb (get_or bytes at 0) slash && eqb (get_or bytes (at + 1) 0) star ≡ false
    → blocks_end blocks (drop at bytes) (at + 2) ≡ blocks_end blocks (drop (at + 1) bytes) (at + 1 + 2)
other_step bytes at zero lt some h k = absurd (omega arith)
other_step bytes at (suc blocks) lt some h k =
    let n : at + 1 + 1 ≡ at + 2 = omega arith in
    let rest : drop (at + 1) bytes ≡ get_or bytes (at + 1) 0 ∷ drop (at + 2) bytes = drop_more bytes (at + 1) 0 lt ∙ ap (λ (i : ℕ). get_or bytes (at + 1) 0 ∷ drop i bytes) n in
    let place : at + 2 + 1 ≡ at + 1 + 2 = omega arith in
    let onward : blocks_end (suc blocks) (get_or bytes at 0 ∷ get_or bytes (at + 1) 0 ∷ drop (at + 2) bytes) (at + 2) ≡ blocks_end (suc blocks) (get_or bytes (at + 1) 0 ∷ drop (at + 2) bytes) (at + 2 + 1) = rw (h, k) refl in
    ap (λ (all : List ℕ). blocks_end (suc blocks) all (at + 2)) (two_more bytes at lt)
    ∙ onward
    ∙ ap (λ (all : List ℕ). blocks_end (suc blocks) all (at + 2 + 1)) (sym rest)
    ∙ ap (λ (i : ℕ). blocks_end (suc blocks) (drop (at + 1) bytes) i) place

short_list : (bytes : List ℕ) (blocks passed : ℕ) → length bytes ≤ 1 → 0 < blocks → blocks_end blocks bytes passed ≡ None
short_list bytes zero passed short some = absurd (omega arith)
short_list [] (suc blocks) passed short some = refl
short_list (b ∷ []) (suc blocks) passed short some = refl
short_list (b ∷ c ∷ bs) (suc blocks) passed short some = absurd (omega arith)

pub never_ended : (bytes : List ℕ) (at blocks : ℕ) → length bytes ≤ at + 1 → 0 < blocks → blocks_end blocks (drop at bytes) (at + 2) ≡ None
never_ended bytes at blocks short some = short_list (drop at bytes) blocks (at + 2) (omega (arith, length-drop at bytes)) some
