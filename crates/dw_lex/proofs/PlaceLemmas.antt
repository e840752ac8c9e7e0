-- Tokens in order, and one more blank, comment or token after them.
use Rattle.std.proofs.Common.{◌≡◌, ℕ, ◌+◌, ◌-◌, ◌<◌, ◌≤◌, List, [], ◌∷◌, ◌++◌, take, drop, take-add, sym, ap, ◌∙◌, subst, append_assoc, arith}
use Rattle.std.specs.List.{slice_range}
use Rattle.std.proofs.lemmas.List.{drop-drop, take-append-drop}
use Rattle.dw_lex.specs.Gaps.{gap_at, IsComment, IsGap, nothing, blank, comment}
use Rattle.dw_lex.specs.Places.{IsGapBetween, IsSlice, AreInOrder}
use Rattle.dw_lex.specs.declared.token.Token.{Token}
use Rattle.dw_lex.proofs.GapLemmas.{gap_front}

gap-append : (first tail gap rest : List ℕ) → IsGap first tail → tail ≡ gap ++ rest → IsGap gap rest → IsGap (first ++ gap) rest
gap-append first tail gap rest (nothing tail₂) joined more = more
gap-append first tail gap rest (blank b others tail₂ is h) joined more = blank b (others ++ gap) rest is (gap-append others tail gap rest h joined more)
gap-append first tail gap rest (comment word others tail₂ is h) joined more =
    let onward : others ++ tail ≡ (others ++ gap) ++ rest = ap (λ (xs : List ℕ). others ++ xs) joined ∙ sym (append_assoc others gap rest) in
    subst (λ (all : List ℕ). IsGap all rest) (sym (append_assoc word others gap))
    (comment word (others ++ gap) rest (subst (IsComment word) onward is) (gap-append others tail gap rest h joined more))

slice-more : (text : List ℕ) (from at n : ℕ) → from ≤ at → slice_range text from (at + n) ≡ slice_range text from at ++ take n (drop at text)
slice-more text from at n le =
    let split : at + n - from ≡ (at - from) + n = omega arith in
    let here : from + (at - from) ≡ at = omega arith in
    ap (λ (k : ℕ). take k (drop from text)) split
    ∙ take-add (at - from) n (drop from text)
    ∙ ap (λ (rest : List ℕ). take (at - from) (drop from text) ++ take n rest) (drop-drop (at - from) from text ∙ ap (λ (k : ℕ). drop k text) here)

between-more : (text : List ℕ) (from at : ℕ) → from ≤ at → 0 < gap_at (drop at text) → IsGapBetween text from at → IsGapBetween text from (at + gap_at (drop at text))
between-more text from at le some so_far =
    let n : ℕ = gap_at (drop at text) in
    let rest : List ℕ = drop (at + n) text in
    let tail : drop n (drop at text) ≡ rest = drop-drop n at text in
    let gap : IsGap (take n (drop at text)) rest = subst (IsGap (take n (drop at text))) tail (gap_front (drop at text) some) in
    let joined : drop at text ≡ take n (drop at text) ++ rest = sym (take-append-drop n (drop at text)) ∙ ap (λ (r : List ℕ). take n (drop at text) ++ r) tail in
    let both = gap-append (slice_range text from at) (drop at text) (take n (drop at text)) rest so_far joined gap in
    subst (λ (all : List ℕ). IsGap all rest) (sym (slice-more text from at n le)) both

pub AreInOrder-gap : (text : List ℕ) (from : ℕ) (tokens : List Token) (at : ℕ) → 0 < gap_at (drop at text)
    → AreInOrder text from tokens at → AreInOrder text from tokens (at + gap_at (drop at text))
AreInOrder-gap text from [] at some h = (omega arith, between-more text from at h.0 some h.1)
AreInOrder-gap text from (token ∷ tokens) at some h = (h.0, h.1, h.2, AreInOrder-gap text token.end tokens at some h.3)

pub nothing_between : (text : List ℕ) (at : ℕ) → IsGapBetween text at at
nothing_between text at = let none : at - at ≡ 0 = omega arith in rw none (nothing (drop at text))

pub AreInOrder-push : (text : List ℕ) (from : ℕ) (tokens : List Token) (at : ℕ) (token : Token) → token.start ≡ at → IsSlice text token
    → AreInOrder text from tokens at → AreInOrder text from (tokens ++ token ∷ []) token.end
AreInOrder-push text from [] at token starts slice h =
    (omega arith, subst (IsGapBetween text from) (sym starts) h.1, slice, (omega arith, nothing_between text token.end))
AreInOrder-push text from (first ∷ tokens) at token starts slice h =
    (h.0, h.1, h.2, AreInOrder-push text first.end tokens at token starts slice h.3)
