-- Reading on after a part of the bytes.
use Rattle.std.proofs.Common.{◌≡◌, ℕ, zero, suc, ◌+◌, ◌-◌, ◌<◌, ◌≤◌, Option, Some, None, Ok, Err, List, [], ◌∷◌, ◌++◌, length, drop, refl, sym, ◌∙◌, ap, subst, append_assoc, arith}
use Rattle.std.proofs.lemmas.List.{append-nil, drop_more, drop-drop, drop_all, length-drop}
use Rattle.dw_lex.specs.Gaps.{gap_at}
use Rattle.dw_lex.specs.Forms.{token_at}
use Rattle.dw_lex.specs.Reading.{ReadTokens, read_piece, read_from, with_first, token_of, Gives, GivesToken}
use Rattle.dw_lex.specs.declared.token.Form.{Form}
use Rattle.dw_lex.specs.declared.token.Token.{Token}
use Rattle.dw_lex.specs.declared.fault.LexFault.{LexFault}
use Rattle.dw_lex.specs.declared.fault.LexFault.TheVariants.{Foreign, Memory}

-- the tokens so far, and those after them
abbrev pub with_front : List Token → ReadTokens → ReadTokens
with_front front (Ok tokens) = Ok (front ++ tokens)
with_front front (Err place) = Err place

pub with_front-none : (read : ReadTokens) → with_front [] read ≡ read
with_front-none (Ok tokens) = refl
with_front-none (Err place) = refl

-- the bytes that belong to a token are passed over
pub read_from-inside : (bytes : List ℕ) (place inside : ℕ) → inside ≤ length bytes → read_from bytes place inside ≡ read_from (drop inside bytes) (place + inside) 0
unfolding read_from
read_from-inside [] place zero h = refl
read_from-inside [] place (suc inside) h = absurd (omega arith)
read_from-inside (b ∷ bs) place zero h = let e : place ≡ place + 0 = omega arith in ap (λ p. read_from (b ∷ bs) p 0) e
read_from-inside (b ∷ bs) place (suc inside) h =
    let e : (place + 1) + inside ≡ place + suc inside = omega arith in
    read_from-inside bs (place + 1) inside (omega arith) ∙ ap (λ p. read_from (drop inside bs) p 0) e

with_front-first : (front : List Token) (token : Token) (read : ReadTokens) → with_front front (with_first token read) ≡ with_front (front ++ token ∷ []) read
with_front-first front token (Ok tokens) = ap Ok (sym (append_assoc front (token ∷ []) tokens))
with_front-first front token (Err place) = refl

-- one piece is read at the place `at`
read_from-piece : (bytes : List ℕ) (at : ℕ) → at < length bytes →
    read_from (drop at bytes) at 0 ≡ read_piece (gap_at (drop at bytes)) (token_at (drop at bytes)) at (λ inside. read_from (drop (at + 1) bytes) (at + 1) inside)
unfolding read_from
read_from-piece bytes at lt = let e = drop_more bytes at 0 lt in rw e refl

-- the bytes of a blank or a comment are passed over
pub gap_more : (bytes : List ℕ) (at gap : ℕ) (front : List Token) (all : ReadTokens) → at < length bytes → 0 < gap → gap_at (drop at bytes) ≡ gap → at + gap ≤ length bytes
    → with_front front (read_from (drop at bytes) at 0) ≡ all → with_front front (read_from (drop (at + gap) bytes) (at + gap) 0) ≡ all
gap_more bytes at zero front all lt some found within so_far = absurd (omega arith)
gap_more bytes at (suc inside) front all lt some found within so_far =
    let rest : List ℕ = drop (at + 1) bytes in
    let fits : inside ≤ length rest = omega (arith, length-drop (at + 1) bytes) in
    let n : (at + 1) + inside ≡ at + suc inside = omega arith in
    let d = drop-drop inside (at + 1) bytes in
    let past : read_from rest (at + 1) inside ≡ read_from (drop (at + suc inside) bytes) (at + suc inside) 0 = read_from-inside rest (at + 1) inside fits ∙ rw (d, n) refl in
    let e : read_from (drop at bytes) at 0 ≡ read_from (drop (at + suc inside) bytes) (at + suc inside) 0 =
    read_from-piece bytes at lt ∙ ap (λ (gap : ℕ). read_piece gap (token_at (drop at bytes)) at (λ k. read_from rest (at + 1) k)) found ∙ past in
    rw e at so_far

read_from-token : (bytes : List ℕ) (at : ℕ) (one : Form × List ℕ) → at < length bytes → gap_at (drop at bytes) ≡ 0
    → token_at (drop at bytes) ≡ Some one → at < at + length one.1 → at + length one.1 ≤ length bytes
    → read_from (drop at bytes) at 0 ≡ with_first (token_of at one) (read_from (drop (at + length one.1) bytes) (at + length one.1) 0)
read_from-token bytes at one lt gap found after within =
    let rest : List ℕ = drop (at + 1) bytes in
    let fits : length one.1 - 1 ≤ length rest = omega (arith, length-drop (at + 1) bytes) in
    let n : (at + 1) + (length one.1 - 1) ≡ at + length one.1 = omega arith in
    let d = drop-drop (length one.1 - 1) (at + 1) bytes in
    let past : read_from rest (at + 1) (length one.1 - 1) ≡ read_from (drop (at + length one.1) bytes) (at + length one.1) 0 =
    read_from-inside rest (at + 1) (length one.1 - 1) fits ∙ rw (d, n) refl in
    read_from-piece bytes at lt ∙ (rw (gap, found) (ap (with_first (token_of at one)) past))

-- what a token's call returned, by what was found
token_given : (token : Token) (place : ℕ) (found : Option (Form × List ℕ)) → GivesToken (Ok token) place found → (one : Form × List ℕ) × (found ≡ Some one) × (token ≡ token_of place one)
token_given token place None h = absurd h
token_given token place (Some one) h = (one, refl, h)

-- the invariant of the loop after one token
abbrev GoesOn : List ℕ → List Token → ReadTokens → Token → Type 0
GoesOn bytes front all token = with_front (front ++ token ∷ []) (read_from (drop token.end bytes) token.end 0) ≡ all

pub token_more : (bytes : List ℕ) (at : ℕ) (token : Token) (front : List Token) (all : ReadTokens) → at < length bytes → gap_at (drop at bytes) ≡ 0
    → GivesToken (Ok token) at (token_at (drop at bytes)) → at < token.end → token.end ≤ length bytes
    → with_front front (read_from (drop at bytes) at 0) ≡ all → GoesOn bytes front all token
token_more bytes at token front all lt gap given after within so_far =
    let g = token_given token at (token_at (drop at bytes)) given in
    by g.0 g.1 g.2
  where
    by : (one : Form × List ℕ) → token_at (drop at bytes) ≡ Some one → token ≡ token_of at one → GoesOn bytes front all token
    by one found same =
        let end : token.end ≡ at + length one.1 = ap (λ (t : Token). t.end) same in
        let e = read_from-token bytes at one lt gap found (omega arith) (omega arith) in
        let goes : GoesOn bytes front all (token_of at one) =
        sym (with_front-first front (token_of at one) (read_from (drop (at + length one.1) bytes) (at + length one.1) 0)) ∙ (rw (← e) so_far) in
        subst (GoesOn bytes front all) (sym same) goes

pub fault_ends : (fault : LexFault) (bytes : List ℕ) (at : ℕ) (front : List Token) (all : ReadTokens) → at < length bytes → gap_at (drop at bytes) ≡ 0
    → GivesToken (Err fault) at (token_at (drop at bytes)) → with_front front (read_from (drop at bytes) at 0) ≡ all → Gives (Err fault) all
fault_ends Memory bytes at front all lt gap given so_far = tt
fault_ends (Foreign place) bytes at front all lt gap given so_far =
    let e : read_from (drop at bytes) at 0 ≡ Err at = read_from-piece bytes at lt ∙ rw (gap, given.0) refl in
    sym so_far ∙ (rw e (ap Err (sym given.1)))

pub all_read : (bytes : List ℕ) (at : ℕ) (front : List Token) (all : ReadTokens) → length bytes ≤ at → with_front front (read_from (drop at bytes) at 0) ≡ all → all ≡ Ok front
unfolding read_from
all_read bytes at front all le so_far = let e = drop_all at bytes le in sym so_far ∙ rw e (ap Ok (append-nil front))
