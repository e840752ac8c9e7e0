-- The steps of a schedule's entries, one entry after another.
use Rattle.std.proofs.Common.{◌≡◌, ℕ, zero, suc, ◌+◌, ◌<◌, List, [], ◌∷◌, ◌++◌, length, reverse, replicate, map, take, slice_index_or, refl, sym, ap, subst, ◌∙◌, arith, append_assoc, add-one}
use Rattle.std.proofs.lemmas.List.{reverse-append, append-nil, map-append}
use Rattle.dw_script.specs.declared.schedule.Move.{Move as Entry}
use Rattle.dw_script.specs.Schedule.{steps_of}
use Rattle.dw_journal.specs.History.{History}
use Rattle.dw_journal.specs.Driven.{Move, OfSession}
use Rattle.dw_top.specs.Run.{moves_of}
use Rattle.dw_top.specs.Rounds.{Leads}
use Rattle.dw_top.proofs.Leading.{leads_then}

copies_end : (n : ℕ) (move : Move) → replicate n move ++ move ∷ [] ≡ move ∷ replicate n move
copies_end zero move = refl
copies_end (suc n) move = ap (λ (moves : List Move). move ∷ moves) (copies_end n move)

reverse_same : (n : ℕ) (move : Move) → reverse (replicate n move) ≡ replicate n move
reverse_same zero move = refl
reverse_same (suc n) move =
    reverse-append (move ∷ []) (replicate n move) ∙ ap (λ (moves : List Move). moves ++ move ∷ []) (reverse_same n move) ∙ copies_end n move

moves_same : (n s : ℕ) → map OfSession (replicate n s) ≡ replicate n (OfSession s)
moves_same zero s = refl
moves_same (suc n) s = ap (λ (moves : List Move). OfSession s ∷ moves) (moves_same n s)

-- the moves of an entry come first, seen from the latest
moves_after : (entry : Entry) (entries : List Entry)
    → reverse (moves_of (entry ∷ entries)) ≡ reverse (moves_of entries) ++ replicate entry.count (OfSession entry.session)
moves_after entry entries =
    ap reverse (map-append OfSession (replicate entry.count entry.session) (steps_of entries))
    ∙ reverse-append (map OfSession (replicate entry.count entry.session)) (moves_of entries)
    ∙ ap (λ (moves : List Move). reverse (moves_of entries) ++ moves) (ap reverse (moves_same entry.count entry.session) ∙ reverse_same entry.count (OfSession entry.session))

moves_more : (entries : List Entry) (place : ℕ) (d : Entry) → place < length entries
    → reverse (moves_of (take (suc place) entries))
    ≡ replicate (slice_index_or entries place d).count (OfSession (slice_index_or entries place d).session) ++ reverse (moves_of (take place entries))
moves_more [] place d within = absurd (omega (arith, within))
moves_more (x ∷ xs) zero d within = moves_after x [] ∙ sym (append-nil (replicate x.count (OfSession x.session)))
moves_more (x ∷ xs) (suc place) d within =
    let entry = slice_index_or xs place d in
    moves_after x (take (suc place) xs)
    ∙ ap (λ (moves : List Move). moves ++ replicate x.count (OfSession x.session)) (moves_more xs place d (omega (arith, within)))
    ∙ append_assoc (replicate entry.count (OfSession entry.session)) (reverse (moves_of (take place xs))) (replicate x.count (OfSession x.session))
    ∙ ap (λ (moves : List Move). replicate entry.count (OfSession entry.session) ++ moves) (sym (moves_after x (take place xs)))

-- one more entry of a schedule
pub leads_moves : (entries : List Entry) (place : ℕ) (d : Entry) {a b c : History} → place < length entries
    → Leads (reverse (moves_of (take place entries))) a b
    → Leads (replicate (slice_index_or entries place d).count (OfSession (slice_index_or entries place d).session)) b c
    → Leads (reverse (moves_of (take (place + 1) entries))) a c
leads_moves entries place d {a} {b} {c} within x y =
    subst (λ (n : ℕ). Leads (reverse (moves_of (take n entries))) a c) (sym (add-one place))
    (subst (λ (moves : List Move). Leads moves a c) (sym (moves_more entries place d within)) (leads_then x y))
