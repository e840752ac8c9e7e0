-- The parts of what is left of a script, one byte after the other.
use Rattle.std.proofs.Common.{◌≡◌, ℕ, ◌+◌, ◌-◌, ◌<◌, ◌≤◌, Bool, true, false, List, [], ◌∷◌, ◌++◌, length, get_or, take, drop, map, refl, sym, ap, ◌∙◌, append_assoc, arith}
use Rattle.std.specs.List.{slice_split, onto_first}
use Rattle.std.proofs.lemmas.List.{append-nil, take_more, drop_more, get_or-drop, length-drop}
use Rattle.dw_script.specs.declared.place.Place.{Place}
use Rattle.dw_script.specs.declared.place.Place.TheVariants.{Outside}
use Rattle.dw_script.specs.Place.{after}
use Rattle.dw_script.specs.Statements.{placed_from, ends_statement, parts_from, statements_of, content, one_if_any}

-- what stands before the first part, as a piece of it
abbrev pub onto_front : List ℕ → List (List ℕ) → List (List ℕ)
onto_front front [] = front ∷ []
onto_front front (part ∷ parts) = (front ++ part) ∷ parts

-- the statements to come: of the part so far, and of what is left
abbrev pub to_come : Place → ℕ → List ℕ → List ℕ → List (List ℕ)
to_come place at front rest = statements_of (onto_front front (parts_from place at rest))

map-onto_first : (x : Place × ℕ) (parts : List (List (Place × ℕ))) → map (map (λ (placed : Place × ℕ). placed.1)) (onto_first x parts) ≡ onto_front (x.1 ∷ []) (map (map (λ (placed : Place × ℕ). placed.1)) parts)
map-onto_first x [] = refl
map-onto_first x (part ∷ parts) = refl

pub onto_front-append : (a b : List ℕ) (parts : List (List ℕ)) → onto_front a (onto_front b parts) ≡ onto_front (a ++ b) parts
onto_front-append a b [] = refl
onto_front-append a b (part ∷ parts) = ap (λ (front : List ℕ). front ∷ parts) (sym (append_assoc a b part))

-- a byte that ends no statement belongs to the first part
pub parts_from-goes_on : (place : Place) (at byte : ℕ) (rest : List ℕ) → ends_statement (place, byte) ≡ false → parts_from place at (byte ∷ rest) ≡ onto_front (byte ∷ []) (parts_from (after place at byte) (at + 1) rest)
parts_from-goes_on place at byte rest h = rw h (map-onto_first (place, byte) (slice_split ends_statement (placed_from (after place at byte) (at + 1) rest)))

-- a byte that ends a statement ends the first part
pub parts_from-ends : (place : Place) (at byte : ℕ) (rest : List ℕ) → ends_statement (place, byte) ≡ true → parts_from place at (byte ∷ rest) ≡ [] ∷ parts_from (after place at byte) (at + 1) rest
parts_from-ends place at byte rest h = rw h refl

-- there is a first part
onto_front-nil_by : (place : Place) (at byte : ℕ) (rest : List ℕ) (ends : Bool) → ends_statement (place, byte) ≡ ends → onto_front [] (parts_from place at (byte ∷ rest)) ≡ parts_from place at (byte ∷ rest)
onto_front-nil_by place at byte rest true h = rw (parts_from-ends place at byte rest h) refl
onto_front-nil_by place at byte rest false h = rw (parts_from-goes_on place at byte rest h) (onto_front-append [] (byte ∷ []) (parts_from (after place at byte) (at + 1) rest))

pub onto_front-nil : (place : Place) (at : ℕ) (rest : List ℕ) → onto_front [] (parts_from place at rest) ≡ parts_from place at rest
onto_front-nil place at [] = refl
onto_front-nil place at (byte ∷ rest) = onto_front-nil_by place at byte rest (ends_statement (place, byte)) refl

-- the statement of the first part comes first
pub statements_of-cons : (part : List ℕ) (parts : List (List ℕ)) → statements_of (part ∷ parts) ≡ statements_of (part ∷ []) ++ statements_of parts
statements_of-cons part parts = ap (λ (first : List (List ℕ)). first ++ statements_of parts) (sym (append-nil (one_if_any (content part))))

pub to_come-goes_on : (place : Place) (at byte : ℕ) (front rest : List ℕ) → ends_statement (place, byte) ≡ false → to_come place at front (byte ∷ rest) ≡ to_come (after place at byte) (at + 1) (front ++ byte ∷ []) rest
to_come-goes_on place at byte front rest h =
    ap (λ parts. statements_of (onto_front front parts)) (parts_from-goes_on place at byte rest h)
    ∙ ap statements_of (onto_front-append front (byte ∷ []) (parts_from (after place at byte) (at + 1) rest))

pub to_come-ends : (place : Place) (at byte : ℕ) (front rest : List ℕ) → ends_statement (place, byte) ≡ true → to_come place at front (byte ∷ rest) ≡ statements_of (front ∷ []) ++ to_come (after place at byte) (at + 1) [] rest
to_come-ends place at byte front rest h =
    let others = parts_from (after place at byte) (at + 1) rest in
    ap (λ parts. statements_of (onto_front front parts)) (parts_from-ends place at byte rest h)
    ∙ ap (λ (part : List ℕ). statements_of (part ∷ others)) (append-nil front)
    ∙ statements_of-cons front others
    ∙ ap (λ parts. statements_of (front ∷ []) ++ statements_of parts) (sym (onto_front-nil (after place at byte) (at + 1) rest))

pub to_come-start : (bytes : List ℕ) → to_come Outside 0 [] bytes ≡ statements_of (parts_from Outside 0 bytes)
to_come-start bytes = ap statements_of (onto_front-nil Outside 0 bytes)

-- the part so far, with one byte more
taken_more : (begin at : ℕ) (bytes : List ℕ) → begin ≤ at → at < length bytes → take (at + 1 - begin) (drop begin bytes) ≡ take (at - begin) (drop begin bytes) ++ get_or bytes at 0 ∷ []
taken_more begin at bytes le lt =
    let n : at + 1 - begin ≡ at - begin + 1 = omega arith in
    let k : begin + (at - begin) ≡ at = omega arith in
    let long : at - begin < length (drop begin bytes) = rw length-drop (omega arith) in
    let here : get_or (drop begin bytes) (at - begin) 0 ≡ get_or bytes at 0 = get_or-drop begin bytes (at - begin) 0 ∙ ap (λ (i : ℕ). get_or bytes i 0) k in
    rw n (take_more (drop begin bytes) (at - begin) 0 long ∙ ap (λ (byte : ℕ). take (at - begin) (drop begin bytes) ++ byte ∷ []) here)

-- a byte that ends no statement goes over from the rest to the part so far
pub to_come-more : (place : Place) (begin at : ℕ) (bytes : List ℕ) → begin ≤ at → at < length bytes → ends_statement (place, get_or bytes at 0) ≡ false
    → to_come place at (take (at - begin) (drop begin bytes)) (drop at bytes) ≡ to_come (after place at (get_or bytes at 0)) (at + 1) (take (at + 1 - begin) (drop begin bytes)) (drop (at + 1) bytes)
to_come-more place begin at bytes le lt h =
    ap (to_come place at (take (at - begin) (drop begin bytes))) (drop_more bytes at 0 lt)
    ∙ to_come-goes_on place at (get_or bytes at 0) (take (at - begin) (drop begin bytes)) (drop (at + 1) bytes) h
    ∙ ap (λ (front : List ℕ). to_come (after place at (get_or bytes at 0)) (at + 1) front (drop (at + 1) bytes)) (sym (taken_more begin at bytes le lt))

-- a byte that ends a statement leaves a part of nothing so far
pub to_come-next : (place : Place) (begin at : ℕ) (bytes : List ℕ) → at < length bytes → ends_statement (place, get_or bytes at 0) ≡ true
    → to_come place at (take (at - begin) (drop begin bytes)) (drop at bytes) ≡ statements_of (take (at - begin) (drop begin bytes) ∷ []) ++ to_come (after place at (get_or bytes at 0)) (at + 1) (take (at + 1 - (at + 1)) (drop (at + 1) bytes)) (drop (at + 1) bytes)
to_come-next place begin at bytes lt h =
    let z : at + 1 - (at + 1) ≡ 0 = omega arith in
    ap (to_come place at (take (at - begin) (drop begin bytes))) (drop_more bytes at 0 lt)
    ∙ rw z (to_come-ends place at (get_or bytes at 0) (take (at - begin) (drop begin bytes)) (drop (at + 1) bytes) h)
