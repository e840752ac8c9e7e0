-- What a transaction took is what its answered statements read and write, where those are the opened ones.
use Rattle.std.proofs.Common.{◌≡◌, ℕ, Bool, true, false, List, [], ◌∷◌, ◌++◌, map, reverse, refl, sym, ap, ◌∙◌}
use Rattle.std.specs.Prelude.{Option, Some, None, ◌||◌, flat_map}
use Rattle.std.specs.List.{filter_map, cons_option}
use Rattle.std.proofs.lemmas.List.{reverse-append}
use Rattle.dw_model.specs.declared.answers.Answer.{Answer as Reply}
use Rattle.dw_model.specs.declared.objects.Object.{Object}
use Rattle.dw_model.specs.declared.statements.Statement.{Statement}
use Rattle.dw_model.specs.Objects.{is_among, same_object, IsAscendingObjects}
use Rattle.dw_model.proofs.ObjectSets.{is_among-with_objects, IsAscendingObjects-with_objects}
use Rattle.dw_journal.specs.declared.World.{World}
use Rattle.dw_journal.specs.Worlds.{statement_at}
use Rattle.dw_journal.specs.Transactions.{answered_statements, statements_in, statement_with, objects_by, objects_over}
use Rattle.dw_journal.proofs.OpenedStatements.{numbers_of}

-- the sets ascend
pub objects_over-ascending : (objects : Statement → List Object) (world : World) (session : ℕ) (opened : List ℕ)
    → IsAscendingObjects (objects_over objects world session opened)
objects_over-ascending objects world session [] = tt
objects_over-ascending objects world session (k ∷ earlier) =
    IsAscendingObjects-with_objects (objects_by objects (statement_at world session k)) (objects_over objects world session earlier)
    (objects_over-ascending objects world session earlier)

or_assoc : (a b c : Bool) → (a || (b || c)) ≡ ((a || b) || c)
or_assoc true b c = refl
or_assoc false b c = refl

or_comm : (a b : Bool) → (a || b) ≡ (b || a)
or_comm true true = refl
or_comm true false = refl
or_comm false true = refl
or_comm false false = refl

pub among_append : (object : Object) (first second : List Object)
    → is_among object (first ++ second) ≡ (is_among object first || is_among object second)
among_append object [] second = refl
among_append object (other ∷ first) second =
    ap (λ b. same_object object other || b) (among_append object first second)
    ∙ or_assoc (same_object object other) (is_among object first) (is_among object second)

append_one : {Y : Type 0} (found : Option Y) (ys zs : List Y) → cons_option found (ys ++ zs) ≡ cons_option found ys ++ zs
append_one None ys zs = refl
append_one (Some y) ys zs = refl

filter_append : {X Y : Type 0} (f : X → Option Y) (xs : List X) (x : X) → filter_map f (xs ++ x ∷ []) ≡ filter_map f xs ++ cons_option (f x) []
filter_append f [] x = refl
filter_append f (first ∷ rest) x =
    ap (cons_option (f first)) (filter_append f rest x) ∙ append_one (f first) (filter_map f rest) (cons_option (f x) [])

map_append : {X Y : Type 0} (f : X → Y) (xs ys : List X) → map f (xs ++ ys) ≡ map f xs ++ map f ys
map_append f [] ys = refl
map_append f (x ∷ xs) ys = ap (λ rest. f x ∷ rest) (map_append f xs ys)

-- a further answered statement comes last
pub answered_statements-more : (world : World) (session k : ℕ) (answer : Reply) (answered : List (ℕ × Reply))
    → answered_statements world session ((k, answer) ∷ answered)
    ≡ answered_statements world session answered ++ cons_option (statement_with (statement_at world session k) answer) []
answered_statements-more world session k answer answered =
    ap (filter_map (λ (pair : ℕ × Reply). statement_with (statement_at world session pair.0) pair.1)) (reverse-append ((k, answer) ∷ []) answered)
    ∙ filter_append (λ (pair : ℕ × Reply). statement_with (statement_at world session pair.0) pair.1) (reverse answered) (k, answer)

among_last : (objects : Statement → List Object) (object : Object) (found : Option Statement) (answer : Reply) (front : List (Statement × Reply))
    → is_among object (flat_map objects (map (λ (pair : Statement × Reply). pair.0) (front ++ cons_option (statement_with found answer) [])))
    ≡ (is_among object (objects_by objects found) || is_among object (flat_map objects (map (λ (pair : Statement × Reply). pair.0) front)))
among_last objects object None answer [] = refl
among_last objects object (Some statement) answer [] = among_append object (objects statement) []
among_last objects object found answer (first ∷ front) =
    among_append object (objects first.0) (flat_map objects (map (λ (pair : Statement × Reply). pair.0) (front ++ cons_option (statement_with found answer) [])))
    ∙ ap (λ b. is_among object (objects first.0) || b) (among_last objects object found answer front)
    ∙ swap (is_among object (objects first.0)) (is_among object (objects_by objects found)) (is_among object (flat_map objects (map (λ (pair : Statement × Reply). pair.0) front)))
    ∙ ap (λ b. is_among object (objects_by objects found) || b) (sym (among_append object (objects first.0) (flat_map objects (map (λ (pair : Statement × Reply). pair.0) front))))
  where
    swap : (a b c : Bool) → (a || (b || c)) ≡ (b || (a || c))
    swap a b c = or_assoc a b c ∙ ap (λ x. x || c) (or_comm a b) ∙ sym (or_assoc b a c)

-- the objects of a transaction's statements are those of the answered ones
pub among_answered : (objects : Statement → List Object) (world : World) (session : ℕ) (answered : List (ℕ × Reply)) (object : Object)
    → is_among object (objects_over objects world session (numbers_of answered)) ≡ is_among object (flat_map objects (statements_in world session answered))
among_answered objects world session [] object = refl
among_answered objects world session ((k, answer) ∷ answered) object =
    is_among-with_objects object (objects_by objects (statement_at world session k)) (objects_over objects world session (numbers_of answered))
    ∙ ap (λ b. is_among object (objects_by objects (statement_at world session k)) || b) (among_answered objects world session answered object)
    ∙ sym (ap (λ list. is_among object (flat_map objects (map (λ (pair : Statement × Reply). pair.0) list))) (answered_statements-more world session k answer answered)
    ∙ among_last objects object (statement_at world session k) answer (answered_statements world session answered))
