-- Places of objects in ascending lists, and the stamps that are kept at them.
use Rattle.std.proofs.Common.{refl, ◌≡◌, ℕ, zero, suc, ◌+◌, ◌<◌, ◌≤◌, List, [], ◌∷◌, ◌++◌, length, take, set, get_or, sym, ap, ◌∙◌, arith, Bool, true, false, true≢false}
use Rattle.std.specs.Prelude.{◌||◌, if◌then◌else◌, Some, slice_get}
use Rattle.std.specs.List.{insert, AllWithin}
use Rattle.std.specs.Option.{option_map_or}
use Rattle.dw_model.specs.declared.objects.Object.{Object}
use Rattle.dw_model.specs.Objects.{is_among, object_before, same_object, IsAscendingObjects}
use Rattle.dw_model.proofs.ObjectSets.{objects_same, same_object-self, same_object-back, object_before-self, object_before-total, object_before-trans}
use Rattle.dw_ssn.specs.declared.summaries.Newest.{Newest}
use Rattle.std.proofs.lemmas.List.{take_more}
use Rattle.std.proofs.lemmas.List.Folds.{list_any-append}
use Rattle.dw_ssn.specs.Raised.{raised}
use Rattle.dw_ssn.specs.Summaries.{newest_at}
use Rattle.dw_ssn.specs.Places.{IsFirstPlace}

-- an object that comes before another isn't the same
pub before_differs : (first object : Object) → object_before first object ≡ true → same_object object first ≡ false
before_differs first object before = by_same (same_object object first) refl where
  by_same : (b : Bool) → same_object object first ≡ b → b ≡ false
  by_same true same =
      absurd (true≢false (sym before ∙ ap (object_before first) (objects_same object first same) ∙ object_before-self first))
  by_same false same = refl

-- an object that stands where those before it end is first there
pub first_place : (object : Object) (objects : List Object) (place : ℕ) → AllWithin (λ other. object_before other object ≡ true) objects 0 place
    → true ≡ option_map_or (same_object object) (slice_get objects place) false → IsFirstPlace object objects place
first_place object [] zero before stands = absurd (true≢false stands)
first_place object [] (suc place) before stands = absurd (true≢false stands)
first_place object (first ∷ rest) zero before stands = sym stands
first_place object (first ∷ rest) (suc place) before stands = (
  before_differs first object (before 0 object (omega arith) (omega arith)),
  first_place object rest place (λ k d low high. before (suc k) d (omega arith) (omega arith)) stands,
)

pub first_place-among : (object : Object) (objects : List Object) (place : ℕ) → IsFirstPlace object objects place → is_among object objects ≡ true
first_place-among object [] place first = absurd first
first_place-among object (one ∷ rest) zero first = ap (λ (b : Bool). b || is_among object rest) first
first_place-among object (one ∷ rest) (suc place) first =
    ap (λ (b : Bool). b || is_among object rest) first.0 ∙ first_place-among object rest place first.1

pub first_place-within : (object : Object) (objects : List Object) (place : ℕ) → IsFirstPlace object objects place → place < length objects
first_place-within object [] place first = absurd first
first_place-within object (one ∷ rest) zero first = omega arith
first_place-within object (one ∷ rest) (suc place) first = omega (arith, first_place-within object rest place first.1)

-- the object at its place
pub first_place-is : (object : Object) (objects : List Object) (place : ℕ) → IsFirstPlace object objects place → slice_get objects place ≡ Some object
first_place-is object [] place first = absurd first
first_place-is object (one ∷ rest) zero first = ap Some (sym (objects_same object one first))
first_place-is object (one ∷ rest) (suc place) first = first_place-is object rest place first.1

-- ---- the stamps at a place
pub newest_at-place : (object : Object) (objects : List Object) (stamps : List Newest) (place : ℕ) (d : Newest) → IsFirstPlace object objects place
    → length objects ≡ length stamps → newest_at object objects stamps ≡ get_or stamps place d
newest_at-place object [] stamps place d first long = absurd first
newest_at-place object (one ∷ rest) [] place d first long = absurd (omega arith)
newest_at-place object (one ∷ rest) (stamp ∷ stamps) zero d first long = ap (λ (b : Bool). if b then stamp else newest_at object rest stamps) first
newest_at-place object (one ∷ rest) (stamp ∷ stamps) (suc place) d first long =
    ap (λ (b : Bool). if b then stamp else newest_at object rest stamps) first.0 ∙ newest_at-place object rest stamps place d first.1 (omega arith)

or_false : (a b : Bool) → (a || b) ≡ false → (a ≡ false) × (b ≡ false)
or_false true b e = absurd (true≢false e)
or_false false b e = (refl, e)

pub newest_at-absent : (object : Object) (objects : List Object) (stamps : List Newest) → is_among object objects ≡ false
    → newest_at object objects stamps ≡ record { writer = 0; reader = 0 }
newest_at-absent object [] stamps none = refl
newest_at-absent object (one ∷ rest) [] none = refl
newest_at-absent object (one ∷ rest) (stamp ∷ stamps) none =
    let parts = or_false (same_object object one) (is_among object rest) none in
    ap (λ (b : Bool). if b then stamp else newest_at object rest stamps) parts.0 ∙ newest_at-absent object rest stamps parts.1

-- other stamps stay where those at a place are changed
pub newest_at-set : (other object : Object) (objects : List Object) (stamps : List Newest) (place : ℕ) (stamp : Newest) → IsFirstPlace object objects place
    → length objects ≡ length stamps
    → newest_at other objects (set stamps place stamp) ≡ (if same_object other object then stamp else newest_at other objects stamps)
newest_at-set other object [] stamps place stamp first long = absurd first
newest_at-set other object (one ∷ rest) [] place stamp first long = absurd (omega arith)
newest_at-set other object (one ∷ rest) (old ∷ stamps) zero stamp first long =
    let same : object ≡ one = objects_same object one first in
    ap (λ (o : Object). if same_object other o then stamp else newest_at other rest stamps) (sym same) ∙ again (same_object other object) refl
  where
    again : (b : Bool) → same_object other object ≡ b → (if b then stamp else newest_at other rest stamps) ≡ (if b then stamp else newest_at other (one ∷ rest) (old ∷ stamps))
    again true is = refl
    again false is =
        sym (ap (λ (b : Bool). if b then old else newest_at other rest stamps) (sym (ap (same_object other) (objects_same object one first)) ∙ is))
newest_at-set other object (one ∷ rest) (old ∷ stamps) (suc place) stamp first long =
    ap (λ (n : Newest). if same_object other one then old else n) (newest_at-set other object rest stamps place stamp first.1 (omega arith))
    ∙ either (same_object other one) (same_object other object) refl refl
  where
    either : (a b : Bool) → same_object other one ≡ a → same_object other object ≡ b
        → (if a then old else (if b then stamp else newest_at other rest stamps)) ≡ (if b then stamp else (if a then old else newest_at other rest stamps))
    either true true at same =
        absurd (true≢false (sym at ∙ ap (λ (o : Object). same_object o one) (objects_same other object same) ∙ first.0))
    either true false at same = refl
    either false true at same = refl
    either false false at same = refl

-- nothing changes where an object that isn't there is put in with zeros
pub newest_at-insert : (other object : Object) (objects : List Object) (stamps : List Newest) (place : ℕ) → is_among object objects ≡ false
    → length objects ≡ length stamps → place ≤ length objects
    → newest_at other (insert objects place object) (insert stamps place (record { writer = 0; reader = 0 })) ≡ newest_at other objects stamps
newest_at-insert other object objects stamps zero none long within = by_same (same_object other object) refl where
  by_same : (b : Bool) → same_object other object ≡ b
      → (if b then record { writer = 0; reader = 0 } else newest_at other objects stamps) ≡ newest_at other objects stamps
  by_same true same = sym (newest_at-absent other objects stamps (ap (λ (o : Object). is_among o objects) (objects_same other object same) ∙ none))
  by_same false same = refl
newest_at-insert other object [] stamps (suc place) none long within = absurd (omega arith)
newest_at-insert other object (one ∷ rest) [] (suc place) none long within = absurd (omega arith)
newest_at-insert other object (one ∷ rest) (stamp ∷ stamps) (suc place) none long within =
    ap (λ (n : Newest). if same_object other one then stamp else n)
    (newest_at-insert other object rest stamps place ((or_false (same_object object one) (is_among object rest) none).1) (omega arith) (omega arith))

-- ---- where an object isn't found
-- an object that stands at a place is within the list
pub stands_within : (object : Object) (objects : List Object) (place : ℕ) → true ≡ option_map_or (same_object object) (slice_get objects place) false → place < length objects
stands_within object [] zero stands = absurd (true≢false stands)
stands_within object [] (suc place) stands = absurd (true≢false stands)
stands_within object (first ∷ rest) zero stands = omega arith
stands_within object (first ∷ rest) (suc place) stands = omega (arith, stands_within object rest place stands)

rest_ascending : (first : Object) (rest : List Object) → IsAscendingObjects (first ∷ rest) → IsAscendingObjects rest
rest_ascending first [] up = tt
rest_ascending first (next ∷ rest) up = up.1

-- an object before the first of an ascending list isn't among it
none_after : (object first : Object) (rest : List Object) → IsAscendingObjects (first ∷ rest) → object_before object first ≡ true
    → is_among object (first ∷ rest) ≡ false
none_after object first [] up before =
    ap (λ (b : Bool). b || false) (same_object-back object first ∙ before_differs object first before)
none_after object first (next ∷ rest) up before =
    ap (λ (b : Bool). b || is_among object (next ∷ rest)) (same_object-back object first ∙ before_differs object first before)
    ∙ none_after object next rest up.1 (object_before-trans object first next before up.0)

pub none_among : (object : Object) (objects : List Object) (place : ℕ) → IsAscendingObjects objects
    → AllWithin (λ other. object_before other object ≡ true) objects 0 place
    → AllWithin (λ other. object_before other object ≡ false) objects place (length objects)
    → false ≡ option_map_or (same_object object) (slice_get objects place) false → is_among object objects ≡ false
none_among object [] place up before others stands = refl
none_among object (first ∷ rest) zero up before others stands =
    none_after object first rest up
    (object_before-total first object (same_object-back first object ∙ sym stands) (others 0 object (omega arith) (omega arith)))
none_among object (first ∷ rest) (suc place) up before others stands =
    ap (λ (b : Bool). b || is_among object rest) (before_differs first object (before 0 object (omega arith) (omega arith)))
    ∙ none_among object rest place (rest_ascending first rest up) (λ k d low high. before (suc k) d (omega arith) (omega arith))
    (λ k d low high. others (suc k) d (omega arith) (omega arith)) stands

-- ---- one object more
or_nil : (b : Bool) → (b || false) ≡ b
or_nil true = refl
or_nil false = refl

pub or_kept : (a b : Bool) → b ≡ true → (a || b) ≡ true
or_kept true b e = refl
or_kept false b e = e

pub is_among-more : (object : Object) (objects : List Object) (i : ℕ) (one : Object) → i < length objects → one ≡ get_or objects i one
    → is_among object (take (i + 1) objects) ≡ (is_among object (take i objects) || same_object object one)
is_among-more object objects i one within is =
    ap (is_among object) (take_more objects i one within ∙ ap (λ (o : Object). take i objects ++ o ∷ []) (sym is))
    ∙ list_any-append (same_object object) (take i objects) (one ∷ [])
    ∙ ap (λ (b : Bool). is_among object (take i objects) || b) (or_nil (same_object object one))

pub is_among-at : (objects : List Object) (i : ℕ) (one : Object) → i < length objects → one ≡ get_or objects i one → is_among one objects ≡ true
is_among-at [] i one within is = absurd (omega arith)
is_among-at (first ∷ rest) zero one within is =
    ap (λ (o : Object). same_object one o || is_among one rest) (sym is) ∙ ap (λ (b : Bool). b || is_among one rest) (same_object-self one)
is_among-at (first ∷ rest) (suc i) one within is = or_kept (same_object one first) (is_among one rest) (is_among-at rest i one (omega arith) is)

-- the stamps of an object once one more object of those that were passed is raised
raised_twice : (stamp : ℕ) (is_written : Bool) (newest : Newest) → raised stamp is_written (raised stamp is_written newest) ≡ raised stamp is_written newest
raised_twice stamp true newest = refl
raised_twice stamp false newest = refl

pub raised_set : (passed same : Bool) (stamp : ℕ) (is_written : Bool) (before now first : Newest) → now ≡ (if passed then raised stamp is_written first else first)
    → (same ≡ true → before ≡ now)
    → (if same then raised stamp is_written before else now) ≡ (if passed || same then raised stamp is_written first else first)
raised_set true true stamp is_written before now first is same = ap (raised stamp is_written) (same refl ∙ is) ∙ raised_twice stamp is_written first
raised_set true false stamp is_written before now first is same = is
raised_set false true stamp is_written before now first is same = ap (raised stamp is_written) (same refl ∙ is)
raised_set false false stamp is_written before now first is same = is
