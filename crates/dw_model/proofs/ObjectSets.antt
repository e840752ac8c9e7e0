-- The order of objects, and sets of objects, kept as ascending lists.
use Rattle.std.proofs.Common.{◌≡◌, ℕ, zero, suc, ◌<◌, ◌≤◌, Bool, true, false, true≢false, ◌||◌, List, [], ◌∷◌, ◌++◌, length, get_or, Option, refl, sym, ap, subst, ◌∙◌, arith}
use Rattle.std.specs.Prelude.{slice_get, if◌then◌else◌}
use Rattle.std.specs.Cmp.{tied_itself}
use Rattle.std.specs.Cmp.Lexicographic.{slice_cmp, nat_list_cmp_total, nat_list_eq_equiv}
use Rattle.std.specs.List.{insert, AllWithin}
use Rattle.std.specs.List.Sorted.{IsPartitionedBy}
use Rattle.std.specs.Ordering.{nat_cmp, is_eq, is_gt, is_lt, ordering_reverse}
use Rattle.std.specs.Option.{option_map_or}
use Rattle.std.specs.declared.cmp.Ordering.{Ordering}
use Rattle.std.specs.declared.cmp.Ordering.TheVariants.{Less, Equal, Greater}
use Rattle.std.proofs.lemmas.Map.Text.{is_eq-slice_cmp}
use Rattle.dw_model.specs.declared.objects.Object.{Object}
use Rattle.dw_model.specs.declared.objects.Object.TheVariants.{Def, Rows}
use Rattle.dw_model.specs.Binding.{same_name}
use Rattle.dw_model.specs.Databases.{Tables}
use Rattle.dw_model.specs.Objects.{is_among, name_before, object_before, same_object, with_object, with_objects, IsAscendingObjects, SameAt, SameAtAll}
use Rattle.dw_model.proofs.DatabaseLemmas.{names_same, same_name-self}
use Rattle.dw_model.proofs.Places.{front_len, front_len_is}

-- ---- objects that are the same
-- objects that are the same are equal
pub objects_same : (a b : Object) → same_object a b ≡ true → a ≡ b
objects_same (Def a) (Def b) e = ap Def (names_same a b e)
objects_same (Def a) (Rows b) e = absurd (true≢false (sym e))
objects_same (Rows a) (Def b) e = absurd (true≢false (sym e))
objects_same (Rows a) (Rows b) e = ap Rows (names_same a b e)

pub same_object-self : (a : Object) → same_object a a ≡ true
same_object-self (Def a) = same_name-self a
same_object-self (Rows a) = same_name-self a

pub same_object-back : (a b : Object) → same_object a b ≡ same_object b a
same_object-back (Def a) (Def b) = nat_list_eq_equiv.symm a b
same_object-back (Def a) (Rows b) = refl
same_object-back (Rows a) (Def b) = refl
same_object-back (Rows a) (Rows b) = nat_list_eq_equiv.symm a b

-- ---- the order of objects
-- two names in the other order
back : (a b : List ℕ) → name_before b a ≡ is_gt (slice_cmp nat_cmp a b)
back a b = ap is_lt (nat_list_cmp_total.antisymm b a) ∙ turned (slice_cmp nat_cmp a b) where
  turned : (r : Ordering) → is_lt (ordering_reverse r) ≡ is_gt r
  turned Less = refl
  turned Equal = refl
  turned Greater = refl

tied : (a b : List ℕ) → same_name a b ≡ is_eq (slice_cmp nat_cmp a b)
tied a b = sym (is_eq-slice_cmp a b)

less_from : (r : Ordering) → is_lt r ≡ true → r ≡ Less
less_from Less e = refl
less_from Equal e = absurd (true≢false (sym e))
less_from Greater e = absurd (true≢false (sym e))

before_before : (a b c : List ℕ) → name_before a b ≡ true → name_before b c ≡ true → name_before a c ≡ true
before_before a b c e f = ap is_lt (nat_list_cmp_total.trans a b c (less_from _ e) (less_from _ f))

or_left : (s t : Bool) → s ≡ true → (s || t) ≡ true
or_left true t e = refl
or_left false t e = absurd (true≢false (sym e))

upto_before : (a b c : List ℕ) → (name_before a b || same_name a b) ≡ true → name_before b c ≡ true → name_before a c ≡ true
upto_before a b c e f = sides (name_before a b) refl e where
  sides : (t : Bool) → name_before a b ≡ t → (t || same_name a b) ≡ true → name_before a c ≡ true
  sides true is e = before_before a b c is f
  sides false is e = subst (λ (x : List ℕ). name_before x c ≡ true) (sym (names_same a b e)) f

before_upto : (a b c : List ℕ) → name_before a b ≡ true → (name_before b c || same_name b c) ≡ true → name_before a c ≡ true
before_upto a b c e f = sides (name_before b c) refl f where
  sides : (t : Bool) → name_before b c ≡ t → (t || same_name b c) ≡ true → name_before a c ≡ true
  sides true is f = before_before a b c e is
  sides false is f = subst (λ (x : List ℕ). name_before a x ≡ true) (names_same b c f) e

-- an object before another is before those after it
pub object_before-trans : (a b c : Object) → object_before a b ≡ true → object_before b c ≡ true → object_before a c ≡ true
object_before-trans (Def a) (Def b) (Def c) e f = before_before a b c e f
object_before-trans (Def a) (Def b) (Rows c) e f = or_left (name_before a c) (same_name a c) (before_upto a b c e f)
object_before-trans (Def a) (Rows b) (Def c) e f = upto_before a b c e f
object_before-trans (Def a) (Rows b) (Rows c) e f = or_left (name_before a c) (same_name a c) (upto_before a b c e f)
object_before-trans (Rows a) (Def b) (Def c) e f = before_before a b c e f
object_before-trans (Rows a) (Def b) (Rows c) e f = before_upto a b c e f
object_before-trans (Rows a) (Rows b) (Def c) e f = before_before a b c e f
object_before-trans (Rows a) (Rows b) (Rows c) e f = before_before a b c e f

after_by : (r : Ordering) → is_eq r ≡ false → is_lt r ≡ false → is_gt r ≡ true
after_by Less e f = absurd (true≢false f)
after_by Equal e f = absurd (true≢false e)
after_by Greater e f = refl

after_upto : (r : Ordering) → (is_lt r || is_eq r) ≡ false → is_gt r ≡ true
after_upto Less e = absurd (true≢false e)
after_upto Equal e = absurd (true≢false e)
after_upto Greater e = refl

upto_after : (r : Ordering) → is_lt r ≡ false → (is_gt r || is_eq r) ≡ true
upto_after Less e = absurd (true≢false e)
upto_after Equal e = refl
upto_after Greater e = refl

-- of two different objects one is before the other
pub object_before-total : (a b : Object) → same_object a b ≡ false → object_before a b ≡ false → object_before b a ≡ true
object_before-total (Def a) (Def b) e f = back a b ∙ after_by (slice_cmp nat_cmp a b) (sym (tied a b) ∙ e) f
object_before-total (Def a) (Rows b) e f =
    back a b ∙ after_upto (slice_cmp nat_cmp a b) (ap (λ t. is_lt (slice_cmp nat_cmp a b) || t) (sym (tied a b)) ∙ f)
object_before-total (Rows a) (Def b) e f =
    ap (λ t. t || same_name b a) (back a b) ∙ ap (λ t. is_gt (slice_cmp nat_cmp a b) || t) (nat_list_eq_equiv.symm b a ∙ tied a b)
    ∙ upto_after (slice_cmp nat_cmp a b) f
object_before-total (Rows a) (Rows b) e f = back a b ∙ after_by (slice_cmp nat_cmp a b) (sym (tied a b) ∙ e) f

itself : (a : List ℕ) → name_before a a ≡ false
itself a = ap is_lt (tied_itself nat_list_cmp_total a)

-- no object is before itself
pub object_before-self : (a : Object) → object_before a a ≡ false
object_before-self (Def a) = itself a
object_before-self (Rows a) = itself a

-- of two objects one at most is before the other
pub object_before-back : (a b : Object) → object_before a b ≡ true → object_before b a ≡ false
object_before-back a b e = sides (object_before b a) refl where
  sides : (t : Bool) → object_before b a ≡ t → t ≡ false
  sides true f = absurd (true≢false (sym (object_before-trans a b a e f) ∙ object_before-self a))
  sides false f = refl

-- ---- databases that have the same of some objects
among_by : (x y : Tables) (object first : Object) (rest : List Object) (t : Bool) → same_object object first ≡ t
    → SameAt x y first → (is_among object rest ≡ true → SameAt x y object) → (t || is_among object rest) ≡ true → SameAt x y object
among_by x y object first rest true e same more is = subst (SameAt x y) (sym (objects_same object first e)) same
among_by x y object first rest false e same more is = more is

-- databases that have the same of each of these objects have the same of one of them
pub SameAt-among : (x y : Tables) (object : Object) (objects : List Object) → SameAtAll x y objects → is_among object objects ≡ true
    → SameAt x y object
SameAt-among x y object [] same is = absurd (true≢false (sym is))
SameAt-among x y object (first ∷ rest) same is =
    among_by x y object first rest (same_object object first) refl same.0 (SameAt-among x y object rest same.1) is

-- ---- which objects are among the others
swapped : (p q r : Bool) → (p || (q || r)) ≡ (q || (p || r))
swapped true true r = refl
swapped true false r = refl
swapped false q r = refl

again : (p r : Bool) → (p || r) ≡ (p || (p || r))
again true r = refl
again false r = refl

-- what is among the objects once this one is put among them
pub is_among-with_object : (o object : Object) (set : List Object) → is_among o (with_object object set) ≡ (same_object o object || is_among o set)
is_among-with_object o object [] = refl
is_among-with_object o object (first ∷ rest) =
    by_order (object_before first object) (is_among-with_object o object rest) where
      by_same : (t : Bool) → same_object object first ≡ t
          → is_among o (if t then first ∷ rest else object ∷ first ∷ rest) ≡ (same_object o object || is_among o (first ∷ rest))
      by_same true e =
          again (same_object o first) (is_among o rest)
          ∙ ap (λ x. same_object o x || is_among o (first ∷ rest)) (sym (objects_same object first e))
      by_same false e = refl

      by_order : (t : Bool) → is_among o (with_object object rest) ≡ (same_object o object || is_among o rest)
          → is_among o (if t then first ∷ with_object object rest else (if same_object object first then first ∷ rest else object ∷ first ∷ rest)) ≡ (same_object o object || is_among o (first ∷ rest))
      by_order true e =
          ap (λ t. same_object o first || t) e
          ∙ swapped (same_object o first) (same_object o object) (is_among o rest)
      by_order false e = by_same (same_object object first) refl

or_assoc : (p q r : Bool) → (p || (q || r)) ≡ ((p || q) || r)
or_assoc true q r = refl
or_assoc false q r = refl

-- what is among the objects once these are put among them
pub is_among-with_objects : (o : Object) (more set : List Object) → is_among o (with_objects more set) ≡ (is_among o more || is_among o set)
is_among-with_objects o [] set = refl
is_among-with_objects o (object ∷ more) set =
    is_among-with_object o object (with_objects more set)
    ∙ ap (λ t. same_object o object || t) (is_among-with_objects o more set)
    ∙ or_assoc (same_object o object) (is_among o more) (is_among o set)

-- ---- ascending lists
ascending_rest : (first : Object) (rest : List Object) → IsAscendingObjects (first ∷ rest) → IsAscendingObjects rest
ascending_rest first [] up = tt
ascending_rest first (next ∷ rest) up = up.1

-- an object is before the first of these
abbrev IsBeforeFirst : Object → List Object → Type 0
IsBeforeFirst object [] = Unit {0}
IsBeforeFirst object (first ∷ rest) = object_before object first ≡ true

ascending_first : (first : Object) (rest : List Object) → IsAscendingObjects (first ∷ rest) → IsBeforeFirst first rest
ascending_first first [] up = tt
ascending_first first (next ∷ rest) up = up.0

ascending_with : (first : Object) (rest : List Object) → IsBeforeFirst first rest → IsAscendingObjects rest → IsAscendingObjects (first ∷ rest)
ascending_with first [] before up = tt
ascending_with first (next ∷ rest) before up = (before, up)

first_with_by : (first object next : Object) (rest : List Object) (s t : Bool) → object_before first object ≡ true → object_before first next ≡ true
    → IsBeforeFirst first (if s then next ∷ with_object object rest else (if t then next ∷ rest else object ∷ next ∷ rest))
first_with_by first object next rest true t e f = f
first_with_by first object next rest false true e f = f
first_with_by first object next rest false false e f = e

first_with : (first object : Object) (rest : List Object) → object_before first object ≡ true → IsBeforeFirst first rest → IsBeforeFirst first (with_object object rest)
first_with first object [] e f = e
first_with first object (next ∷ rest) e f = first_with_by first object next rest (object_before next object) (same_object object next) e f

ascending_put_by : (object first : Object) (rest : List Object) (s t : Bool) → object_before first object ≡ s → same_object object first ≡ t
    → IsAscendingObjects (first ∷ rest) → IsAscendingObjects (with_object object rest)
    → IsAscendingObjects (if s then first ∷ with_object object rest else (if t then first ∷ rest else object ∷ first ∷ rest))
ascending_put_by object first rest true t e f up put =
    ascending_with first (with_object object rest) (first_with first object rest e (ascending_first first rest up)) put
ascending_put_by object first rest false true e f up put = up
ascending_put_by object first rest false false e f up put =
    (object_before-total first object (same_object-back first object ∙ f) e, up)

-- an ascending list stays so with an object at its place
pub IsAscendingObjects-with_object : (object : Object) (set : List Object) → IsAscendingObjects set → IsAscendingObjects (with_object object set)
IsAscendingObjects-with_object object [] up = tt
IsAscendingObjects-with_object object (first ∷ rest) up =
    ascending_put_by object first rest (object_before first object) (same_object object first) refl refl up
    (IsAscendingObjects-with_object object rest (ascending_rest first rest up))

-- and with several
pub IsAscendingObjects-with_objects : (more set : List Object) → IsAscendingObjects set → IsAscendingObjects (with_objects more set)
IsAscendingObjects-with_objects [] set up = up
IsAscendingObjects-with_objects (object ∷ more) set up =
    IsAscendingObjects-with_object object (with_objects more set) (IsAscendingObjects-with_objects more set up)

-- the last of several is put first
pub with_objects-last : (more : List Object) (object : Object) (set : List Object) → with_objects (more ++ object ∷ []) set ≡ with_objects more (with_object object set)
with_objects-last [] object set = refl
with_objects-last (first ∷ more) object set = ap (with_object first) (with_objects-last more object set)

-- ---- the place of an object in an ascending list
-- how many objects at the front are before this one
abbrev pub object_place : Object → List Object → ℕ
object_place object set = front_len (λ other. object_before other object) set

first_before : (object first next : Object) (rest : List Object) → IsAscendingObjects (first ∷ next ∷ rest) → object_before next object ≡ true → object_before first object ≡ true
first_before object first next rest up e = object_before-trans first next object up.0 e

before_first : (object first : Object) (rest : List Object) (j : ℕ) (d : Object) → IsAscendingObjects (first ∷ rest) → j < length rest
    → object_before (get_or rest j d) object ≡ true → object_before first object ≡ true
before_first object first [] j d up lt e = absurd (omega arith)
before_first object first (next ∷ rest) zero d up lt e = first_before object first next rest up e
before_first object first (next ∷ rest) (suc j) d up lt e =
    first_before object first next rest up (before_first object next rest j d up.1 (omega arith) e)

-- those before an object stand at the front
pub objects_parted : (object : Object) (set : List Object) → IsAscendingObjects set → IsPartitionedBy (λ other. object_before other object) set
objects_parted object [] up i j d le lt e = absurd (omega arith)
objects_parted object (first ∷ rest) up zero zero d le lt e = e
objects_parted object (first ∷ rest) up zero (suc j) d le lt e = before_first object first rest j d up (omega arith) e
objects_parted object (first ∷ rest) up (suc i) zero d le lt e = absurd (omega arith)
objects_parted object (first ∷ rest) up (suc i) (suc j) d le lt e = objects_parted object rest (ascending_rest first rest up) i j d (omega arith) (omega arith) e

-- the object stands at a place
abbrev pub stands_at : Object → Option Object → Bool
stands_at object found = option_map_or (same_object object) found false

past_first : (first object : Object) (rest : List Object) (i : ℕ) (t : Bool)
    → first ∷ (if t then rest else insert rest i object) ≡ (if t then first ∷ rest else insert (first ∷ rest) (suc i) object)
past_first first object rest i true = refl
past_first first object rest i false = refl

-- an object is inserted at its place, where it isn't there
pub with_object-place : (object : Object) (set : List Object)
    → with_object object set ≡ (if stands_at object (slice_get set (object_place object set)) then set else insert set (object_place object set) object)
with_object-place object [] = refl
with_object-place object (first ∷ rest) = by_order (object_before first object) (with_object-place object rest) where
  by_order : (t : Bool)
      → with_object object rest ≡ (if stands_at object (slice_get rest (object_place object rest)) then rest else insert rest (object_place object rest) object)
      → (if t then first ∷ with_object object rest else (if same_object object first then first ∷ rest else object ∷ first ∷ rest))
      ≡ (if stands_at object (slice_get (first ∷ rest) (if t then suc (object_place object rest) else 0)) then first ∷ rest
      else insert (first ∷ rest) (if t then suc (object_place object rest) else 0) object)
  by_order true e =
      ap (λ l. first ∷ l) e
      ∙ past_first first object rest (object_place object rest) (stands_at object (slice_get rest (object_place object rest)))
  by_order false e = refl

-- the same by a place and a test of a list that was seen
pub with_object-seen : (object : Object) (set seen : List Object) (i : ℕ) (stands : Bool) → seen ≡ set → i ≡ object_place object set
    → stands ≡ stands_at object (slice_get seen i) → with_object object set ≡ (if stands then set else insert set i object)
with_object-seen object set seen i stands same place test =
    let is : stands ≡ stands_at object (slice_get set (object_place object set)) =
    test ∙ (λ k. stands_at object (slice_get (same k) (place k))) in
    with_object-place object set ∙ (λ k. if sym is k then set else insert set (sym place k) object)

-- a list is parted where the objects before this one end
pub with_object-parted : (object : Object) (set front seen : List Object) (i : ℕ) (stands : Bool) → front ≡ set → seen ≡ set → i ≤ length front
    → AllWithin (λ other. object_before other object ≡ true) front 0 i → AllWithin (λ other. object_before other object ≡ false) front i (length front)
    → stands ≡ stands_at object (slice_get seen i) → with_object object set ≡ (if stands then set else insert set i object)
with_object-parted object set front seen i stands same again le before others test =
    with_object-seen object set seen i stands again (front_len_is (λ other. object_before other object) front i le before others ∙ ap (object_place object) same) test
