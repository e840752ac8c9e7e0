-- The object that a violation names.
use Rattle.std.proofs.Common.{inl, inr, ◌≡◌, ℕ, ◌+◌, ◌<◌, ◌≤◌, min, List, [], ◌∷◌, ◌++◌, length, get_or, take, refl, sym, ap, subst, ◌∙◌, arith, Bool, true, false, cond}
use Rattle.std.specs.Prelude.{◌&&◌, ◌||◌, ◌==◌, nat_lt, if◌then◌else◌, Option, Some, None, slice_get, option_and_then, is_some, IfSome}
use Rattle.std.specs.List.{filter, fold, list_any}
use Rattle.std.specs.Option.{option_map_or}
use Rattle.std.proofs.lemmas.Bool.{and_parts, and_from, or_cases, or_left, or_right, cases_lt, eq-eqb, false≢true}
use Rattle.std.proofs.lemmas.Bool.Decides.{nat_tests}
use Rattle.std.proofs.lemmas.List.Elements.{filter_more}
use Rattle.std.proofs.lemmas.List.{append-nil}
use Rattle.std.proofs.lemmas.Option.{slice_get_read}
use Rattle.dw_model.specs.declared.objects.Object.{Object}
use Rattle.dw_model.specs.Objects.{same_object, is_among, object_before}
use Rattle.dw_model.proofs.ObjectSets.{same_object-back}
use Rattle.dw_journal.specs.declared.Certified.{Certified}
use Rattle.dw_journal.specs.declared.Taken.{Taken}
use Rattle.dw_journal.specs.Watermarks.{counts_for_low, low_over, low_watermark, violated_object, overlaps, lesser, least_object, written_at_low}

-- no commit that the snapshot sees counts
pub written_at_low-all_seen : (low snapshot : ℕ) (commits : List Certified) (object : Object) → length commits ≤ snapshot
    → written_at_low low snapshot commits object ≡ false
written_at_low-all_seen low snapshot [] object seen = refl
written_at_low-all_seen low snapshot (commit ∷ older) object seen =
    grind (arith, nat_tests, written_at_low-all_seen low snapshot older object (omega arith))

-- the least of one object more
fold_push : {A B : Type 0} (f : B → A → B) (a : B) (xs : List A) (y : A) → fold f a (xs ++ y ∷ []) ≡ f (fold f a xs) y
fold_push f a [] y = refl
fold_push f a (x ∷ xs) y = fold_push f (f a x) xs y

least_or : Option Object → Object → Object
least_or None object = object
least_or (Some least) object = lesser least object

least_push : (objects : List Object) (object : Object) (least : Option Object) → least ≡ least_object objects → least_object (objects ++ object ∷ []) ≡ Some (least_or least object)
unfolding least_or
least_push [] object least is = ap (λ o. Some (least_or o object)) (sym is)
least_push (first ∷ objects) object least is =
    ap Some (fold_push lesser first objects object) ∙ ap (λ o. Some (least_or o object)) (sym is)

least_chosen : (least : Option Object) (object : Object) (first : Bool) → first ≡ option_map_or (object_before object) least true
    → Some (least_or least object) ≡ (if first then Some object else least)
unfolding least_or
least_chosen None object first is = ap (λ (b : Bool). if b then Some object else None) (sym is)
least_chosen (Some other) object first is =
    least_by first (object_before object other) is
  where
    least_by : (a b : Bool) → a ≡ b → Some (if b then object else other) ≡ (if a then Some object else Some other)
    least_by true true e = refl
    least_by false false e = refl
    least_by true false e = absurd (false≢true (sym e))
    least_by false true e = absurd (false≢true e)

-- the least of those among one object more
module _ (passes : Object → Bool) (reads : List Object) (place : ℕ) (object : Object) (least : Option ℕ) (within : place < length reads) (is : object ≡ get_or reads place object)
    (found : option_and_then (slice_get reads) least ≡ least_object (filter passes (take place reads))) where
  abbrev so_far : Option Object
  so_far = option_and_then (slice_get reads) least

  here_is : (b : Bool) → b ≡ passes object → passes (get_or reads place object) ≡ b
  here_is b e = ap passes (sym is) ∙ sym e

  passed : true ≡ passes object → least_object (filter passes (take (place + 1) reads)) ≡ Some (least_or so_far object)
  passed e =
      let more = filter_more passes reads place object within in
      let one : filter passes (take (place + 1) reads) ≡ filter passes (take place reads) ++ object ∷ [] =
      more ∙ ap (λ (b : Bool). filter passes (take place reads) ++ (if b then get_or reads place object ∷ [] else [])) (here_is true e)
      ∙ ap (λ (o : Object). filter passes (take place reads) ++ o ∷ []) (sym is) in
      ap least_object one ∙ least_push (filter passes (take place reads)) object so_far found

  pub found_first : true ≡ passes object → true ≡ option_map_or (object_before object) so_far true
      → option_and_then (slice_get reads) (Some place) ≡ least_object (filter passes (take (place + 1) reads))
  found_first e first =
      slice_get_read reads (length reads) place object refl within is
      ∙ sym (least_chosen so_far object true first) ∙ sym (passed e)

  pub found_later : true ≡ passes object → false ≡ option_map_or (object_before object) so_far true
      → so_far ≡ least_object (filter passes (take (place + 1) reads))
  found_later e later = sym (least_chosen so_far object false later) ∙ sym (passed e)

  pub found_kept : false ≡ passes object → so_far ≡ least_object (filter passes (take (place + 1) reads))
  found_kept e =
      let more = filter_more passes reads place object within in
      let none : filter passes (take (place + 1) reads) ≡ filter passes (take place reads) =
      more ∙ ap (λ (b : Bool). filter passes (take place reads) ++ (if b then get_or reads place object ∷ [] else [])) (here_is false e)
      ∙ append-nil (filter passes (take place reads)) in
      found ∙ ap least_object (sym none)

-- a place so far is among one more
pub within_more : (least : Option ℕ) (place : ℕ) → IfSome least (λ n. n < place) → IfSome least (λ n. n < place + 1)
within_more None place within = within
within_more (Some n) place within = omega (arith, within)

-- a test that holds where another does holds of one of these, where the other does
any_then : (p q : Object → Bool) (objects : List Object) → ((object : Object) → p object ≡ true → q object ≡ true) → list_any p objects ≡ true → list_any q objects ≡ true
any_then p q [] so h = h
any_then p q (object ∷ objects) so h =
    elim (or_cases (p object) (list_any p objects) h) [ inl here ↦ or_left (q object) (list_any q objects) (so object here) | inr later ↦ or_right (q object) (list_any q objects) (any_then p q objects so later) ]

-- what two sets have in common, they have the other way round
overlaps-back : (a b : List Object) → overlaps a b ≡ true → overlaps b a ≡ true
overlaps-back [] b h = absurd (false≢true h)
overlaps-back (object ∷ a) b h =
    elim (or_cases (is_among object b) (overlaps a b) h) [
      | inl here ↦
          any_then (same_object object) (λ (other : Object). is_among other (object ∷ a)) b (λ other same. or_left (same_object other object) (is_among other a) (same_object-back other object ∙ same)) here
      | inr later ↦
          any_then (λ (other : Object). is_among other a) (λ (other : Object). is_among other (object ∷ a)) b (λ other among. or_right (same_object other object) (is_among other a) among) (overlaps-back a b later)
    ]

-- a low watermark below the stamp comes from a commit that wrote an object that was read
module _ (stamp : ℕ) (taken : Taken) where
  abbrev over : List Certified → ℕ
  over commits = low_over stamp taken commits

  abbrev IsWritten : ℕ → List Certified → Type 0
  IsWritten low commits = list_any (written_at_low low taken.snapshot commits) taken.reads ≡ true

  written_later : (low : ℕ) (commit : Certified) (older : List Certified) → IsWritten low older → IsWritten low (commit ∷ older)
  written_later low commit older h =
      any_then (written_at_low low taken.snapshot older) (written_at_low low taken.snapshot (commit ∷ older)) taken.reads (λ object. or_right (nat_lt taken.snapshot (length (commit ∷ older)) && (commit.low == low) && is_among object commit.taken.writes) (written_at_low low taken.snapshot older object)) h

  written_here : (commit : Certified) (older : List Certified) → nat_lt taken.snapshot (length (commit ∷ older)) ≡ true → overlaps commit.taken.writes taken.reads ≡ true → IsWritten commit.low (commit ∷ older)
  written_here commit older later overlap =
      any_then (λ (object : Object). is_among object commit.taken.writes) (written_at_low commit.low taken.snapshot (commit ∷ older)) taken.reads
      (λ object among. or_left (nat_lt taken.snapshot (length (commit ∷ older)) && (commit.low == commit.low) && is_among object commit.taken.writes) (written_at_low commit.low taken.snapshot older object) (and_from (nat_lt taken.snapshot (length (commit ∷ older)) && (commit.low == commit.low)) (is_among object commit.taken.writes) (and_from (nat_lt taken.snapshot (length (commit ∷ older))) (commit.low == commit.low) later (eq-eqb commit.low commit.low refl)) among))
      (overlaps-back commit.taken.writes taken.reads overlap)

  lowered_by : (commit : Certified) (older : List Certified) (counts : Bool) → counts_for_low (length (commit ∷ older)) taken commit ≡ counts
      → over (commit ∷ older) < stamp → (over older < stamp → IsWritten (over older) older) → IsWritten (over (commit ∷ older)) (commit ∷ older)
  lowered_by commit older true e below rest =
      let parts = and_parts (nat_lt taken.snapshot (length (commit ∷ older))) (overlaps commit.taken.writes taken.reads) e in
      let low_is : over (commit ∷ older) ≡ min commit.low (over older) = ap (λ (t : Bool). if t then min commit.low (over older) else over older) e in
      elim (cases_lt commit.low (over older)) [
        | inl less ↦
            let least : over (commit ∷ older) ≡ commit.low = omega (arith, low_is) in
            subst (λ (n : ℕ). IsWritten n (commit ∷ older)) (sym least) (written_here commit older parts.0 parts.1)
        | inr more ↦
            let least : over (commit ∷ older) ≡ over older = omega (arith, low_is) in
            subst (λ (n : ℕ). IsWritten n (commit ∷ older)) (sym least) (written_later (over older) commit older (rest (omega arith)))
      ]
  lowered_by commit older false e below rest =
      let low_is : over (commit ∷ older) ≡ over older = ap (λ (t : Bool). if t then min commit.low (over older) else over older) e in
      subst (λ (n : ℕ). IsWritten n (commit ∷ older)) (sym low_is) (written_later (over older) commit older (rest (omega arith)))

  pub lowered : (commits : List Certified) → low_over stamp taken commits < stamp
      → list_any (written_at_low (low_over stamp taken commits) taken.snapshot commits) taken.reads ≡ true
  lowered [] below = absurd (omega arith)
  lowered (commit ∷ older) below = lowered_by commit older (counts_for_low (length (commit ∷ older)) taken commit) refl below (lowered older)

-- where one passes, there is a least one
least_is_some_by : (passes : Object → Bool) (object : Object) (objects : List Object) (here : Bool) → passes object ≡ here → list_any passes (object ∷ objects) ≡ true
    → (list_any passes objects ≡ true → is_some (least_object (filter passes objects)) ≡ true) → is_some (least_object (filter passes (object ∷ objects))) ≡ true
least_is_some_by passes object objects true e h rest =
    ap (λ (t : Bool). is_some (least_object (cond t (object ∷ filter passes objects) (filter passes objects)))) e
least_is_some_by passes object objects false e h rest =
    ap (λ (t : Bool). is_some (least_object (cond t (object ∷ filter passes objects) (filter passes objects)))) e
    ∙ rest (sym (ap (λ (t : Bool). t || list_any passes objects) e) ∙ h)

least_is_some : (passes : Object → Bool) (objects : List Object) → list_any passes objects ≡ true → is_some (least_object (filter passes objects)) ≡ true
least_is_some passes [] h = absurd (false≢true h)
least_is_some passes (object ∷ objects) h = least_is_some_by passes object objects (passes object) refl h (least_is_some passes objects)

some_place : (reads : List Object) (place : Option ℕ) → is_some (option_and_then (slice_get reads) place) ≡ true → is_some place ≡ true
some_place reads None h = h
some_place reads (Some place) h = refl

-- what a violation names is there
pub named : (taken : Taken) (low : ℕ) (commits : List Certified) (place : Option ℕ) → low ≡ low_watermark taken commits
    → option_and_then (slice_get taken.reads) place ≡ violated_object taken commits → low ≤ length commits → is_some place ≡ true
named taken low commits place low_is by within =
    some_place taken.reads place
    (ap is_some by ∙ least_is_some (written_at_low (low_watermark taken commits) taken.snapshot commits) taken.reads (lowered (length commits + 1) taken commits (omega arith)))
