-- The object that a violation names.
use Rattle.std.proofs.Common.{◌≡◌, ℕ, ◌+◌, ◌<◌, ◌≤◌, List, [], ◌∷◌, ◌++◌, length, get_or, take, reverse, refl, sym, ap, ◌∙◌, arith, Bool, true, false}
use Rattle.std.specs.Prelude.{if◌then◌else◌, Option, Some, None, slice_get, option_and_then, IfSome}
use Rattle.std.specs.List.{filter, fold}
use Rattle.std.specs.Option.{option_map_or}
use Rattle.std.proofs.lemmas.Bool.{false≢true}
use Rattle.std.proofs.lemmas.Bool.Decides.{nat_tests}
use Rattle.std.proofs.lemmas.List.Elements.{filter_more}
use Rattle.std.proofs.lemmas.List.{append-nil}
use Rattle.std.proofs.lemmas.Option.{slice_get_read}
use Rattle.dw_model.specs.declared.objects.Object.{Object}
use Rattle.dw_model.specs.Objects.{object_before}
use Rattle.dw_journal.specs.declared.Certified.{Certified}
use Rattle.dw_journal.specs.Watermarks.{lesser, least_object, written_at_low}
use Rattle.dw_judge.proofs.Rest.{length_left}

-- no commit that the snapshot sees counts
pub written_at_low-all_seen : (low snapshot : ℕ) (commits : List Certified) (object : Object) → length commits ≤ snapshot
    → written_at_low low snapshot commits object ≡ false
written_at_low-all_seen low snapshot [] object seen = refl
written_at_low-all_seen low snapshot (commit ∷ older) object seen =
    grind (arith, nat_tests, written_at_low-all_seen low snapshot older object (omega arith))

-- where the snapshot sees all commits that are left, none of them counts
pub written_none : (commits : List Certified) (left low snapshot : ℕ) (object : Object) → left ≤ length commits → left ≤ snapshot
    → written_at_low low snapshot (reverse (take left commits)) object ≡ false
written_none commits left low snapshot object within seen =
    written_at_low-all_seen low snapshot (reverse (take left commits)) object (omega (arith, length_left commits left within))

-- the least of one object more
fold_push : {A B : Type 0} (f : B → A → B) (a : B) (xs : List A) (y : A) → fold f a (xs ++ y ∷ []) ≡ f (fold f a xs) y
fold_push f a [] y = refl
fold_push f a (x ∷ xs) y = fold_push f (f a x) xs y

least_or : Option Object → Object → Object
least_or None object = object
least_or (Some least) object = lesser least object

least_push : (objects : List Object) (object : Object) (least : Option Object) → least ≡ least_object objects → least_object (objects ++ object ∷ []) ≡ Some (least_or least object)
unfolding least_or
least_push [] object least is = ap (λ o. Some (least_or o object)) (sym is)
least_push (first ∷ objects) object least is =
    ap Some (fold_push lesser first objects object) ∙ ap (λ o. Some (least_or o object)) (sym is)

least_chosen : (least : Option Object) (object : Object) (first : Bool) → first ≡ option_map_or (object_before object) least true
    → Some (least_or least object) ≡ (if first then Some object else least)
unfolding least_or
least_chosen None object first is = ap (λ (b : Bool). if b then Some object else None) (sym is)
least_chosen (Some other) object first is =
    least_by first (object_before object other) is
  where
    least_by : (a b : Bool) → a ≡ b → Some (if b then object else other) ≡ (if a then Some object else Some other)
    least_by true true e = refl
    least_by false false e = refl
    least_by true false e = absurd (false≢true (sym e))
    least_by false true e = absurd (false≢true e)

-- the least of those among one object more
module _ (passes : Object → Bool) (reads : List Object) (place : ℕ) (object : Object) (least : Option ℕ) (within : place < length reads) (is : object ≡ get_or reads place object)
    (found : option_and_then (slice_get reads) least ≡ least_object (filter passes (take place reads))) where
  abbrev so_far : Option Object
  so_far = option_and_then (slice_get reads) least

  here_is : (b : Bool) → b ≡ passes object → passes (get_or reads place object) ≡ b
  here_is b e = ap passes (sym is) ∙ sym e

  passed : true ≡ passes object → least_object (filter passes (take (place + 1) reads)) ≡ Some (least_or so_far object)
  passed e =
      let more = filter_more passes reads place object within in
      let one : filter passes (take (place + 1) reads) ≡ filter passes (take place reads) ++ object ∷ [] =
      more ∙ ap (λ (b : Bool). filter passes (take place reads) ++ (if b then get_or reads place object ∷ [] else [])) (here_is true e)
      ∙ ap (λ (o : Object). filter passes (take place reads) ++ o ∷ []) (sym is) in
      ap least_object one ∙ least_push (filter passes (take place reads)) object so_far found

  pub found_first : true ≡ passes object → true ≡ option_map_or (object_before object) so_far true
      → option_and_then (slice_get reads) (Some place) ≡ least_object (filter passes (take (place + 1) reads))
  found_first e first =
      slice_get_read reads (length reads) place object refl within is
      ∙ sym (least_chosen so_far object true first) ∙ sym (passed e)

  pub found_later : true ≡ passes object → false ≡ option_map_or (object_before object) so_far true
      → so_far ≡ least_object (filter passes (take (place + 1) reads))
  found_later e later = sym (least_chosen so_far object false later) ∙ sym (passed e)

  pub found_kept : false ≡ passes object → so_far ≡ least_object (filter passes (take (place + 1) reads))
  found_kept e =
      let more = filter_more passes reads place object within in
      let none : filter passes (take (place + 1) reads) ≡ filter passes (take place reads) =
      more ∙ ap (λ (b : Bool). filter passes (take place reads) ++ (if b then get_or reads place object ∷ [] else [])) (here_is false e)
      ∙ append-nil (filter passes (take place reads)) in
      found ∙ ap least_object (sym none)

-- a place so far is among one more
pub within_more : (least : Option ℕ) (place : ℕ) → IfSome least (λ n. n < place) → IfSome least (λ n. n < place + 1)
within_more None place within = within
within_more (Some n) place within = omega (arith, within)
