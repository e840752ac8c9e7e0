-- Entries in ascending order of their names, as the finite map that they stand for.
use Rattle.std.proofs.Common.{◌≡◌, ℕ, zero, suc, ◌<◌, ◌≤◌, Bool, true, false, cond, not, ◌&&◌, List, [], ◌∷◌, length, get_or, set, Option, Some, None, refl, sym, ap, subst, ◌∙◌, arith}
use Rattle.std.specs.Prelude.{slice_get, if◌then◌else◌}
use Rattle.std.specs.List.{insert, remove, AllWithin}
use Rattle.std.specs.List.Sorted.{IsPartitionedBy}
use Rattle.std.proofs.lemmas.Bool.{false≢true}
use Rattle.std.proofs.lemmas.Map.Text.{is_eq-slice_cmp}
use Rattle.std.specs.declared.cmp.Ordering.{Ordering}
use Rattle.std.specs.declared.cmp.Ordering.TheVariants.{Less, Equal, Greater}
use Rattle.std.specs.Ordering.{nat_cmp, is_lt, is_eq, ordering_reverse}
use Rattle.std.specs.Cmp.Lexicographic.{slice_cmp, nat_list_cmp_total}
use Rattle.std.specs.Arc.{arc_value}
use Rattle.std.specs.FinMap as map
use Rattle.std.specs.FinMap.{slice_cmp-IsAntisymmetric, nat_cmp-IsAntisymmetric}
use Rattle.std.specs.FinMap.Entries.{below_all, is_sorted, is_sorted-put, is_sorted-where_key, find, find-where_key, put, where_key}
use Rattle.dw_model.specs.declared.tables.Table.{Table}
use Rattle.dw_model.specs.declared.databases.Entry.{Entry}
use Rattle.dw_model.specs.Databases.{IsAscending}
use Rattle.dw_model.specs.Binding.{same_name}
use Rattle.dw_model.specs.Entries.{pair_of, pairs_of, names_rise, place_in, named_at, RowsAscend}
use Rattle.dw_model.proofs.DatabaseLemmas.{names_same}
use lib.Dec.{T}

-- the order of names
abbrev R : List ℕ → List ℕ → Ordering
R = slice_cmp nat_cmp

-- no entries stand for the empty map
pub from_no_entries : {X : Type 0} → map.from_sorted {K = List ℕ} {X = X} {R = slice_cmp nat_cmp} [] ≡ map.empty
from_no_entries =
    map.empty_of_len _ (map.len-entries _ ∙ ap length (map.entries-from_sorted (slice_cmp nat_cmp) [] tt))

pub T-from_true : (b : Bool) → b ≡ true → T b
T-from_true true e = tt
T-from_true false e = absurd (false≢true e)

pub true-from_T : (b : Bool) → T b → b ≡ true
true-from_T true t = refl
true-from_T false t = absurd t

and_first : (a b : Bool) → T (a && b) → T a
and_first true b t = tt
and_first false b t = t

and_second : (a b : Bool) → T (a && b) → T b
and_second true b t = t
and_second false b t = absurd t

less_from : (r : Ordering) → is_lt r ≡ true → r ≡ Less
less_from Less e = refl
less_from Equal e = absurd (false≢true e)
less_from Greater e = absurd (false≢true e)

turned : (a b : List ℕ) (r : Ordering) → R a b ≡ r → R b a ≡ ordering_reverse r
turned a b r e = nat_list_cmp_total.antisymm b a ∙ ap ordering_reverse e

-- names are the same where they tie
pub same-tied : (a b : List ℕ) (r : Ordering) → R a b ≡ r → same_name a b ≡ is_eq r
same-tied a b r e = sym (is_eq-slice_cmp a b) ∙ ap is_eq e

below_at : (x : List ℕ) (es : List Entry) (j : ℕ) (d : Entry) → T (below_all R x (pairs_of es)) → j < length es → is_lt (R x (arc_value (get_or es j d).name)) ≡ true
below_at x [] j d h lt = absurd (omega arith)
below_at x (e ∷ es) zero d h lt = true-from_T _ (and_first _ _ h)
below_at x (e ∷ es) (suc j) d h lt = below_at x es j d (and_second _ _ h) (omega arith)

-- the entries with a name below this one stand in front
pub names_parted : (name : List ℕ) (es : List Entry) → T (names_rise es) → IsPartitionedBy (λ e. is_lt (R (arc_value e.name) name)) es
names_parted name [] h i j d le lt t = absurd (omega arith)
names_parted name (e ∷ es) h zero zero d le lt t = t
names_parted name (e ∷ es) h zero (suc j) d le lt t =
    let first = less_from _ (below_at (arc_value e.name) es j d (and_first _ _ h) (omega arith)) in
    ap is_lt (nat_list_cmp_total.trans (arc_value e.name) (arc_value (get_or es j d).name) name first (less_from _ t))
names_parted name (e ∷ es) h (suc i) zero d le lt t = absurd (omega arith)
names_parted name (e ∷ es) h (suc i) (suc j) d le lt t = names_parted name es (and_second _ _ h) i j d (omega arith) (omega arith) t

-- the place where those in front end
pub place_is : (name : List ℕ) (es : List Entry) (i : ℕ) → i ≤ length es → AllWithin (λ e. is_lt (R (arc_value e.name) name) ≡ true) es 0 i → AllWithin (λ e. is_lt (R (arc_value e.name) name) ≡ false) es i (length es) → i ≡ place_in es name
place_is name [] i le before after = omega arith
place_is name (e ∷ es) zero le before after =
    let first : is_lt (R (arc_value e.name) name) ≡ false = after 0 e (omega arith) (omega arith) in
    sym (ap (λ b. if b then suc (place_in es name) else 0) first)
place_is name (e ∷ es) (suc i) le before after =
    let first : is_lt (R (arc_value e.name) name) ≡ true = before 0 e (omega arith) (omega arith) in
    ap suc (place_is name es i (omega arith) (λ k d a b. before (suc k) d (omega arith) (omega arith)) (λ k d a b. after (suc k) d (omega arith) (omega arith)))
    ∙ sym (ap (λ b. if b then suc (place_in es name) else 0) first)

none_below : (q x : List ℕ) (es : List Entry) → R q x ≡ Less → T (below_all R x (pairs_of es)) → find R q (pairs_of es) ≡ None
none_below q x [] e h = refl
none_below q x (entry ∷ es) e h =
    let first = nat_list_cmp_total.trans q x (arc_value entry.name) e (less_from _ (true-from_T _ (and_first _ _ h))) in
    ap (λ r. cond (is_eq r) (Some (arc_value entry.table)) (find R q (pairs_of es))) first ∙ none_below q x es e (and_second _ _ h)

-- the table of an entry, where its name is this one
abbrev pub table_named : List ℕ → Option Entry → Option Table
table_named name None = None
table_named name (Some entry) = if same_name (arc_value entry.name) name then Some (arc_value entry.table) else None

find_by : (name : List ℕ) (e : Entry) (es : List Entry) (r : Ordering) → R name (arc_value e.name) ≡ r → T (names_rise (e ∷ es)) → find R name (pairs_of es) ≡ table_named name (slice_get es (place_in es name)) → find R name (pairs_of (e ∷ es)) ≡ table_named name (slice_get (e ∷ es) (place_in (e ∷ es) name))
find_by name e es Less is h rest =
    let back = turned name (arc_value e.name) Less is in
    ap (λ r. cond (is_eq r) (Some (arc_value e.table)) (find R name (pairs_of es))) is
    ∙ none_below name (arc_value e.name) es is (and_first _ _ h)
    ∙ sym (ap (λ r. table_named name (slice_get (e ∷ es) (if is_lt r then suc (place_in es name) else 0))) back ∙ ap (λ b. if b then Some (arc_value e.table) else None) (same-tied (arc_value e.name) name Greater back))
find_by name e es Equal is h rest =
    let back = turned name (arc_value e.name) Equal is in
    ap (λ r. cond (is_eq r) (Some (arc_value e.table)) (find R name (pairs_of es))) is
    ∙ sym (ap (λ r. table_named name (slice_get (e ∷ es) (if is_lt r then suc (place_in es name) else 0))) back ∙ ap (λ b. if b then Some (arc_value e.table) else None) (same-tied (arc_value e.name) name Equal back))
find_by name e es Greater is h rest =
    let back = turned name (arc_value e.name) Greater is in
    ap (λ r. cond (is_eq r) (Some (arc_value e.table)) (find R name (pairs_of es))) is
    ∙ rest
    ∙ sym (ap (λ r. table_named name (slice_get (e ∷ es) (if is_lt r then suc (place_in es name) else 0))) back)

-- what is found under a name is the table at its place, where that one has the name
pub find-place : (name : List ℕ) (es : List Entry) → T (names_rise es) → find R name (pairs_of es) ≡ table_named name (slice_get es (place_in es name))
find-place name [] h = refl
find-place name (e ∷ es) h = find_by name e es (R name (arc_value e.name)) refl h (find-place name es (and_second _ _ h))

pub get-place : (name : List ℕ) (es : List Entry) → T (names_rise es) → map.get (map.from_sorted {R = slice_cmp nat_cmp} (pairs_of es)) name ≡ table_named name (slice_get es (place_in es name))
get-place name es h = map.get-from_sorted (slice_cmp nat_cmp) (pairs_of es) name h ∙ find-place name es h

put_present_by : (new e : Entry) (es : List Entry) (r : Ordering) → R (arc_value new.name) (arc_value e.name) ≡ r → named_at (arc_value new.name) (slice_get (e ∷ es) (place_in (e ∷ es) (arc_value new.name))) ≡ true
    → (named_at (arc_value new.name) (slice_get es (place_in es (arc_value new.name))) ≡ true → put R (arc_value new.name) (arc_value new.table) (pairs_of es) ≡ pairs_of (set es (place_in es (arc_value new.name)) new))
    → put R (arc_value new.name) (arc_value new.table) (pairs_of (e ∷ es)) ≡ pairs_of (set (e ∷ es) (place_in (e ∷ es) (arc_value new.name)) new)
put_present_by new e es Less is at rest =
    let back = turned (arc_value new.name) (arc_value e.name) Less is in
    let other : false ≡ true = sym (ap (λ r. named_at (arc_value new.name) (slice_get (e ∷ es) (if is_lt r then suc (place_in es (arc_value new.name)) else 0))) back ∙ same-tied (arc_value e.name) (arc_value new.name) Greater back) ∙ at in
    absurd (false≢true other)
put_present_by new e es Equal is at rest =
    let back = turned (arc_value new.name) (arc_value e.name) Equal is in
    let same : (arc_value e.name) ≡ (arc_value new.name) = slice_cmp-IsAntisymmetric nat_cmp-IsAntisymmetric (arc_value e.name) (arc_value new.name) back in
    ap (λ r. map.Entries.by_order r ((arc_value new.name, (arc_value new.table)) ∷ pairs_of (e ∷ es)) ((arc_value e.name, (arc_value new.table)) ∷ pairs_of es) (pair_of e ∷ put R (arc_value new.name) (arc_value new.table) (pairs_of es))) is
    ∙ ap (λ n. (n, (arc_value new.table)) ∷ pairs_of es) same
    ∙ sym (ap (λ r. pairs_of (set (e ∷ es) (if is_lt r then suc (place_in es (arc_value new.name)) else 0) new)) back)
put_present_by new e es Greater is at rest =
    let back = turned (arc_value new.name) (arc_value e.name) Greater is in
    let further = sym (ap (λ r. named_at (arc_value new.name) (slice_get (e ∷ es) (if is_lt r then suc (place_in es (arc_value new.name)) else 0))) back) ∙ at in
    ap (λ r. map.Entries.by_order r ((arc_value new.name, (arc_value new.table)) ∷ pairs_of (e ∷ es)) ((arc_value e.name, (arc_value new.table)) ∷ pairs_of es) (pair_of e ∷ put R (arc_value new.name) (arc_value new.table) (pairs_of es))) is
    ∙ ap (λ t. pair_of e ∷ t) (rest further)
    ∙ sym (ap (λ r. pairs_of (set (e ∷ es) (if is_lt r then suc (place_in es (arc_value new.name)) else 0) new)) back)

-- a table under a name that is there takes the place of the old one
pub put_present : (new : Entry) (es : List Entry) → named_at (arc_value new.name) (slice_get es (place_in es (arc_value new.name))) ≡ true → put R (arc_value new.name) (arc_value new.table) (pairs_of es) ≡ pairs_of (set es (place_in es (arc_value new.name)) new)
put_present new [] at = absurd (false≢true at)
put_present new (e ∷ es) at = put_present_by new e es (R (arc_value new.name) (arc_value e.name)) refl at (put_present new es)

put_absent_by : (new e : Entry) (es : List Entry) (r : Ordering) → R (arc_value new.name) (arc_value e.name) ≡ r → named_at (arc_value new.name) (slice_get (e ∷ es) (place_in (e ∷ es) (arc_value new.name))) ≡ false
    → (named_at (arc_value new.name) (slice_get es (place_in es (arc_value new.name))) ≡ false → put R (arc_value new.name) (arc_value new.table) (pairs_of es) ≡ pairs_of (insert es (place_in es (arc_value new.name)) new))
    → put R (arc_value new.name) (arc_value new.table) (pairs_of (e ∷ es)) ≡ pairs_of (insert (e ∷ es) (place_in (e ∷ es) (arc_value new.name)) new)
put_absent_by new e es Less is at rest =
    let back = turned (arc_value new.name) (arc_value e.name) Less is in
    ap (λ r. map.Entries.by_order r ((arc_value new.name, (arc_value new.table)) ∷ pairs_of (e ∷ es)) ((arc_value e.name, (arc_value new.table)) ∷ pairs_of es) (pair_of e ∷ put R (arc_value new.name) (arc_value new.table) (pairs_of es))) is
    ∙ sym (ap (λ r. pairs_of (insert (e ∷ es) (if is_lt r then suc (place_in es (arc_value new.name)) else 0) new)) back)
put_absent_by new e es Equal is at rest =
    let back = turned (arc_value new.name) (arc_value e.name) Equal is in
    let other : true ≡ false = sym (ap (λ r. named_at (arc_value new.name) (slice_get (e ∷ es) (if is_lt r then suc (place_in es (arc_value new.name)) else 0))) back ∙ same-tied (arc_value e.name) (arc_value new.name) Equal back) ∙ at in
    absurd (false≢true (sym other))
put_absent_by new e es Greater is at rest =
    let back = turned (arc_value new.name) (arc_value e.name) Greater is in
    let further = sym (ap (λ r. named_at (arc_value new.name) (slice_get (e ∷ es) (if is_lt r then suc (place_in es (arc_value new.name)) else 0))) back) ∙ at in
    ap (λ r. map.Entries.by_order r ((arc_value new.name, (arc_value new.table)) ∷ pairs_of (e ∷ es)) ((arc_value e.name, (arc_value new.table)) ∷ pairs_of es) (pair_of e ∷ put R (arc_value new.name) (arc_value new.table) (pairs_of es))) is
    ∙ ap (λ t. pair_of e ∷ t) (rest further)
    ∙ sym (ap (λ r. pairs_of (insert (e ∷ es) (if is_lt r then suc (place_in es (arc_value new.name)) else 0) new)) back)

-- a table under a new name goes to its place
pub put_absent : (new : Entry) (es : List Entry) → named_at (arc_value new.name) (slice_get es (place_in es (arc_value new.name))) ≡ false → put R (arc_value new.name) (arc_value new.table) (pairs_of es) ≡ pairs_of (insert es (place_in es (arc_value new.name)) new)
put_absent new [] at = refl
put_absent new (e ∷ es) at = put_absent_by new e es (R (arc_value new.name) (arc_value e.name)) refl at (put_absent new es)

-- the other names
other_than : List ℕ → List ℕ → Bool
other_than name x = not (is_eq (R name x))

-- those after a name are others
kept_after : (name : List ℕ) (es : List Entry) → T (below_all R name (pairs_of es)) → where_key R (other_than name) (pairs_of es) ≡ pairs_of es
unfolding other_than
kept_after name [] h = refl
kept_after name (e ∷ es) h =
    let kept : not (is_eq (R name (arc_value e.name))) ≡ true = ap (λ r. not (is_eq r)) (less_from _ (true-from_T _ (and_first _ _ h))) in
    ap (λ b. cond b (pair_of e ∷ where_key R (other_than name) (pairs_of es)) (where_key R (other_than name) (pairs_of es))) kept
    ∙ ap (λ t. pair_of e ∷ t) (kept_after name es (and_second _ _ h))

removed_by : (name : List ℕ) (e : Entry) (es : List Entry) (r : Ordering) → R name (arc_value e.name) ≡ r → T (names_rise (e ∷ es)) → named_at name (slice_get (e ∷ es) (place_in (e ∷ es) name)) ≡ true
    → (named_at name (slice_get es (place_in es name)) ≡ true → pairs_of (remove es (place_in es name)) ≡ where_key R (other_than name) (pairs_of es))
    → pairs_of (remove (e ∷ es) (place_in (e ∷ es) name)) ≡ where_key R (other_than name) (pairs_of (e ∷ es))
unfolding other_than
removed_by name e es Less is h at rest =
    let back = turned name (arc_value e.name) Less is in
    let other : false ≡ true = sym (ap (λ r. named_at name (slice_get (e ∷ es) (if is_lt r then suc (place_in es name) else 0))) back ∙ same-tied (arc_value e.name) name Greater back) ∙ at in
    absurd (false≢true other)
removed_by name e es Equal is h at rest =
    let back = turned name (arc_value e.name) Equal is in
    let same : (arc_value e.name) ≡ name = slice_cmp-IsAntisymmetric nat_cmp-IsAntisymmetric (arc_value e.name) name back in
    ap (λ r. pairs_of (remove (e ∷ es) (if is_lt r then suc (place_in es name) else 0))) back
    ∙ sym (kept_after name es (subst (λ (x : List ℕ). T (below_all R x (pairs_of es))) same (and_first _ _ h)))
    ∙ sym (ap (λ r. cond (not (is_eq r)) (pair_of e ∷ where_key R (other_than name) (pairs_of es)) (where_key R (other_than name) (pairs_of es))) is)
removed_by name e es Greater is h at rest =
    let back = turned name (arc_value e.name) Greater is in
    let further = sym (ap (λ r. named_at name (slice_get (e ∷ es) (if is_lt r then suc (place_in es name) else 0))) back) ∙ at in
    ap (λ r. pairs_of (remove (e ∷ es) (if is_lt r then suc (place_in es name) else 0))) back
    ∙ ap (λ t. pair_of e ∷ t) (rest further)
    ∙ sym (ap (λ r. cond (not (is_eq r)) (pair_of e ∷ where_key R (other_than name) (pairs_of es)) (where_key R (other_than name) (pairs_of es))) is)

-- to take an entry away leaves those of other names
removed : (name : List ℕ) (es : List Entry) → T (names_rise es) → named_at name (slice_get es (place_in es name)) ≡ true → pairs_of (remove es (place_in es name)) ≡ where_key R (other_than name) (pairs_of es)
removed name [] h at = absurd (false≢true at)
removed name (e ∷ es) h at = removed_by name e es (R name (arc_value e.name)) refl h at (removed name es (and_second _ _ h))

-- what is found where the entries of one name are left out
tied_back : (r : Ordering) → is_eq (ordering_reverse r) ≡ is_eq r
tied_back Less = refl
tied_back Equal = refl
tied_back Greater = refl

turned_cond : (b : Bool) (x y : Option Table) → cond (not b) x y ≡ cond b y x
turned_cond true x y = refl
turned_cond false x y = refl

find_other : (name q : List ℕ) (es : List Entry) → find R q (where_key R (other_than name) (pairs_of es)) ≡ cond (is_eq (R q name)) None (find R q (pairs_of es))
unfolding other_than
find_other name q es =
    find-where_key R (other_than name) q (λ x t. ap (other_than name) (sym (slice_cmp-IsAntisymmetric nat_cmp-IsAntisymmetric q x t))) (pairs_of es)
    ∙ turned_cond (is_eq (R name q)) (find R q (pairs_of es)) None
    ∙ ap (λ b. cond b None (find R q (pairs_of es))) (ap is_eq (nat_list_cmp_total.antisymm name q) ∙ tied_back (R q name))

-- the fields after a table is taken away are those of the map without it
pub record IsRemoved (es : List Entry) (name : List ℕ) (next : List Entry) : Type 0 where
  pub map : map.from_sorted {R = slice_cmp nat_cmp} (pairs_of next) ≡ map.remove (map.from_sorted {R = slice_cmp nat_cmp} (pairs_of es)) name
  pub rise : names_rise next ≡ true

is_removed : (name : List ℕ) (es next : List Entry) → names_rise es ≡ true → pairs_of next ≡ where_key R (other_than name) (pairs_of es) → IsRemoved es name next
is_removed name es next h e =
    let rise : T (names_rise next) = subst (λ l. T (is_sorted R l)) (sym e) (is_sorted-where_key R (other_than name) (pairs_of es) (T-from_true _ h)) in
    record {
      map = map.same_map nat_list_cmp_total (slice_cmp-IsAntisymmetric nat_cmp-IsAntisymmetric) _ _ (λ q.
          map.get-from_sorted R (pairs_of next) q rise ∙ ap (find R q) e ∙ find_other name q es
          ∙ ap (cond (is_eq (R q name)) None) (sym (map.get-from_sorted R (pairs_of es) q (T-from_true _ h)))
          ∙ sym (map.get-remove nat_list_cmp_total (map.from_sorted {R = slice_cmp nat_cmp} (pairs_of es)) name q));
      rise = true-from_T _ rise;
    }

-- to remove a name that isn't there changes nothing
none_removed : (tables : map.FinMap (slice_cmp nat_cmp) Table) (name : List ℕ) → map.get tables name ≡ None → tables ≡ map.remove tables name
none_removed tables name none =
    map.same_map nat_list_cmp_total (slice_cmp-IsAntisymmetric nat_cmp-IsAntisymmetric) _ _ (λ q. none_at q (R q name) refl ∙ sym (map.get-remove nat_list_cmp_total tables name q))
  where
    none_at : (q : List ℕ) (r : Ordering) → R q name ≡ r → map.get tables q ≡ cond (is_eq (R q name)) None (map.get tables q)
    none_at q Less is = sym (ap (λ r. cond (is_eq r) None (map.get tables q)) is)
    none_at q Equal is =
        ap (map.get tables) (slice_cmp-IsAntisymmetric nat_cmp-IsAntisymmetric q name is) ∙ none
        ∙ sym (ap (λ r. cond (is_eq r) None (map.get tables q)) is)
    none_at q Greater is = sym (ap (λ r. cond (is_eq r) None (map.get tables q)) is)

pub RowsAscend-remove : (es : List Entry) (i : ℕ) → RowsAscend es → RowsAscend (remove es i)
RowsAscend-remove [] zero h = tt
RowsAscend-remove [] (suc i) h = tt
RowsAscend-remove (e ∷ es) zero h = h.1
RowsAscend-remove (e ∷ es) (suc i) h = (h.0, RowsAscend-remove es i h.1)

pub RowsAscend-set : (es : List Entry) (i : ℕ) (new : Entry) → RowsAscend es → IsAscending (arc_value new.table).rows → RowsAscend (set es i new)
RowsAscend-set [] i new h is = tt
RowsAscend-set (e ∷ es) zero new h is = (is, h.1)
RowsAscend-set (e ∷ es) (suc i) new h is = (h.0, RowsAscend-set es i new h.1 is)

pub RowsAscend-insert : (es : List Entry) (i : ℕ) (new : Entry) → RowsAscend es → IsAscending (arc_value new.table).rows → RowsAscend (insert es i new)
RowsAscend-insert [] zero new h is = (is, tt)
RowsAscend-insert [] (suc i) new h is = (is, tt)
RowsAscend-insert (e ∷ es) zero new h is = (is, h)
RowsAscend-insert (e ∷ es) (suc i) new h is = (h.0, RowsAscend-insert es i new h.1 is)

pub RowsAscend-at : (es : List Entry) (i : ℕ) (e : Entry) → RowsAscend es → slice_get es i ≡ Some e → IsAscending (arc_value e.table).rows
RowsAscend-at [] i e h is = absurd (cc)
RowsAscend-at (x ∷ es) zero e h is = let same : x ≡ e = cc in subst (λ (y : Entry). IsAscending (arc_value y.table).rows) same h.0
RowsAscend-at (x ∷ es) (suc i) e h is = RowsAscend-at es i e h.1 is

-- to put an entry into a sorted list is to insert it into the map that the list stands for
pub from_sorted-put : (name : List ℕ) (table : Table) (es : List Entry) → T (names_rise es) → map.from_sorted {R = slice_cmp nat_cmp} (put R name table (pairs_of es)) ≡ map.insert (map.from_sorted {R = slice_cmp nat_cmp} (pairs_of es)) name table
from_sorted-put name table es h =
    map.same_entries_map _ _
    (map.entries-from_sorted R (put R name table (pairs_of es)) (is_sorted-put R nat_list_cmp_total name table (pairs_of es) h)
    ∙ ap (put R name table) (sym (map.entries-from_sorted R (pairs_of es) h))
    ∙ sym (map.entries-insert nat_list_cmp_total (map.from_sorted (pairs_of es)) name table))

-- the fields after a change are those of the map after it
pub record IsPut (es : List Entry) (name : List ℕ) (table : Table) (next : List Entry) : Type 0 where
  pub map : map.from_sorted {R = slice_cmp nat_cmp} (pairs_of next) ≡ map.insert (map.from_sorted {R = slice_cmp nat_cmp} (pairs_of es)) name table
  pub rise : names_rise next ≡ true

pub is_put : (name : List ℕ) (table : Table) (es next : List Entry) → names_rise es ≡ true → put R name table (pairs_of es) ≡ pairs_of next → IsPut es name table next
is_put name table es next h e = record {
  map = ap (map.from_sorted {R = slice_cmp nat_cmp}) (sym e) ∙ from_sorted-put name table es (T-from_true _ h);
  rise = true-from_T _ (subst (λ l. T (is_sorted R l)) e (is_sorted-put R nat_list_cmp_total name table (pairs_of es) (T-from_true _ h)));
}

length-pairs_of : (es : List Entry) → length (pairs_of es) ≡ length es
length-pairs_of [] = refl
length-pairs_of (e ∷ es) = ap suc (length-pairs_of es)

pub len-place : (es : List Entry) → names_rise es ≡ true → map.len (map.from_sorted {R = slice_cmp nat_cmp} (pairs_of es)) ≡ length es
len-place es h =
    map.len-entries (map.from_sorted {R = slice_cmp nat_cmp} (pairs_of es))
    ∙ ap length (map.entries-from_sorted R (pairs_of es) (T-from_true _ h))
    ∙ length-pairs_of es

pub entries-place : (es : List Entry) → names_rise es ≡ true → map.entries (map.from_sorted {R = slice_cmp nat_cmp} (pairs_of es)) ≡ pairs_of es
entries-place es h = map.entries-from_sorted R (pairs_of es) (T-from_true _ h)

slice_get_at : (es : List Entry) (i : ℕ) (e : Entry) → i < length es → e ≡ get_or es i e → slice_get es i ≡ Some e
slice_get_at [] i e lt is = absurd (omega arith)
slice_get_at (x ∷ es) zero e lt is = ap Some (sym is)
slice_get_at (x ∷ es) (suc i) e lt is = slice_get_at es i e (omega arith) is

table_of_none : (name : List ℕ) (o : Option Entry) → named_at name o ≡ false → table_named name o ≡ None
table_of_none name None e = refl
table_of_none name (Some entry) e = ap (λ b. if b then Some (arc_value entry.table) else None) e

-- an entry at the place of a name, where it has that name, or doesn't
module _ (name : List ℕ) (es seen again : List Entry) (i : ℕ) (named : Bool) (seen_is : seen ≡ es) (again_is : again ≡ es) (place : i ≡ place_in seen name) (tested : named ≡ named_at name (slice_get again i)) (rise : names_rise es ≡ true) where
  here : i ≡ place_in es name
  here = place ∙ ap (λ l. place_in l name) seen_is

  at_place : (b : Bool) → named ≡ b → named_at name (slice_get es i) ≡ b
  at_place b e = ap (λ l. named_at name (slice_get l i)) (sym again_is) ∙ sym tested ∙ e

  got : map.get (map.from_sorted {R = slice_cmp nat_cmp} (pairs_of es)) name ≡ table_named name (slice_get es i)
  got = get-place name es (T-from_true _ rise) ∙ ap (λ k. table_named name (slice_get es k)) (sym here)

  pub get_named : (e : Entry) → named ≡ true → i < length es → e ≡ get_or es i e → map.get (map.from_sorted {R = slice_cmp nat_cmp} (pairs_of es)) name ≡ Some (arc_value e.table)
  get_named e holds lt is =
      let found : slice_get es i ≡ Some e = slice_get_at es i e lt is in
      got ∙ ap (table_named name) found
      ∙ ap (λ b. if b then Some (arc_value e.table) else None) (sym (ap (named_at name) found) ∙ at_place true holds)

  pub get_unnamed : named ≡ false → map.get (map.from_sorted {R = slice_cmp nat_cmp} (pairs_of es)) name ≡ None
  get_unnamed fails = got ∙ table_of_none name (slice_get es i) (at_place false fails)

  pub named_same : (e : Entry) → named ≡ true → i < length es → e ≡ get_or es i e → arc_value e.name ≡ name
  named_same e holds lt is =
      names_same (arc_value e.name) name (sym (ap (named_at name) (slice_get_at es i e lt is)) ∙ at_place true holds)

  pub put_named : (table : Table) (new : Entry) → pair_of new ≡ (name, table) → named ≡ true → IsPut es name table (set es i new)
  put_named table new is holds =
      let at : named_at (arc_value new.name) (slice_get es (place_in es (arc_value new.name))) ≡ true =
      subst (λ (n : List ℕ). named_at n (slice_get es (place_in es n)) ≡ true) (sym (ap (λ p. p.0) is)) (ap (λ k. named_at name (slice_get es k)) (sym here) ∙ at_place true holds) in
      let put : IsPut es (arc_value new.name) (arc_value new.table) (set es (place_in es (arc_value new.name)) new) = is_put (arc_value new.name) (arc_value new.table) es _ rise (put_present new es at) in
      let there : place_in es (arc_value new.name) ≡ i = ap (place_in es) (ap (λ p. p.0) is) ∙ sym here in
      subst (λ (p : List ℕ × Table). IsPut es p.0 p.1 (set es i new)) is (subst (λ (k : ℕ). IsPut es (arc_value new.name) (arc_value new.table) (set es k new)) there put)

  pub put_unnamed : (table : Table) (new : Entry) → pair_of new ≡ (name, table) → named ≡ false → IsPut es name table (insert es i new)
  put_unnamed table new is fails =
      let at : named_at (arc_value new.name) (slice_get es (place_in es (arc_value new.name))) ≡ false =
      subst (λ (n : List ℕ). named_at n (slice_get es (place_in es n)) ≡ false) (sym (ap (λ p. p.0) is)) (ap (λ k. named_at name (slice_get es k)) (sym here) ∙ at_place false fails) in
      let put : IsPut es (arc_value new.name) (arc_value new.table) (insert es (place_in es (arc_value new.name)) new) = is_put (arc_value new.name) (arc_value new.table) es _ rise (put_absent new es at) in
      let there : place_in es (arc_value new.name) ≡ i = ap (place_in es) (ap (λ p. p.0) is) ∙ sym here in
      subst (λ (p : List ℕ × Table). IsPut es p.0 p.1 (insert es i new)) is (subst (λ (k : ℕ). IsPut es (arc_value new.name) (arc_value new.table) (insert es k new)) there put)

  pub remove_named : named ≡ true → IsRemoved es name (remove es i)
  remove_named holds =
      let at : named_at name (slice_get es (place_in es name)) ≡ true = ap (λ k. named_at name (slice_get es k)) (sym here) ∙ at_place true holds in
      subst (λ (k : ℕ). IsRemoved es name (remove es k)) (sym here) (is_removed name es _ rise (removed name es (T-from_true _ rise) at))

  pub remove_unnamed : named ≡ false → map.from_sorted {R = slice_cmp nat_cmp} (pairs_of es) ≡ map.remove (map.from_sorted {R = slice_cmp nat_cmp} (pairs_of es)) name
  remove_unnamed fails = none_removed (map.from_sorted {R = slice_cmp nat_cmp} (pairs_of es)) name (get_unnamed fails)

pub RowsAscend-get_or : (es : List Entry) (i : ℕ) (e : Entry) → RowsAscend es → i < length es → e ≡ get_or es i e → IsAscending (arc_value e.table).rows
RowsAscend-get_or es i e h lt is = RowsAscend-at es i e h (slice_get_at es i e lt is)

-- entries with the same pairs as ascending ones ascend
pub RowsAscend-pairs : (es fs : List Entry) → pairs_of fs ≡ pairs_of es → RowsAscend es → RowsAscend fs
RowsAscend-pairs es [] same h = tt
RowsAscend-pairs [] (f ∷ fs) same h = absurd (cc)
RowsAscend-pairs (e ∷ es) (f ∷ fs) same h =
    let first : pair_of f ≡ pair_of e = cc in
    let rest : pairs_of fs ≡ pairs_of es = cc in
    (subst (λ (p : List ℕ × Table). IsAscending p.1.rows) (sym first) h.0, RowsAscend-pairs es fs rest h.1)
