-- Ids in a row, after others that are less.
use Rattle.std.specs.Prelude.{All, nat_eq, if◌then◌else◌}
use Rattle.std.specs.List.{IsDistinct, AllByRecursion, range_with_len}
use Rattle.std.proofs.Common.{◌≡◌, ℕ, zero, suc, ◌<◌, ◌≤◌, ◌+◌, Bool, true, false, ◌||◌, List, [], ◌∷◌, ◌++◌, refl, sym, ap, subst, ◌∙◌, arith}
use Rattle.std.proofs.lemmas.Bool.Decides.{nat_tests}
use Rattle.std.proofs.lemmas.List.Elements.{All-head, All-tail, All-cons, All-nil, All-weaker, All-append, All-push}
use Rattle.std.proofs.lemmas.List.{map-append}
use Rattle.dw_value.specs.declared.values.Row.{Row}
use Rattle.dw_slice.specs.declared.packed.Storage.{Storage}
use Rattle.dw_slice.specs.declared.slices.Entry.{Entry}
use Rattle.dw_slice.specs.declared.slices.Fresh.{Fresh}
use Rattle.dw_slice.specs.Columns.{FitsColumns}
use Rattle.dw_slice.specs.Slices.{SliceView, AreEntries, is_among, ids_of, rows_of, fresh_ids, fresh_rows, changes, marked, appended, changed_slice}
use Rattle.dw_slice.proofs.Changing.{ids_after, AreNew}

-- an id past all others is none of them
differs : (x n id : ℕ) → x < n → n ≤ id → nat_eq x id ≡ false
differs x n id l le = grind (arith, nat_tests)

either_none : (a b : Bool) → a ≡ false → b ≡ false → (a || b) ≡ false
either_none true b e f = e
either_none false b e f = f

none_past : (ids : List ℕ) (n id : ℕ) → All (λ x. x < n) ids → n ≤ id → is_among ids id ≡ false
none_past [] n id all le = refl
none_past (x ∷ ids) n id all le =
    either_none (nat_eq x id) (is_among ids id) (differs x n id (All-head (λ y. y < n) x ids all) le) (none_past ids n id (All-tail (λ y. y < n) x ids all) le)

range_from : (count from : ℕ) → All (λ id. from ≤ id) (range_with_len from count)
range_from zero from = All-nil (λ id. from ≤ id)
range_from (suc count) from =
    All-cons (λ id. from ≤ id) from (range_with_len (from + 1) count) (omega arith) (All-weaker (λ id. from + 1 ≤ id) (λ id. from ≤ id) (λ id l. omega arith) (range_with_len (from + 1) count) (range_from count (from + 1)))

range_below : (count from : ℕ) → All (λ id. id < from + count) (range_with_len from count)
range_below zero from = All-nil (λ id. id < from + zero)
range_below (suc count) from =
    All-cons (λ id. id < from + suc count) from (range_with_len (from + 1) count) (omega arith) (All-weaker (λ id. id < (from + 1) + count) (λ id. id < from + suc count) (λ id l. omega arith) (range_with_len (from + 1) count) (range_below count (from + 1)))

apart : (count x from : ℕ) → x < from → AllByRecursion (λ y. nat_eq x y ≡ false) (range_with_len from count)
apart zero x from l = tt
apart (suc count) x from l = (differs x from from l (omega arith), apart count x (from + 1) (omega arith))

pub range_distinct : (count from : ℕ) → IsDistinct nat_eq (range_with_len from count)
unfolding IsDistinct
range_distinct zero from = tt
range_distinct (suc count) from = (apart count from (from + 1) (omega arith), range_distinct count (from + 1))

-- such ids are new
pub range_new : (entries : List Entry) (from count : ℕ) (ids : List ℕ) → ids ≡ range_with_len from count → All (λ id. id < from) (ids_of entries) → All (λ id. is_among (ids_of entries) id ≡ false) ids
range_new entries from count ids e below =
    subst (λ (xs : List ℕ). All (λ id. is_among (ids_of entries) id ≡ false) xs) (sym e)
    (All-weaker (λ id. from ≤ id) (λ id. is_among (ids_of entries) id ≡ false) (λ id le. none_past (ids_of entries) from id below le) (range_with_len from count) (range_from count from))

-- and all ids are below the next one then
pub all_below : (stamp : ℕ) (gone : List ℕ) (fresh : List Fresh) (entries : List Entry) (from count : ℕ) → fresh_ids fresh ≡ range_with_len from count → All (λ id. id < from) (ids_of entries)
    → All (λ id. id < from + count) (ids_of (appended stamp fresh (marked stamp gone entries)))
all_below stamp gone fresh entries from count e below =
    subst (λ (xs : List ℕ). All (λ id. id < from + count) xs) (sym (ids_after stamp gone fresh entries ∙ ap (λ (xs : List ℕ). ids_of entries ++ xs) e))
    (All-append (λ id. id < from + count) (ids_of entries) (range_with_len from count)
    (All-weaker (λ id. id < from) (λ id. id < from + count) (λ id l. omega arith) (ids_of entries) below) (range_below count from))

number_by : (t : Bool) (n : ℕ) → (if t then n + 1 else n) ≤ n + 1
number_by true n = omega arith
number_by false n = omega arith

-- the change number rises by one at most
pub one_at_most : (stamp : ℕ) (gone : List ℕ) (fresh : List Fresh) (before after : SliceView) → after ≡ changed_slice stamp gone fresh before → after.number ≤ before.number + 1
one_at_most stamp gone fresh before after e = omega (arith, ap (λ (v : SliceView). v.number) e, number_by (changes gone fresh before.entries) before.number)

-- where nothing is inserted, the ids stay below
pub still_below : (stamp : ℕ) (gone : List ℕ) (fresh : List Fresh) (entries : List Entry) (n : ℕ) → fresh ≡ [] → All (λ id. id < n) (ids_of entries) → All (λ id. id < n) (ids_of (appended stamp fresh (marked stamp gone entries)))
still_below stamp gone fresh entries n e below =
    All-weaker (λ id. id < n + 0) (λ id. id < n) (λ id l. omega arith) (ids_of (appended stamp fresh (marked stamp gone entries))) (all_below stamp gone fresh entries n 0 (ap fresh_ids e) below)

range_more : (n from : ℕ) → range_with_len from (suc n) ≡ range_with_len from n ++ (from + n) ∷ []
range_more zero from = let e : from ≡ from + 0 = omega arith in ap (λ (k : ℕ). k ∷ []) e
range_more (suc n) from =
    let e : (from + 1) + n ≡ from + suc n = omega arith in
    ap (λ (ks : List ℕ). from ∷ ks) (range_more n (from + 1) ∙ ap (λ (k : ℕ). range_with_len (from + 1) n ++ k ∷ []) e)

ids_more : (ids new : List ℕ) (from place id : ℕ) → new ≡ ids ++ id ∷ [] → id ≡ from + place → ids ≡ range_with_len from place → new ≡ range_with_len from (place + 1)
ids_more ids new from place id p e were =
    let next : suc place ≡ place + 1 = omega arith in
    p ∙ ap (λ (ks : List ℕ). ks ++ id ∷ []) were ∙ ap (λ (k : ℕ). range_with_len from place ++ k ∷ []) e ∙ sym (range_more place from) ∙ ap (range_with_len from) next

-- one fresh row more, and one entry more
pub fresh_ids_more : (from place : ℕ) (fresh new : List Fresh) (one : Fresh) → new ≡ fresh ++ one ∷ [] → one.id ≡ from + place → fresh_ids fresh ≡ range_with_len from place → fresh_ids new ≡ range_with_len from (place + 1)
fresh_ids_more from place fresh new one p e were = ids_more (fresh_ids fresh) (fresh_ids new) from place one.id (ap fresh_ids p ∙ map-append (λ (f : Fresh). f.id) fresh (one ∷ [])) e were

pub fresh_rows_more : (P : Row → Type 0) (fresh new : List Fresh) (one : Fresh) → new ≡ fresh ++ one ∷ [] → P one.row → All P (fresh_rows fresh) → All P (fresh_rows new)
fresh_rows_more P fresh new one p fits all = subst (All P) (sym (ap fresh_rows p ∙ map-append (λ (f : Fresh). f.row) fresh (one ∷ []))) (All-push P (fresh_rows fresh) one.row all fits)

pub entry_ids_more : (place : ℕ) (entries new : List Entry) (one : Entry) → new ≡ entries ++ one ∷ [] → one.id ≡ place → ids_of entries ≡ range_with_len 0 place → ids_of new ≡ range_with_len 0 (place + 1)
entry_ids_more place entries new one p e were =
    let zero_more : place ≡ 0 + place = omega arith in
    ids_more (ids_of entries) (ids_of new) 0 place one.id (ap ids_of p ∙ map-append (λ (f : Entry). f.id) entries (one ∷ [])) (e ∙ zero_more) were

pub entry_rows_more : (P : Row → Type 0) (entries new : List Entry) (one : Entry) → new ≡ entries ++ one ∷ [] → P one.row → All P (rows_of entries) → All P (rows_of new)
entry_rows_more P entries new one p fits all = subst (All P) (sym (ap rows_of p ∙ map-append (λ (f : Entry). f.row) entries (one ∷ []))) (All-push P (rows_of entries) one.row all fits)

pub are_entries : (columns : List Storage) (count : ℕ) (entries : List Entry) → ids_of entries ≡ range_with_len 0 count → All (FitsColumns columns) (rows_of entries) → AreEntries columns entries
are_entries columns count entries e fit = record { fit = fit; different = subst (IsDistinct nat_eq) (sym e) (range_distinct count 0) }

-- no rows are new
pub none_new : (columns : List Storage) (entries : List Entry) (fresh : List Fresh) → fresh ≡ [] → AreNew columns entries fresh
unfolding IsDistinct
none_new columns entries fresh e =
    let none : AreNew columns entries [] = record { fit = λ k d l. absurd (omega arith); different = tt; new = λ k d l. absurd (omega arith) } in
    subst (λ (f : List Fresh). AreNew columns entries f) (sym e) none
