-- Rows in ascending order stay so where rows go or come.
use Rattle.std.proofs.Common.{◌≡◌, ℕ, zero, suc, ◌<◌, ◌≤◌, Bool, true, false, true≢false, List, [], ◌∷◌, length, get_or, Option, refl, sym, ap, subst, ◌∙◌, arith}
use Rattle.std.specs.Prelude.{slice_get, if◌then◌else◌}
use Rattle.std.specs.Cmp.{upto}
use Rattle.std.specs.List.{remove, AllWithin}
use Rattle.std.specs.List.Sorted.{IsPartitionedBy}
use Rattle.std.specs.Option.{option_map_or}
use Rattle.std.specs.Ordering.{is_eq, is_gt, is_lt, ordering_reverse}
use Rattle.std.specs.declared.cmp.Ordering.{Ordering}
use Rattle.std.specs.declared.cmp.Ordering.TheVariants.{Less, Equal, Greater}
use Rattle.dw_value.specs.declared.values.Row.{Row}
use Rattle.dw_value.specs.Values.{row_cmp}
use Rattle.dw_value.specs.Sorted.{put_sorted, add_sorted, sort}
use Rattle.dw_value.proofs.Antisymmetry.{row_cmp-IsAntisymmetric}
use Rattle.dw_value.proofs.SortedLaws.{put_sorted-after, put_sorted-here, sort-add_sorted}
use Rattle.dw_value.specs.ValueOrder.{row_cmp_total}
use Rattle.dw_model.specs.Changes.{same_row, without_row, without_rows, rows_changed}
use Rattle.dw_model.specs.Databases.{IsAscending}
use Rattle.dw_model.proofs.Places.{front_len, front_len_is}

-- a row isn't after the first of these
abbrev IsUpTo : Row → List Row → Type 0
IsUpTo a [] = Unit {0}
IsUpTo a (b ∷ rest) = is_gt (row_cmp a b) ≡ false

-- no row is after the next
abbrev IsChain : List Row → Type 0
IsChain [] = Unit {0}
IsChain (a ∷ rest) = IsUpTo a rest × IsChain rest

up_to_back : (a b : Row) (r : Ordering) → row_cmp a b ≡ r → is_gt r ≡ true → is_gt (row_cmp b a) ≡ false
up_to_back a b Less e h = absurd (true≢false (sym h))
up_to_back a b Equal e h = absurd (true≢false (sym h))
up_to_back a b Greater e h = ap is_gt (row_cmp_total.antisymm b a ∙ ap ordering_reverse e)

up_to_put_by : (b a c : Row) (rest : List Row) (t : Bool) → is_gt (row_cmp a c) ≡ t → is_gt (row_cmp b a) ≡ false
    → is_gt (row_cmp b c) ≡ false → IsUpTo b (put_sorted row_cmp a (c ∷ rest))
up_to_put_by b a c rest true e h up = subst (IsUpTo b) (sym (put_sorted-after row_cmp a c rest e)) up
up_to_put_by b a c rest false e h up = subst (IsUpTo b) (sym (put_sorted-here row_cmp a c rest e)) h

up_to_put : (b a : Row) (rest : List Row) → is_gt (row_cmp b a) ≡ false → IsUpTo b rest
    → IsUpTo b (put_sorted row_cmp a rest)
up_to_put b a [] h up = h
up_to_put b a (c ∷ rest) h up = up_to_put_by b a c rest (is_gt (row_cmp a c)) refl h up

chain_put_by : (a b : Row) (rest : List Row) (t : Bool) → is_gt (row_cmp a b) ≡ t → IsChain (b ∷ rest)
    → IsChain (put_sorted row_cmp a rest) → IsChain (put_sorted row_cmp a (b ∷ rest))
chain_put_by a b rest true e up put =
    subst IsChain (sym (put_sorted-after row_cmp a b rest e)) (up_to_put b a rest (up_to_back a b (row_cmp a b) refl e) up.0, put)
chain_put_by a b rest false e up put = subst IsChain (sym (put_sorted-here row_cmp a b rest e)) (e, up)

chain_put : (a : Row) (rows : List Row) → IsChain rows → IsChain (put_sorted row_cmp a rows)
chain_put a [] up = (tt, tt)
chain_put a (b ∷ rest) up = chain_put_by a b rest (is_gt (row_cmp a b)) refl up (chain_put a rest up.1)

chain_sort : (rows : List Row) → IsChain (sort row_cmp rows)
chain_sort [] = tt
chain_sort (row ∷ rows) = chain_put row (sort row_cmp rows) (chain_sort rows)

least_put : (a : Row) (rows : List Row) → IsUpTo a rows → put_sorted row_cmp a rows ≡ a ∷ rows
least_put a [] up = refl
least_put a (b ∷ rest) up = put_sorted-here row_cmp a b rest up

-- a chain ascends
ascending_chain : (rows : List Row) → IsChain rows → IsAscending rows
ascending_chain [] up = refl
ascending_chain (row ∷ rows) up = ap (put_sorted row_cmp row) (ascending_chain rows up.1) ∙ least_put row rows up.0

chain_ascending : (rows : List Row) → IsAscending rows → IsChain rows
chain_ascending rows up = subst IsChain up (chain_sort rows)

up_to_rest : (a b : Row) (rest : List Row) → is_gt (row_cmp a b) ≡ false → IsUpTo b rest → IsUpTo a rest
up_to_rest a b [] h up = tt
up_to_rest a b (c ∷ rest) h up = upto row_cmp_total a b c h up

up_to_without_by : (a row b : Row) (rest : List Row) (t : Bool) → is_gt (row_cmp a b) ≡ false → IsUpTo b rest
    → IsUpTo a (if t then rest else b ∷ without_row row rest)
up_to_without_by a row b rest true h up = up_to_rest a b rest h up
up_to_without_by a row b rest false h up = h

up_to_without : (a row : Row) (rows : List Row) → IsUpTo a rows → IsChain rows → IsUpTo a (without_row row rows)
up_to_without a row [] h up = tt
up_to_without a row (b ∷ rest) h up = up_to_without_by a row b rest (same_row row b) h up.0

chain_without_by : (row b : Row) (rest : List Row) (t : Bool) → IsChain (b ∷ rest) → IsChain (without_row row rest)
    → IsChain (if t then rest else b ∷ without_row row rest)
chain_without_by row b rest true up without = up.1
chain_without_by row b rest false up without = (up_to_without b row rest up.0 up.1, without)

chain_without : (row : Row) (rows : List Row) → IsChain rows → IsChain (without_row row rows)
chain_without row [] up = tt
chain_without row (b ∷ rest) up = chain_without_by row b rest (same_row row b) up (chain_without row rest up.1)

-- rows in ascending order, without one of them
pub ascending_without_row : (row : Row) (rows : List Row) → IsAscending rows → IsAscending (without_row row rows)
ascending_without_row row rows up = ascending_chain (without_row row rows) (chain_without row rows (chain_ascending rows up))

-- and without several
pub ascending_without_rows : (gone rows : List Row) → IsAscending rows → IsAscending (without_rows gone rows)
ascending_without_rows [] rows up = up
ascending_without_rows (row ∷ gone) rows up =
    ascending_without_rows gone (without_row row rows) (ascending_without_row row rows up)

-- with others, each at its place
pub ascending_with_rows : (added rows : List Row) → IsAscending rows → IsAscending (add_sorted row_cmp added rows)
ascending_with_rows added rows up =
    sort-add_sorted row_cmp_total row_cmp-IsAntisymmetric added rows ∙ ap (add_sorted row_cmp added) up

-- rows from which some go and to which others come
pub ascending_rows_changed : (gone added rows : List Row) → IsAscending rows → IsAscending (rows_changed gone added rows)
ascending_rows_changed gone added rows up =
    ascending_with_rows added (without_rows gone rows) (ascending_without_rows gone rows up)

-- ---- the place of a row among rows in ascending order
-- how many rows at the front are below this one
abbrev row_place : Row → List Row → ℕ
row_place row rows = front_len (λ other. is_lt (row_cmp other row)) rows

-- an equal row stands at a place
abbrev pub stands_at : Row → Option Row → Bool
stands_at row found = option_map_or (same_row row) found false

below_from : (a b : Row) (r : Ordering) → row_cmp a b ≡ r → is_lt r ≡ true → row_cmp a b ≡ Less
below_from a b Less e h = e
below_from a b Equal e h = absurd (true≢false (sym h))
below_from a b Greater e h = absurd (true≢false (sym h))

below_up_to : (a b c : Row) → is_gt (row_cmp a b) ≡ false → is_lt (row_cmp b c) ≡ true → is_lt (row_cmp a c) ≡ true
below_up_to a b c e f = sides (row_cmp a b) refl e where
  less : row_cmp b c ≡ Less
  less = below_from b c (row_cmp b c) refl f

  sides : (r : Ordering) → row_cmp a b ≡ r → is_gt r ≡ false → is_lt (row_cmp a c) ≡ true
  sides Less is e = ap is_lt (row_cmp_total.trans a b c is less)
  sides Equal is e = ap is_lt (row_cmp_total.congr a b c is ∙ less)
  sides Greater is e = absurd (true≢false e)

below_first : (row first : Row) (rest : List Row) (j : ℕ) (d : Row) → IsChain (first ∷ rest) → j < length rest
    → is_lt (row_cmp (get_or rest j d) row) ≡ true → is_lt (row_cmp first row) ≡ true
below_first row first [] j d up lt e = absurd (omega arith)
below_first row first (next ∷ rest) zero d up lt e = below_up_to first next row up.0 e
below_first row first (next ∷ rest) (suc j) d up lt e =
    below_up_to first next row up.0 (below_first row next rest j d up.1 (omega arith) e)

chain_parted : (row : Row) (rows : List Row) → IsChain rows → IsPartitionedBy (λ other. is_lt (row_cmp other row)) rows
chain_parted row [] up i j d le lt e = absurd (omega arith)
chain_parted row (first ∷ rest) up zero zero d le lt e = e
chain_parted row (first ∷ rest) up zero (suc j) d le lt e = below_first row first rest j d up (omega arith) e
chain_parted row (first ∷ rest) up (suc i) zero d le lt e = absurd (omega arith)
chain_parted row (first ∷ rest) up (suc i) (suc j) d le lt e = chain_parted row rest up.1 i j d (omega arith) (omega arith) e

-- those below a row stand at the front
pub rows_parted : (row : Row) (rows : List Row) → IsAscending rows → IsPartitionedBy (λ other. is_lt (row_cmp other row)) rows
rows_parted row rows up = chain_parted row rows (chain_ascending rows up)

other_by : (row b : Row) (rest : List Row) → same_row row b ≡ false → without_row row rest ≡ rest → without_row row (b ∷ rest) ≡ b ∷ rest
other_by row b rest e is = ap (λ t. if t then rest else b ∷ without_row row rest) e ∙ ap (λ l. b ∷ l) is

-- a row is below the first of these
abbrev IsBelowFirst : Row → List Row → Type 0
IsBelowFirst row [] = Unit {0}
IsBelowFirst row (first ∷ rest) = row_cmp row first ≡ Less

below_next : (row b c : Row) (r : Ordering) → row_cmp row b ≡ Less → row_cmp b c ≡ r → is_gt r ≡ false → row_cmp row c ≡ Less
below_next row b c Less here is e = row_cmp_total.trans row b c here is
below_next row b c Equal here is e = ap (λ (x : Row). row_cmp row x) (sym (row_cmp-IsAntisymmetric b c is)) ∙ here
below_next row b c Greater here is e = absurd (true≢false e)

below_rest : (row b : Row) (rest : List Row) → row_cmp row b ≡ Less → IsUpTo b rest → IsBelowFirst row rest
below_rest row b [] here up = tt
below_rest row b (c ∷ rest) here up = below_next row b c (row_cmp b c) here refl up

-- a row below all of these isn't among them
none_equal : (row : Row) (rows : List Row) → IsChain rows → IsBelowFirst row rows → without_row row rows ≡ rows
none_equal row [] up less = refl
none_equal row (b ∷ rest) up less = other_by row b rest (ap is_eq less) (none_equal row rest up.1 (below_rest row b rest less up.0))

past_first : (row first : Row) (rest : List Row) (i : ℕ) (t : Bool)
    → first ∷ (if t then remove rest i else rest) ≡ (if t then remove (first ∷ rest) (suc i) else first ∷ rest)
past_first row first rest i true = refl
past_first row first rest i false = refl

without_by : (row first : Row) (rest : List Row) (r : Ordering) → row_cmp first row ≡ r → IsChain (first ∷ rest)
    → without_row row rest ≡ (if stands_at row (slice_get rest (row_place row rest)) then remove rest (row_place row rest) else rest)
    → without_row row (first ∷ rest) ≡ (if stands_at row (slice_get (first ∷ rest) (if is_lt r then suc (row_place row rest) else 0))
    then remove (first ∷ rest) (if is_lt r then suc (row_place row rest) else 0) else first ∷ rest)
without_by row first rest Less is up e =
    let back : row_cmp row first ≡ Greater = row_cmp_total.antisymm row first ∙ ap ordering_reverse is in
    ap (λ r. if is_eq r then rest else first ∷ without_row row rest) back
    ∙ ap (λ l. first ∷ l) e
    ∙ past_first row first rest (row_place row rest) (stands_at row (slice_get rest (row_place row rest)))
without_by row first rest Equal is up e =
    let back : row_cmp row first ≡ Equal = row_cmp_total.antisymm row first ∙ ap ordering_reverse is in
    ap (λ r. if is_eq r then rest else first ∷ without_row row rest) back
    ∙ sym (ap (λ r. if is_eq r then rest else first ∷ rest) back)
without_by row first rest Greater is up e =
    let back : row_cmp row first ≡ Less = row_cmp_total.antisymm row first ∙ ap ordering_reverse is in
    none_equal row (first ∷ rest) up back
    ∙ sym (ap (λ r. if is_eq r then rest else first ∷ rest) back)

chain_without_row : (row : Row) (rows : List Row) → IsChain rows
    → without_row row rows ≡ (if stands_at row (slice_get rows (row_place row rows)) then remove rows (row_place row rows) else rows)
chain_without_row row [] up = refl
chain_without_row row (first ∷ rest) up =
    without_by row first rest (row_cmp first row) refl up (chain_without_row row rest up.1)

-- a row is taken from its place, where it is there
pub without_row-parted : (row : Row) (rows front seen : List Row) (i : ℕ) (stands : Bool) → IsAscending rows → front ≡ rows → seen ≡ rows → i ≤ length front
    → AllWithin (λ other. is_lt (row_cmp other row) ≡ true) front 0 i → AllWithin (λ other. is_lt (row_cmp other row) ≡ false) front i (length front)
    → stands ≡ stands_at row (slice_get seen i) → without_row row rows ≡ (if stands then remove rows i else rows)
without_row-parted row rows front seen i stands up same again le below others test =
    let place : i ≡ row_place row rows = front_len_is (λ other. is_lt (row_cmp other row)) front i le below others ∙ ap (row_place row) same in
    let is : stands ≡ stands_at row (slice_get rows (row_place row rows)) = test ∙ (λ k. stands_at row (slice_get (again k) (place k))) in
    chain_without_row row rows (chain_ascending rows up) ∙ (λ k. if sym is k then remove rows (sym place k) else rows)
