-- Sessions of the table told one after another.
use Rattle.std.proofs.Common.{◌≡◌, ℕ, zero, suc, ◌+◌, ◌<◌, ◌≤◌, Bool, true, false, List, [], ◌∷◌, ◌++◌, ◌==◌, ◌⊎◌, inl, inr, length, map, get_or, ap, sym, refl, ◌∙◌, arith}
use Rattle.std.specs.Prelude.{replicate, Some, if◌then◌else◌}
use Rattle.std.specs.List.{filter, find, range_with_len}
use Rattle.std.proofs.Math.Path.{fun_ext}
use Rattle.std.proofs.lemmas.Bool.{cases_lt, eqb-true}
use Rattle.std.proofs.lemmas.List.{get_or_past, get_or_default, replicate_more}
use Rattle.std.proofs.lemmas.List.FromFn.{map-range_with_len_more, get_or-map-range_with_len, length-map-range_with_len}
use Rattle.dw_journal.specs.declared.locks.Want.{Want}
use Rattle.dw_journal.specs.Locks.{first_cycle}
use Rattle.dw_locks.specs.Walks.{waits_in}
use Rattle.dw_locks.specs.LockTable.{LockTable, LockEntry, entry_of, free_entry, blockers_of, table_blockers, table_waits_for, table_would_wait_for, table_cycle}

-- one more number of a range is told
more_by : (p : ℕ → Bool) (from count at : ℕ) (b : Bool) → p from ≡ b
    → filter p (range_with_len (from + 1) (count + 1)) ≡ filter p (range_with_len (from + 1) count) ++ filter p (at ∷ [])
    → filter p (range_with_len from (suc (count + 1))) ≡ filter p (range_with_len from (suc count)) ++ filter p (at ∷ [])
more_by p from count at true told later = rw told (ap (λ rest. from ∷ rest) later)
more_by p from count at false told later = rw told later

pub filter_more : (p : ℕ → Bool) (from count at : ℕ) → from + count ≡ at
    → filter p (range_with_len from (count + 1)) ≡ filter p (range_with_len from count) ++ filter p (at ∷ [])
filter_more p from zero at is = let same : from ≡ at = omega (arith, is) in ap (λ at. filter p (at ∷ [])) same
filter_more p from (suc count) at is =
    let next : suc count + 1 ≡ suc (count + 1) = omega arith in
    ap (λ count. filter p (range_with_len from count)) next
    ∙ more_by p from count at (p from) refl (filter_more p (from + 1) count at (omega (arith, is)))

pub told_more : (p : ℕ → Bool) (count : ℕ) (so_far pushed : List ℕ) → p count ≡ true → pushed ≡ so_far ++ count ∷ []
    → so_far ≡ filter p (range_with_len 0 count) → pushed ≡ filter p (range_with_len 0 (count + 1))
told_more p count so_far pushed told pushes is =
    pushes ∙ ap (λ so_far. so_far ++ count ∷ []) is
    ∙ sym (filter_more p 0 count count (omega arith) ∙ ap (λ b. filter p (range_with_len 0 count) ++ (if b then count ∷ [] else [])) told)

pub told_no_more : (p : ℕ → Bool) (count : ℕ) (so_far : List ℕ) → p count ≡ false
    → so_far ≡ filter p (range_with_len 0 count) → so_far ≡ filter p (range_with_len 0 (count + 1))
told_no_more p count so_far told is =
    is ∙ sym (filter_more p 0 count count (omega arith)
    ∙ ap (λ b. filter p (range_with_len 0 count) ++ (if b then count ∷ [] else [])) told ∙ append_none (filter p (range_with_len 0 count)))
  where
    append_none : (all : List ℕ) → all ++ [] ≡ all
    append_none [] = refl
    append_none (one ∷ all) = ap (λ rest. one ∷ rest) (append_none all)

-- what is found in a range, number by number
pub find_here : (p : ℕ → Bool) (from count : ℕ) → p from ≡ true → find p (range_with_len from (suc count)) ≡ Some from
find_here p from count told = rw told refl

pub find_later : (p : ℕ → Bool) (from count : ℕ) → p from ≡ false
    → find p (range_with_len from (suc count)) ≡ find p (range_with_len (from + 1) count)
find_later p from count told = rw told refl

-- a session that isn't in the table waits for nobody
none_waits : (table : LockTable) (asker : ℕ) (wants : List Want) (session : ℕ) (b : Bool) → asker < length table → length table ≤ session
    → (session == asker) ≡ b → table_would_wait_for table asker wants session ≡ []
none_waits table asker wants session true among past is =
    let same : session ≡ asker = eqb-true session asker is in absurd (omega (arith, among, past, same))
none_waits table asker wants session false among past is =
    ap (λ b. if b then table_blockers table asker wants else table_waits_for table session) is
    ∙ ap (λ entry. blockers_of table session entry.waits) (get_or_past table session free_entry past)

-- the lines of a table of waits are those of its sessions
lines_are : (next : ℕ → List ℕ) (waits : List (List ℕ)) (count session : ℕ) → waits ≡ map next (range_with_len 0 count)
    → ((session : ℕ) → count ≤ session → next session ≡ []) → (session < count) ⊎ (count ≤ session) → waits_in waits session ≡ next session
lines_are next waits count session is none (inl within) =
    ap (λ waits. get_or waits session []) is ∙ get_or-map-range_with_len next 0 count session session [] within (omega arith)
lines_are next waits count session is none (inr past) =
    let long : length waits ≤ session = omega (arith, past, ap length is, length-map-range_with_len next 0 count) in
    get_or_past waits session [] long ∙ sym (none session past)

-- so the cycle is that of the table
pub cycle_is : (table : LockTable) (asker : ℕ) (wants : List Want) (waits : List (List ℕ)) → asker < length table
    → waits ≡ map (table_would_wait_for table asker wants) (range_with_len 0 (length table))
    → first_cycle (waits_in waits) asker (range_with_len 0 (length waits)) ≡ table_cycle table asker wants
cycle_is table asker wants waits among is =
    let next = table_would_wait_for table asker wants in
    let same : waits_in waits ≡ table_would_wait_for table asker wants = fun_ext (λ session. lines_are next waits (length table) session is
    (λ session past. none_waits table asker wants session (session == asker) among past refl) (cases_lt session (length table))) in
    let long : length waits ≡ length table = ap length is ∙ length-map-range_with_len next 0 (length table) in
    ap (λ next. first_cycle next asker (range_with_len 0 (length waits))) same
    ∙ ap (λ count. first_cycle (table_would_wait_for table asker wants) asker (range_with_len 0 count)) long

pub length-waits : (next : ℕ → List ℕ) (waits : List (List ℕ)) (count : ℕ) → waits ≡ map next (range_with_len 0 count) → length waits ≡ count
length-waits next waits count is = ap length is ∙ length-map-range_with_len next 0 count

pub waits_more : (next : ℕ → List ℕ) (waits pushed : List (List ℕ)) (count : ℕ) (line : List ℕ) → pushed ≡ waits ++ line ∷ []
    → waits ≡ map next (range_with_len 0 count) → line ≡ next count → pushed ≡ map next (range_with_len 0 (count + 1))
waits_more next waits pushed count line pushes is same =
    pushes ∙ ap (λ waits. waits ++ line ∷ []) is ∙ ap (λ line. map next (range_with_len 0 count) ++ line ∷ []) same
    ∙ sym (map-range_with_len_more next 0 count count (omega arith))

-- the entry at a place, whatever stands for one that isn't there
pub entry_is : (table : LockTable) (session : ℕ) (entry : LockEntry) → entry ≡ get_or table session entry → session < length table
    → entry ≡ entry_of table session
entry_is table session entry is within = is ∙ get_or_default table session entry free_entry within

-- one more entry that is alike
pub alike_more : (count : ℕ) (entries pushed : LockTable) (entry : LockEntry) → pushed ≡ entries ++ entry ∷ [] → entries ≡ replicate count entry
    → pushed ≡ replicate (count + 1) entry
alike_more count entries pushed entry pushes are =
    pushes ∙ ap (λ entries. entries ++ entry ∷ []) are ∙ replicate_more count entry
