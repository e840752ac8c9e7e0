-- What deletions do to marks, to chunks and to entries.
use Rattle.std.specs.Prelude.{All, if◌then◌else◌, MatchOption, Option}
use Rattle.std.specs.List.{list_any, AllZip}
use Rattle.std.specs.Option.{is_none}
use Rattle.std.proofs.Common.{◌≡◌, ℕ, zero, suc, ◌<◌, ◌≤◌, ◌+◌, Bool, true, false, ◌&&◌, ◌||◌, not, Some, None, List, [], ◌∷◌, ◌++◌, map, length, get_or, take, refl, sym, ap, subst, ◌∙◌, arith}
use Rattle.std.proofs.lemmas.Bool.Decides.{nat_tests}
use Rattle.std.proofs.lemmas.List.{map-append, length-map, take_more, take_all}
use Rattle.std.proofs.lemmas.List.Folds.{list_any-append}
use Rattle.std.proofs.lemmas.List.Elements.{All-head, All-tail, All-more, All-weaker}
use Rattle.dw_value.specs.declared.values.Row.{Row}
use Rattle.dw_slice.specs.declared.packed.Storage.{Storage}
use Rattle.dw_slice.specs.declared.marks.Mark.{Mark}
use Rattle.dw_slice.specs.declared.chunks.Chunk.{Chunk}
use Rattle.dw_slice.specs.declared.slices.Entry.{Entry}
use Rattle.dw_slice.specs.Packed.{PackedView}
use Rattle.dw_slice.specs.Marks.{mark_goes, marked_mark, is_within, HasIdWithin}
use Rattle.dw_slice.specs.Chunks.{entry_of, zip_entries, marks_in, packed_in, chunk_entries, all_entries, IsChunk, IsCut}
use Rattle.dw_slice.specs.Building.{IsMarkedChunk, chunk_goes}
use Rattle.dw_slice.specs.Slices.{is_among, goes, marked_entry, marked, ids_of, rows_of}

pub or_left : (a b : Bool) → (a || b) ≡ false → a ≡ false
or_left true b e = e
or_left false b e = refl

pub or_right : (a b : Bool) → (a || b) ≡ false → b ≡ false
or_right true b e = cc
or_right false b e = e

pub or_none : (t : Bool) → (t || false) ≡ t
or_none true = refl
or_none false = refl

and_none : (a b : Bool) → b ≡ false → (a && b) ≡ false
and_none true b e = e
and_none false b e = refl

pub not_true : (t : Bool) → not t ≡ true → t ≡ false
not_true true e = cc
not_true false e = refl

-- an id outside of bounds is none within them
outside : (low high id n : ℕ) → is_within low high id ≡ false → low ≤ n → n ≤ high → id ≡ n → ⊥
outside low high id n e above below is = grind (arith, nat_tests)

none_among : (gone : List ℕ) (low high n : ℕ) → list_any (is_within low high) gone ≡ false → low ≤ n → n ≤ high → is_among gone n ≡ false
none_among [] low high n h above below = refl
none_among (id ∷ gone) low high n h above below =
    let rest : is_among gone n ≡ false = none_among gone low high n (or_right (is_within low high id) (list_any (is_within low high) gone) h) above below in
    let differs : id ≡ n → ⊥ = outside low high id n (or_left (is_within low high id) (list_any (is_within low high) gone) h) above below in
    grind (arith, nat_tests, rest, differs)

-- no mark goes where no id is within the bounds
pub none_goes : (gone : List ℕ) (low high : ℕ) (marks : List Mark) → All (HasIdWithin low high) marks → list_any (is_within low high) gone ≡ false → list_any (mark_goes gone) marks ≡ false
none_goes gone low high [] all h = refl
none_goes gone low high (m ∷ marks) all h =
    let head : HasIdWithin low high m = All-head (HasIdWithin low high) m marks all in
    let no : mark_goes gone m ≡ false = and_none (is_none m.deleted) (is_among gone m.id) (none_among gone low high m.id h head.above head.below) in
    ap (λ (t : Bool). t || list_any (mark_goes gone) marks) no ∙ none_goes gone low high marks (All-tail (HasIdWithin low high) m marks all) h

stays_by : (t : Bool) (stamp : ℕ) (m : Mark) → t ≡ false → (if t then (let x : Mark = record m { deleted = Some stamp } in x) else m) ≡ m
stays_by true stamp m e = cc
stays_by false stamp m e = refl

-- where no mark goes, all stay as they are
pub unmarked : (stamp : ℕ) (gone : List ℕ) (marks : List Mark) → list_any (mark_goes gone) marks ≡ false → map (marked_mark stamp gone) marks ≡ marks
unmarked stamp gone [] h = refl
unmarked stamp gone (m ∷ marks) h =
    ap (λ (x : Mark). x ∷ map (marked_mark stamp gone) marks) (stays_by (mark_goes gone m) stamp m (or_left (mark_goes gone m) (list_any (mark_goes gone) marks) h))
    ∙ ap (λ (xs : List Mark). m ∷ xs) (unmarked stamp gone marks (or_right (mark_goes gone m) (list_any (mark_goes gone) marks) h))

entry_by : (t : Bool) (stamp : ℕ) (m : Mark) (r : Row)
    → (if t then (let x : Entry = record (entry_of m r) { deleted = Some stamp } in x) else entry_of m r) ≡ entry_of (if t then (let y : Mark = record m { deleted = Some stamp } in y) else m) r
entry_by true stamp m r = refl
entry_by false stamp m r = refl

-- entries are marked by their marks
zip_marked : (stamp : ℕ) (gone : List ℕ) (marks : List Mark) (rows : List Row) → marked stamp gone (zip_entries marks rows) ≡ zip_entries (map (marked_mark stamp gone) marks) rows
zip_marked stamp gone [] rows = refl
zip_marked stamp gone (m ∷ marks) [] = refl
zip_marked stamp gone (m ∷ marks) (r ∷ rows) =
    ap (λ (e : Entry). e ∷ marked stamp gone (zip_entries marks rows)) (entry_by (mark_goes gone m) stamp m r)
    ∙ ap (λ (es : List Entry). entry_of (marked_mark stamp gone m) r ∷ es) (zip_marked stamp gone marks rows)

zip_goes : (gone : List ℕ) (marks : List Mark) (rows : List Row) → length marks ≡ length rows → list_any (goes gone) (zip_entries marks rows) ≡ list_any (mark_goes gone) marks
zip_goes gone [] rows e = refl
zip_goes gone (m ∷ marks) [] e = absurd (omega (arith, e))
zip_goes gone (m ∷ marks) (r ∷ rows) e = ap (λ (t : Bool). mark_goes gone m || t) (zip_goes gone marks rows (omega (arith, e)))

chunk_marked : (stamp : ℕ) (gone : List ℕ) (b a : Chunk) → IsMarkedChunk stamp gone b a → chunk_entries a ≡ marked stamp gone (chunk_entries b)
chunk_marked stamp gone b a is =
    ap (λ (ms : List Mark). zip_entries ms (packed_in a).rows) is.marks
    ∙ ap (λ (p : PackedView). zip_entries (map (marked_mark stamp gone) (marks_in b)) p.rows) is.packed
    ∙ sym (zip_marked stamp gone (marks_in b) (packed_in b).rows)

pub all_marked : (stamp : ℕ) (gone : List ℕ) (before after : List Chunk) → AllZip (IsMarkedChunk stamp gone) before after → all_entries after ≡ marked stamp gone (all_entries before)
all_marked stamp gone [] [] z = refl
all_marked stamp gone [] (a ∷ after) z = absurd z
all_marked stamp gone (b ∷ before) [] z = absurd z
all_marked stamp gone (b ∷ before) (a ∷ after) z =
    ap (λ (es : List Entry). es ++ all_entries after) (chunk_marked stamp gone b a z.0)
    ∙ ap (λ (es : List Entry). marked stamp gone (chunk_entries b) ++ es) (all_marked stamp gone before after z.1)
    ∙ sym (map-append (marked_entry stamp gone) (chunk_entries b) (all_entries before))

pub any_goes : (gone : List ℕ) (columns : List Storage) (chunks : List Chunk) → All (IsChunk columns) chunks → list_any (goes gone) (all_entries chunks) ≡ list_any (chunk_goes gone) chunks
any_goes gone columns [] all = refl
any_goes gone columns (c ∷ chunks) all =
    let head : IsChunk columns c = All-head (IsChunk columns) c chunks all in
    list_any-append (goes gone) (chunk_entries c) (all_entries chunks)
    ∙ ap (λ (t : Bool). t || list_any (goes gone) (all_entries chunks)) (zip_goes gone (marks_in c) (packed_in c).rows head.paired)
    ∙ ap (λ (t : Bool). chunk_goes gone c || t) (any_goes gone columns chunks (All-tail (IsChunk columns) c chunks all))

-- a marked chunk is a chunk of as many entries
marked_chunk : (columns : List Storage) (stamp : ℕ) (gone : List ℕ) (b a : Chunk) → IsMarkedChunk stamp gone b a → IsChunk columns b → (IsChunk columns a) × (length (marks_in a) ≡ length (marks_in b))
marked_chunk columns stamp gone b a is of =
    let same : length (marks_in a) ≡ length (marks_in b) = ap (length {A = Mark}) is.marks ∙ length-map (marks_in b) (marked_mark stamp gone) in
    let rows : length (packed_in a).rows ≡ length (packed_in b).rows = ap (λ (p : PackedView). length p.rows) is.packed in (
      record {
        columns_are = ap (λ (p : PackedView). p.columns) is.packed ∙ of.columns_are;
        paired = omega (arith, same, rows, of.paired);
        some = omega (arith, same, of.some);
        few = omega (arith, same, of.few);
      },
      same,
    )

-- the chunks at a place
both_at : (stamp : ℕ) (gone : List ℕ) (before after : List Chunk) (k : ℕ) (d : Chunk) → AllZip (IsMarkedChunk stamp gone) before after → k < length after → (k < length before) × IsMarkedChunk stamp gone (get_or before k d) (get_or after k d)
both_at stamp gone [] [] k d z l = absurd (omega arith)
both_at stamp gone [] (a ∷ after) k d z l = absurd z
both_at stamp gone (b ∷ before) [] k d z l = absurd z
both_at stamp gone (b ∷ before) (a ∷ after) zero d z l = (omega arith, z.0)
both_at stamp gone (b ∷ before) (a ∷ after) (suc k) d z l =
    let r = both_at stamp gone before after k d z.1 (omega arith) in (omega (arith, r.0), r.1)

pub cut_marked : (columns : List Storage) (stamp : ℕ) (gone : List ℕ) (before after : List Chunk) → AllZip (IsMarkedChunk stamp gone) before after → IsCut columns before → IsCut columns after
cut_marked columns stamp gone before after z cut = record {
  each = λ k d l. let at = both_at stamp gone before after k d z l in (marked_chunk columns stamp gone (get_or before k d) (get_or after k d) at.1 (cut.each k d at.0)).0;
  full = λ k d l. let at = both_at stamp gone before after k d z (omega arith) in
      let next = both_at stamp gone before after (suc k) d z l in
      (marked_chunk columns stamp gone (get_or before k d) (get_or after k d) at.1 (cut.each k d at.0)).1 ∙ cut.full k d next.0;
}

id_by : (t : Bool) (stamp : ℕ) (e : Entry) → (if t then (let x : Entry = record e { deleted = Some stamp } in x) else e).id ≡ e.id
id_by true stamp e = refl
id_by false stamp e = refl

row_by : (t : Bool) (stamp : ℕ) (e : Entry) → (if t then (let x : Entry = record e { deleted = Some stamp } in x) else e).row ≡ e.row
row_by true stamp e = refl
row_by false stamp e = refl

-- deletions change no id and no row
pub marked_ids : (stamp : ℕ) (gone : List ℕ) (entries : List Entry) → ids_of (marked stamp gone entries) ≡ ids_of entries
marked_ids stamp gone [] = refl
marked_ids stamp gone (e ∷ entries) =
    ap (λ (n : ℕ). n ∷ ids_of (marked stamp gone entries)) (id_by (goes gone e) stamp e) ∙ ap (λ (ns : List ℕ). e.id ∷ ns) (marked_ids stamp gone entries)

pub marked_rows : (stamp : ℕ) (gone : List ℕ) (entries : List Entry) → rows_of (marked stamp gone entries) ≡ rows_of entries
marked_rows stamp gone [] = refl
marked_rows stamp gone (e ∷ entries) =
    ap (λ (r : Row). r ∷ rows_of (marked stamp gone entries)) (row_by (goes gone e) stamp e) ∙ ap (λ (rs : List Row). e.row ∷ rs) (marked_rows stamp gone entries)

-- one more mark within the bounds
wider : (low high low' high' : ℕ) (m : Mark) → low' ≤ low → high ≤ high' → HasIdWithin low high m → HasIdWithin low' high' m
wider low high low' high' m p q is = record { above = omega (arith, is.above, p); below = omega (arith, is.below, q) }

pub bounds_more : (marks : List Mark) (i : ℕ) (d : Mark) (low high low' high' : ℕ) → i < length marks → All (HasIdWithin low high) (take i marks) → low' ≤ low → high ≤ high' → low' ≤ (get_or marks i d).id → (get_or marks i d).id ≤ high'
    → All (HasIdWithin low' high') (take (i + 1) marks)
bounds_more marks i d low high low' high' l all p q r s =
    All-more (HasIdWithin low' high') marks i d l (All-weaker (HasIdWithin low high) (HasIdWithin low' high') (λ m is. wider low high low' high' m p q is) (take i marks) all) (record { above = r; below = s })

pub bounds_all : (marks : List Mark) (i low high : ℕ) → length marks ≤ i → All (HasIdWithin low high) (take i marks) → All (HasIdWithin low high) marks
bounds_all marks i low high le all = subst (λ (ms : List Mark). All (HasIdWithin low high) ms) (take_all i marks le) all

-- what is known where nothing was marked
pub at_none : (found : Option (List Mark)) (A : Type 0) (B : List Mark → Type 0) → MatchOption found A B → found ≡ None → A
at_none None A B h e = h
at_none (Some x) A B h e = cc

-- one more test
pub any_more : (p : Chunk → Bool) (xs : List Chunk) (i : ℕ) (x : Chunk) → i < length xs → x ≡ get_or xs i x → list_any p (take (i + 1) xs) ≡ (list_any p (take i xs) || p x)
any_more p xs i x l is =
    ap (list_any p) (take_more xs i x l) ∙ list_any-append p (take i xs) (get_or xs i x ∷ [])
    ∙ ap (λ (t : Bool). list_any p (take i xs) || t) (or_none (p (get_or xs i x)))
    ∙ ap (λ (y : Chunk). list_any p (take i xs) || p y) (sym is)
