-- Full chunks, and entries after them.
use Rattle.std.specs.Prelude.{All}
use Rattle.std.proofs.Common.{◌≡◌, ℕ, ◌<◌, ◌≤◌, ◌+◌, List, [], ◌∷◌, ◌++◌, map, length, get_or, take, refl, sym, ap, subst, ◌∙◌, arith, append_assoc, None, false}
use Rattle.std.proofs.lemmas.List.{append-nil, get_or_append_left, get_or_push, length_push, take_more, length-take-le, length-map, get_or-map, map_more}
use Rattle.std.proofs.lemmas.List.Concat.{flat_map-append}
use Rattle.std.proofs.lemmas.List.Elements.{All-push}
use Rattle.dw_value.specs.declared.values.Row.{Row}
use Rattle.dw_slice.specs.declared.packed.Storage.{Storage}
use Rattle.dw_slice.specs.declared.marks.Mark.{Mark}
use Rattle.dw_slice.specs.declared.chunks.Chunk.{Chunk}
use Rattle.dw_slice.specs.declared.slices.Entry.{Entry}
use Rattle.dw_slice.specs.declared.slices.Fresh.{Fresh}
use Rattle.dw_slice.specs.Columns.{FitsColumns}
use Rattle.dw_slice.specs.Slices.{rows_of, fresh_rows, new_entry}
use Rattle.dw_slice.specs.Chunks.{entry_of, zip_entries, marks_in, packed_in, chunk_entries, all_entries, IsChunk, IsCut}
use Rattle.dw_slice.specs.Building.{IsFullChunk}

pub zip_push : (marks : List Mark) (rows : List Row) (m : Mark) (r : Row) → length marks ≡ length rows → zip_entries (marks ++ m ∷ []) (rows ++ r ∷ []) ≡ zip_entries marks rows ++ entry_of m r ∷ []
zip_push [] [] m r e = refl
zip_push [] (x ∷ rows) m r e = absurd (omega (arith, e))
zip_push (x ∷ marks) [] m r e = absurd (omega (arith, e))
zip_push (x ∷ marks) (y ∷ rows) m r e = ap (λ (es : List Entry). entry_of x y ∷ es) (zip_push marks rows m r (omega (arith, e)))

-- the chunk of marks and rows
pub is_chunk : (columns : List Storage) (chunk : Chunk) (marks : List Mark) (rows : List Row) → marks_in chunk ≡ marks → (packed_in chunk).columns ≡ columns → (packed_in chunk).rows ≡ rows
    → length marks ≡ length rows → 0 < length rows → length rows ≤ 4096 → IsChunk columns chunk
is_chunk columns chunk marks rows p q r e some few =
    let a : length (marks_in chunk) ≡ length marks = ap (length {A = Mark}) p in
    let b : length (packed_in chunk).rows ≡ length rows = ap (length {A = Row}) r in
    record { columns_are = q; paired = omega (arith, a, b, e); some = omega (arith, a, e, some); few = omega (arith, a, e, few) }

chunk_entries_are : (chunk : Chunk) (marks : List Mark) (rows : List Row) → marks_in chunk ≡ marks → (packed_in chunk).rows ≡ rows → chunk_entries chunk ≡ zip_entries marks rows
chunk_entries_are chunk marks rows p r = ap (λ (ms : List Mark). zip_entries ms (packed_in chunk).rows) p ∙ ap (λ (rs : List Row). zip_entries marks rs) r

pub all_push : (chunks : List Chunk) (chunk : Chunk) → all_entries (chunks ++ chunk ∷ []) ≡ all_entries chunks ++ chunk_entries chunk
all_push chunks chunk = flat_map-append chunk_entries chunks (chunk ∷ []) ∙ ap (λ (es : List Entry). all_entries chunks ++ es) (append-nil (chunk_entries chunk))

-- one more chunk, of the marks and rows
pub with_chunk : (chunks : List Chunk) (chunk : Chunk) (marks : List Mark) (rows : List Row) → marks_in chunk ≡ marks → (packed_in chunk).rows ≡ rows → all_entries (chunks ++ chunk ∷ []) ≡ all_entries chunks ++ zip_entries marks rows
with_chunk chunks chunk marks rows p r = all_push chunks chunk ∙ ap (λ (es : List Entry). all_entries chunks ++ es) (chunk_entries_are chunk marks rows p r)

pub cut_full : (columns : List Storage) (chunks : List Chunk) → All (IsFullChunk columns) chunks → IsCut columns chunks
cut_full columns chunks all = record { each = λ k d l. (all k d l).is; full = λ k d l. (all k d (omega arith)).all }

pub cut_push : (columns : List Storage) (chunks : List Chunk) (chunk : Chunk) → All (IsFullChunk columns) chunks → IsChunk columns chunk → IsCut columns (chunks ++ chunk ∷ [])
cut_push columns chunks chunk all is = record {
  each = All-push (IsChunk columns) chunks chunk (λ k d l. (all k d l).is) is;
  full = λ k d l. let lt : k < length chunks = omega (arith, length_push chunks chunk, l) in ap (λ (c : Chunk). length (marks_in c)) (get_or_append_left chunks (chunk ∷ []) d k lt) ∙ (all k d lt).all;
}

-- all chunks before the last one are full
pub full_front : (columns : List Storage) (chunks : List Chunk) (chunk : Chunk) → IsCut columns (chunks ++ chunk ∷ []) → All (IsFullChunk columns) chunks
full_front columns chunks chunk cut = λ k d l.
    let e : get_or (chunks ++ chunk ∷ []) k d ≡ get_or chunks k d = get_or_append_left chunks (chunk ∷ []) d k l in
    record {
      is = subst (IsChunk columns) e (cut.each k d (omega (arith, length_push chunks chunk, l)));
      all = ap (λ (c : Chunk). length (marks_in c)) (sym e) ∙ cut.full k d (omega (arith, length_push chunks chunk, l));
    }

pub last_is : (columns : List Storage) (chunks : List Chunk) (chunk : Chunk) → IsCut columns (chunks ++ chunk ∷ []) → IsChunk columns chunk
last_is columns chunks chunk cut = subst (IsChunk columns) (get_or_push chunks chunk chunk (length chunks) refl) (cut.each (length chunks) chunk (omega (arith, length_push chunks chunk)))

-- one entry more after the chunks
pub built_push : (chunks : List Chunk) (marks marks' : List Mark) (rows rows' : List Row) (m : Mark) (row r : Row) → row ≡ r → marks' ≡ marks ++ m ∷ [] → rows' ≡ rows ++ row ∷ [] → length marks ≡ length rows
    → all_entries chunks ++ zip_entries marks' rows' ≡ (all_entries chunks ++ zip_entries marks rows) ++ entry_of m r ∷ []
built_push chunks marks marks' rows rows' m row r s p q e =
    ap (λ (ms : List Mark). all_entries chunks ++ zip_entries ms rows') p
    ∙ ap (λ (rs : List Row). all_entries chunks ++ zip_entries (marks ++ m ∷ []) rs) q
    ∙ ap (λ (x : Row). all_entries chunks ++ zip_entries (marks ++ m ∷ []) (rows ++ x ∷ [])) s
    ∙ ap (λ (es : List Entry). all_entries chunks ++ es) (zip_push marks rows m r e)
    ∙ sym (append_assoc (all_entries chunks) (zip_entries marks rows) (entry_of m r ∷ []))

no_entries : (marks : List Mark) (rows : List Row) → marks ≡ [] → zip_entries marks rows ≡ []
no_entries marks rows e = ap (λ (ms : List Mark). zip_entries ms rows) e

-- no entries after the chunks
pub built_none : (chunks : List Chunk) (marks : List Mark) (rows : List Row) → marks ≡ [] → all_entries chunks ++ zip_entries marks rows ≡ all_entries chunks
built_none chunks marks rows e = ap (λ (es : List Entry). all_entries chunks ++ es) (no_entries marks rows e) ∙ append-nil (all_entries chunks)

-- one entry more, which fills a chunk
pub built_full : (chunks chunks' : List Chunk) (chunk : Chunk) (marks ms none : List Mark) (rows rs none' : List Row) (m : Mark) (row r : Row) → row ≡ r → chunks' ≡ chunks ++ chunk ∷ [] → marks_in chunk ≡ ms → (packed_in chunk).rows ≡ rs
    → ms ≡ marks ++ m ∷ [] → rs ≡ rows ++ row ∷ [] → length marks ≡ length rows → none ≡ []
    → all_entries chunks' ++ zip_entries none none' ≡ (all_entries chunks ++ zip_entries marks rows) ++ entry_of m r ∷ []
built_full chunks chunks' chunk marks ms none rows rs none' m row r s p a b q t e n =
    built_none chunks' none none' n ∙ ap all_entries p ∙ with_chunk chunks chunk ms rs a b ∙ built_push chunks marks ms rows rs m row r s q t e

zip_more : (marks : List Mark) (rows : List Row) (i : ℕ) (d : Mark) (r : Row) → length marks ≡ length rows → i < length rows → zip_entries (take (i + 1) marks) (take (i + 1) rows) ≡ zip_entries (take i marks) (take i rows) ++ entry_of (get_or marks i d) (get_or rows i r) ∷ []
zip_more marks rows i d r e l =
    ap (λ (ms : List Mark). zip_entries ms (take (i + 1) rows)) (take_more marks i d (omega (arith, e, l)))
    ∙ ap (λ (rs : List Row). zip_entries (take i marks ++ get_or marks i d ∷ []) rs) (take_more rows i r l)
    ∙ zip_push (take i marks) (take i rows) (get_or marks i d) (get_or rows i r) (length-take-le i marks (omega (arith, e, l)) ∙ sym (length-take-le i rows (omega (arith, l))))

-- one mark more with its row
pub zip_next : (marks : List Mark) (rows : List Row) (i : ℕ) (d : Mark) (item row : Row) (es new : List Entry) → length marks ≡ length rows → i < length rows → item ≡ get_or rows i item → row ≡ item
    → new ≡ es ++ entry_of (get_or marks i d) row ∷ [] → es ≡ zip_entries (take i marks) (take i rows) → new ≡ zip_entries (take (i + 1) marks) (take (i + 1) rows)
zip_next marks rows i d item row es new e l is same p q =
    p ∙ ap (λ (xs : List Entry). xs ++ entry_of (get_or marks i d) row ∷ []) q
    ∙ ap (λ (r : Row). zip_entries (take i marks) (take i rows) ++ entry_of (get_or marks i d) r ∷ []) (same ∙ is)
    ∙ sym (zip_more marks rows i d item e l)

-- the row of a fresh one, and of an entry, fits
pub fresh_fits : (columns : List Storage) (fresh : List Fresh) (i : ℕ) (one : Fresh) → All (FitsColumns columns) (fresh_rows fresh) → i < length fresh → one ≡ get_or fresh i one → FitsColumns columns one.row
fresh_fits columns fresh i one all l is =
    let f : Fresh → Row = λ x. x.row in
    subst (FitsColumns columns) (get_or-map f fresh i one one.row l ∙ ap f (sym is)) (all i one.row (omega (arith, length-map fresh f, l)))

pub entry_fits : (columns : List Storage) (entries : List Entry) (i : ℕ) (entry : Entry) → All (FitsColumns columns) (rows_of entries) → i < length entries → entry ≡ get_or entries i entry → FitsColumns columns entry.row
entry_fits columns entries i entry all l is =
    let f : Entry → Row = λ x. x.row in
    subst (FitsColumns columns) (get_or-map f entries i entry entry.row l ∙ ap f (sym is)) (all i entry.row (omega (arith, length-map entries f, l)))

-- one fresh row more is an entry
pub new_more : (base was new : List Entry) (stamp : ℕ) (fresh : List Fresh) (i : ℕ) (one : Fresh) (mark : Mark) → i < length fresh → one ≡ get_or fresh i one
    → mark ≡ (let m : Mark = record { id = one.id; inserted = stamp; deleted = None; sorted = false } in m)
    → new ≡ was ++ entry_of mark one.row ∷ [] → was ≡ base ++ map (new_entry stamp) (take i fresh) → new ≡ base ++ map (new_entry stamp) (take (i + 1) fresh)
new_more base was new stamp fresh i one mark l is marks p q =
    p ∙ ap (λ (es : List Entry). es ++ entry_of mark one.row ∷ []) q
    ∙ ap (λ (m : Mark). (base ++ map (new_entry stamp) (take i fresh)) ++ entry_of m one.row ∷ []) marks
    ∙ ap (λ (f : Fresh). (base ++ map (new_entry stamp) (take i fresh)) ++ new_entry stamp f ∷ []) is
    ∙ append_assoc base (map (new_entry stamp) (take i fresh)) (new_entry stamp (get_or fresh i one) ∷ [])
    ∙ ap (λ (es : List Entry). base ++ es) (sym (map_more (new_entry stamp) fresh i one l))

-- and so is one entry more
pub entry_more : (was new entries : List Entry) (i : ℕ) (entry : Entry) (mark : Mark) → i < length entries → entry ≡ get_or entries i entry
    → mark ≡ (let m : Mark = record { id = entry.id; inserted = entry.inserted; deleted = entry.deleted; sorted = entry.sorted } in m)
    → new ≡ was ++ entry_of mark entry.row ∷ [] → was ≡ take i entries → new ≡ take (i + 1) entries
entry_more was new entries i entry mark l is marks p q =
    p ∙ ap (λ (es : List Entry). es ++ entry_of mark entry.row ∷ []) q
    ∙ ap (λ (m : Mark). take i entries ++ entry_of m entry.row ∷ []) marks
    ∙ ap (λ (e : Entry). take i entries ++ e ∷ []) is
    ∙ sym (take_more entries i entry l)
