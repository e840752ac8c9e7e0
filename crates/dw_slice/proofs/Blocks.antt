-- The entries of one block are those of one chunk.
use Rattle.std.proofs.Common.{◌≡◌, ℕ, zero, suc, ◌<◌, ◌≤◌, ◌+◌, ◌*◌, List, [], ◌∷◌, length, get_or, take, drop, refl, sym, ap, subst, ◌∙◌, arith, length-append}
use Rattle.std.proofs.lemmas.List.{append-nil, take_all, take_at, drop_at, drop-drop}
use Rattle.std.proofs.lemmas.List.Elements.{All-head, All-tail}
use Rattle.dw_value.specs.declared.values.Row.{Row}
use Rattle.dw_slice.specs.declared.packed.Storage.{Storage}
use Rattle.dw_slice.specs.declared.marks.Mark.{Mark}
use Rattle.dw_slice.specs.declared.chunks.Chunk.{Chunk}
use Rattle.dw_slice.specs.declared.slices.Entry.{Entry}
use Rattle.dw_slice.specs.Chunks.{zip_entries, marks_in, packed_in, chunk_entries, all_entries, IsChunk, IsCut}
use Rattle.dw_slice.specs.Slices.{rows_of, block_count, block_of}

length-zip : (marks : List Mark) (rows : List Row) → length marks ≡ length rows → length (zip_entries marks rows) ≡ length marks
length-zip [] rows e = refl
length-zip (m ∷ marks) [] e = absurd (omega (arith, e))
length-zip (m ∷ marks) (r ∷ rows) e = ap suc (length-zip marks rows (omega (arith, e)))

zip_rows : (marks : List Mark) (rows : List Row) → length marks ≡ length rows → rows_of (zip_entries marks rows) ≡ rows
zip_rows [] [] e = refl
zip_rows [] (r ∷ rows) e = absurd (omega (arith, e))
zip_rows (m ∷ marks) [] e = absurd (omega (arith, e))
zip_rows (m ∷ marks) (r ∷ rows) e = ap (λ (rs : List Row). r ∷ rs) (zip_rows marks rows (omega (arith, e)))

cut_tail : (columns : List Storage) (c : Chunk) (cs : List Chunk) → IsCut columns (c ∷ cs) → IsCut columns cs
cut_tail columns c cs cut = record { each = All-tail (IsChunk columns) c cs cut.each; full = λ k d l. cut.full (suc k) d (omega arith) }

head_length : (columns : List Storage) (c : Chunk) (cs : List Chunk) → IsCut columns (c ∷ cs) → length (chunk_entries c) ≡ length (marks_in c)
head_length columns c cs cut = length-zip (marks_in c) (packed_in c).rows (All-head (IsChunk columns) c cs cut.each).paired

-- so many entries fill so many chunks
record Fill (chunks entries : ℕ) : Type 0 where
  pub low : 4096 * chunks < entries + 4096
  pub high : entries ≤ 4096 * chunks

fill : (columns : List Storage) (chunks : List Chunk) → IsCut columns chunks → Fill (length chunks) (length (all_entries chunks))
fill columns [] cut = record { low = omega arith; high = omega arith }
fill columns (c ∷ []) cut =
    let head : IsChunk columns c = All-head (IsChunk columns) c [] cut.each in
    let len = head_length columns c [] cut in
    let all = length-append (chunk_entries c) [] in
    record { low = omega (arith, head.some, len, all); high = omega (arith, head.few, len, all) }
fill columns (c ∷ (e ∷ cs)) cut =
    let full : length (marks_in c) ≡ 4096 = cut.full 0 c (omega arith) in
    let len = head_length columns c (e ∷ cs) cut in
    let all = length-append (chunk_entries c) (all_entries (e ∷ cs)) in
    let rest = fill columns (e ∷ cs) (cut_tail columns c (e ∷ cs) cut) in
    record { low = omega (arith, full, len, all, rest.low); high = omega (arith, full, len, all, rest.high) }

-- there are as many chunks as blocks
pub chunk_count : (columns : List Storage) (chunks : List Chunk) → IsCut columns chunks → length chunks ≡ block_count (all_entries chunks)
chunk_count columns chunks cut = let n = fill columns chunks cut in omega (arith, n.low, n.high)

block_is : (columns : List Storage) (chunks : List Chunk) (k : ℕ) (d : Chunk) → IsCut columns chunks → k < length chunks → block_of (all_entries chunks) k ≡ chunk_entries (get_or chunks k d)
block_is columns [] k d cut l = absurd (omega arith)
block_is columns (c ∷ []) zero d cut l =
    let head : IsChunk columns c = All-head (IsChunk columns) c [] cut.each in
    let len = head_length columns c [] cut in
    ap (take 4096) (append-nil (chunk_entries c)) ∙ take_all 4096 (chunk_entries c) (omega (arith, head.few, len))
block_is columns (c ∷ []) (suc k) d cut l = absurd (omega arith)
block_is columns (c ∷ (e ∷ cs)) zero d cut l =
    let full : length (marks_in c) ≡ 4096 = cut.full 0 c (omega arith) in
    take_at (chunk_entries c) (all_entries (e ∷ cs)) 4096 (head_length columns c (e ∷ cs) cut ∙ full)
block_is columns (c ∷ (e ∷ cs)) (suc k) d cut l =
    let full : length (marks_in c) ≡ 4096 = cut.full 0 c (omega arith) in
    let skip : 4096 * suc k ≡ 4096 + 4096 * k = omega arith in
    ap (λ (n : ℕ). take 4096 (drop n (all_entries (c ∷ (e ∷ cs))))) skip
    ∙ ap (take 4096) (sym (drop-drop (4096 * k) 4096 (all_entries (c ∷ (e ∷ cs)))))
    ∙ ap (λ (es : List Entry). take 4096 (drop (4096 * k) es)) (drop_at (chunk_entries c) (all_entries (e ∷ cs)) 4096 (head_length columns c (e ∷ cs) cut ∙ full))
    ∙ block_is columns (e ∷ cs) k d (cut_tail columns c (e ∷ cs) cut) (omega arith)

-- the chunk at a place, its entries and its rows
pub chunk_at : (columns : List Storage) (chunks : List Chunk) (k : ℕ) (chunk : Chunk) → IsCut columns chunks → k < length chunks → chunk ≡ get_or chunks k chunk → IsChunk columns chunk
chunk_at columns chunks k chunk cut l is = subst (IsChunk columns) (sym is) (cut.each k chunk l)

pub entries_at : (columns : List Storage) (chunks : List Chunk) (k : ℕ) (chunk : Chunk) → IsCut columns chunks → k < length chunks → chunk ≡ get_or chunks k chunk → block_of (all_entries chunks) k ≡ chunk_entries chunk
entries_at columns chunks k chunk cut l is = block_is columns chunks k chunk cut l ∙ ap chunk_entries (sym is)

pub rows_at : (columns : List Storage) (chunks : List Chunk) (k : ℕ) (chunk : Chunk) → IsCut columns chunks → k < length chunks → chunk ≡ get_or chunks k chunk → (packed_in chunk).rows ≡ rows_of (block_of (all_entries chunks) k)
rows_at columns chunks k chunk cut l is =
    let of = chunk_at columns chunks k chunk cut l is in
    sym (zip_rows (marks_in chunk) (packed_in chunk).rows of.paired) ∙ ap rows_of (sym (entries_at columns chunks k chunk cut l is))
