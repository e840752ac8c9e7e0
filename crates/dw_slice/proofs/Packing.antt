-- The blocks of rows hold these rows, and a column of the rows is what its block holds.
use Rattle.std.specs.Prelude.{All}
use Rattle.std.specs.List.{AllZip}
use Rattle.std.proofs.Common.{◌≡◌, ℕ, zero, suc, ◌<◌, ◌≤◌, ◌+◌, ◌⊎◌, inl, inr, List, [], ◌∷◌, ◌++◌, map, length, get_or, refl, sym, ap, subst, ◌∙◌, arith}
use Rattle.std.proofs.lemmas.List.{get_or-map, length-map, same_lists, get_or_default, get_or_push, get_or_append_left, length_push, ext_get_or}
use Rattle.std.proofs.lemmas.List.FromFn.{get_or-map-range_with_len, length-map-range_with_len}
use Rattle.std.proofs.Math.Nat.{eq-or-lt_of_le}
use Rattle.dw_value.specs.declared.values.Value.{Value}
use Rattle.dw_value.specs.declared.values.Value.TheVariants.{Null}
use Rattle.dw_value.specs.declared.kinds.Encoding.{Encoding}
use Rattle.dw_value.specs.declared.kinds.Kind.{Kind}
use Rattle.dw_value.specs.declared.values.Row.{Row}
use Rattle.dw_block.specs.Blocks.{BlockView}
use Rattle.dw_slice.specs.declared.packed.Storage.{Storage}
use Rattle.dw_slice.specs.Columns.{IsStorage, IsCell, FitsColumns}
use Rattle.dw_slice.specs.Grid.{column_of, row_at, first_rows}
use Rattle.dw_slice.specs.Packed.{storage_in, storages_in, values_in, IsPacked}

-- a row that fits is as long as the columns, and has a cell at each place
pub wide : (columns : List Storage) (values : List Value) → AllZip IsCell columns values → length columns ≡ length values
wide [] [] z = refl
wide [] (v ∷ values) z = absurd z
wide (c ∷ columns) [] z = absurd z
wide (c ∷ columns) (v ∷ values) z = ap suc (wide columns values z.1)

pub cell_at : (columns : List Storage) (values : List Value) (place : ℕ) (d : Storage) → AllZip IsCell columns values → place < length columns → IsCell (get_or columns place d) (get_or values place Null)
cell_at [] values place d z l = absurd (omega arith)
cell_at (c ∷ columns) [] place d z l = absurd z
cell_at (c ∷ columns) (v ∷ values) zero d z l = z.0
cell_at (c ∷ columns) (v ∷ values) (suc place) d z l = cell_at columns values place d z.1 (omega arith)

-- the values of a column are of its kind
pub column_fits : (columns : List Storage) (rows : List Row) (place k : ℕ) (d : Value) (e : Storage) (values : List Value) → values ≡ column_of rows place → All (FitsColumns columns) rows → place < length columns → k < length values
    → IsCell (get_or columns place e) (get_or values k d)
column_fits columns rows place k d e values is fit l lk =
    let cell : Row → Value = λ row. get_or row.values place Null in
    let within : k < length rows = omega (arith, ap (length {A = Value}) is, length-map rows cell, lk) in
    let none : Row = record { values = [] } in
    subst (λ (v : Value). IsCell (get_or columns place e) v) (sym (ap (λ (vs : List Value). get_or vs k d) is ∙ get_or-map cell rows k none d within))
    (cell_at columns (get_or rows k none).values place e (fit k none within) l)

-- the block of one column of rows
abbrev pub block_at : List Row → Storage → ℕ → BlockView
block_at rows column place = record { encoding = column.encoding; kind = column.kind; values = column_of rows place }

-- these blocks are those of the first columns
pub record ArePacked (columns : List Storage) (rows : List Row) (blocks : List BlockView) : Type 0 where
  pub within : length blocks ≤ length columns
  pub each : (k : ℕ) (d : BlockView) (e : Storage) → k < length blocks → get_or blocks k d ≡ block_at rows (get_or columns k e) k

last_or_before : (k n : ℕ) → (k ≡ n) ⊎ (k < n) → (k < n) ⊎ (k ≡ n)
last_or_before k n (inl e) = inr e
last_or_before k n (inr l) = inl l

pushed_at : (columns : List Storage) (rows : List Row) (blocks : List BlockView) (column : Storage) (block : BlockView) (k : ℕ) (d : BlockView) (e : Storage) → ArePacked columns rows blocks → length blocks < length columns
    → column ≡ get_or columns (length blocks) column → block ≡ block_at rows column (length blocks) → (k < length blocks) ⊎ (k ≡ length blocks)
    → get_or (blocks ++ block ∷ []) k d ≡ block_at rows (get_or columns k e) k
pushed_at columns rows blocks column block k d e are lt is block_is (inl l) = get_or_append_left blocks (block ∷ []) d k l ∙ are.each k d e l
pushed_at columns rows blocks column block k d e are lt is block_is (inr q) =
    let here : column ≡ get_or columns k e = is ∙ get_or_default columns (length blocks) column e lt ∙ ap (λ (n : ℕ). get_or columns n e) (sym q) in
    get_or_push blocks block d k (sym q) ∙ block_is ∙ ap (block_at rows column) (sym q) ∙ ap (λ (c : Storage). block_at rows c k) here

packed_push : (columns : List Storage) (rows : List Row) (blocks : List BlockView) (column : Storage) (block : BlockView) → ArePacked columns rows blocks → length blocks < length columns
    → column ≡ get_or columns (length blocks) column → block ≡ block_at rows column (length blocks) → ArePacked columns rows (blocks ++ block ∷ [])
packed_push columns rows blocks column block are lt is block_is = record {
  within = rw length_push (omega arith);
  each = λ k d e l.
      let lt-k : k < length blocks + 1 = omega (arith, length_push blocks block, l) in
      pushed_at columns rows blocks column block k d e are lt is block_is (last_or_before k (length blocks) (eq-or-lt_of_le (let le : k ≤ length blocks = omega arith in le)));
}

same_block : (s t : BlockView) → s.encoding ≡ t.encoding → s.kind ≡ t.kind → s.values ≡ t.values → s ≡ t
same_block s t p q r =
    ap (λ (e : Encoding). let x : BlockView = record { encoding = e; kind = s.kind; values = s.values } in x) p
    ∙ ap (λ (k : Kind). let x : BlockView = record { encoding = t.encoding; kind = k; values = s.values } in x) q
    ∙ ap (λ (vs : List Value). let x : BlockView = record { encoding = t.encoding; kind = t.kind; values = vs } in x) r

-- one more block
pub packed_next : (columns : List Storage) (rows : List Row) (blocks : List BlockView) (place : ℕ) (e : Storage) (block : BlockView) (values : List Value) → ArePacked columns rows blocks → length blocks ≡ place → place < length columns
    → block.encoding ≡ (get_or columns place e).encoding → block.kind ≡ (get_or columns place e).kind → block.values ≡ values → values ≡ column_of rows place → ArePacked columns rows (blocks ++ block ∷ [])
packed_next columns rows blocks place e block values are at lt p q r s =
    let here : length blocks < length columns = omega (arith, at, lt) in
    let block_is : block ≡ block_at rows (get_or columns place e) place = same_block block (block_at rows (get_or columns place e) place) p q (r ∙ s) in
    packed_push columns rows blocks (get_or columns (length blocks) e) block are here (get_or_default columns (length blocks) e (get_or columns (length blocks) e) here)
    (block_is ∙ ap (λ (n : ℕ). block_at rows (get_or columns n e) n) (sym at))

columns_back : (columns : List Storage) (rows : List Row) (blocks : List BlockView) → ArePacked columns rows blocks → length blocks ≡ length columns → storages_in blocks ≡ columns
columns_back columns rows blocks are all =
    same_lists (storages_in blocks) columns (length-map blocks storage_in ∙ all)
    (λ k d l. let lt : k < length blocks = rw length-map at l in let b : BlockView = block_at rows d k in
    get_or-map storage_in blocks k b d lt ∙ ap storage_in (are.each k b d lt))

-- the value that the blocks have for a row at a place
cell_back : (columns : List Storage) (rows : List Row) (blocks : List BlockView) (k : ℕ) (d : Row) (j : ℕ) → ArePacked columns rows blocks → length blocks ≡ length columns → k < length rows → j < length blocks
    → get_or (map (λ (column : List Value). get_or column k Null) (values_in blocks)) j Null ≡ get_or (get_or rows k d).values j Null
cell_back [] rows [] k d j are all lk lj = absurd (omega arith)
cell_back [] rows (b ∷ blocks) k d j are all lk lj = absurd (omega arith)
cell_back (c ∷ columns) rows blocks k d j are all lk lj =
    let b : BlockView = block_at rows c j in
    get_or-map (λ (column : List Value). get_or column k Null) (values_in blocks) j [] Null (rw length-map lj)
    ∙ ap (λ (column : List Value). get_or column k Null) (get_or-map (λ (block : BlockView). block.values) blocks j b [] lj ∙ ap (λ (block : BlockView). block.values) (are.each j b c lj))
    ∙ get_or-map (λ (row : Row). get_or row.values j Null) rows k d Null lk

row_back : (columns : List Storage) (rows : List Row) (blocks : List BlockView) (k : ℕ) (d : Row) → ArePacked columns rows blocks → length blocks ≡ length columns → All (FitsColumns columns) rows → k < length rows
    → row_at (values_in blocks) k ≡ get_or rows k d
row_back columns rows blocks k d are all fit lk =
    let row : Row = get_or rows k d in
    let at : List Value → Value = λ column. get_or column k Null in
    let long : length (map at (values_in blocks)) ≡ length blocks = length-map (values_in blocks) at ∙ length-map blocks (λ (block : BlockView). block.values) in
    let values : map at (values_in blocks) ≡ row.values =
    ext_get_or Null (map at (values_in blocks)) row.values (omega (arith, long, wide columns row.values (fit k d lk), all))
    (λ j lj. cell_back columns rows blocks k d j are all lk (omega (arith, long, lj))) in
    ap (λ (vs : List Value). let r : Row = record { values = vs } in r) values

rows_back : (columns : List Storage) (rows : List Row) (blocks : List BlockView) → ArePacked columns rows blocks → length blocks ≡ length columns → All (FitsColumns columns) rows
    → first_rows (values_in blocks) (length rows) ≡ rows
rows_back columns rows blocks are all fit =
    same_lists (first_rows (values_in blocks) (length rows)) rows (length-map-range_with_len (row_at (values_in blocks)) 0 (length rows))
    (λ k d l. let lt : k < length rows = rw length-map-range_with_len at l in
    get_or-map-range_with_len (row_at (values_in blocks)) 0 (length rows) k k d lt (omega arith) ∙ row_back columns rows blocks k d are all fit lt)

full_at : (columns : List Storage) (rows : List Row) (blocks : List BlockView) → ArePacked columns rows blocks → (k : ℕ) (d : BlockView) → k < length blocks → length (get_or blocks k d).values ≡ length rows
full_at [] rows blocks are k d l = absurd (omega (arith, are.within))
full_at (c ∷ columns) rows blocks are k d l = ap (λ (b : BlockView). length b.values) (are.each k d c l) ∙ length-map rows (λ (row : Row). get_or row.values k Null)

-- the blocks hold the columns and the rows
pub record Holds (columns : List Storage) (rows : List Row) (blocks : List BlockView) : Type 0 where
  pub packed : IsPacked (length rows) blocks
  pub columns_are : storages_in blocks ≡ columns
  pub rows_are : first_rows (values_in blocks) (length rows) ≡ rows

pub holds : (columns : List Storage) (rows : List Row) (blocks : List BlockView) → ArePacked columns rows blocks → length blocks ≡ length columns → length rows ≤ 4096 → All IsStorage columns → All (FitsColumns columns) rows → Holds columns rows blocks
holds columns rows blocks are all few storable fit =
    let c : storages_in blocks ≡ columns = columns_back columns rows blocks are all in
    let r : first_rows (values_in blocks) (length rows) ≡ rows = rows_back columns rows blocks are all fit in
    record {
      packed = record {
        few = few;
        full = λ k d l. full_at columns rows blocks are k d l;
        columns = subst (λ (cs : List Storage). All IsStorage cs) (sym c) storable;
        fit = subst (λ (cs : List Storage). All (FitsColumns cs) (first_rows (values_in blocks) (length rows))) (sym c) (subst (λ (rs : List Row). All (FitsColumns columns) rs) (sym r) fit);
      };
      columns_are = c;
      rows_are = r;
    }

-- a column of the rows is what its block holds
pub column_back : (count : ℕ) (blocks : List BlockView) (j : ℕ) (d : BlockView) → IsPacked count blocks → j < length blocks → column_of (first_rows (values_in blocks) count) j ≡ (get_or blocks j d).values
column_back count blocks j d packed l =
    let columns : List (List Value) = values_in blocks in
    let cell : Row → Value = λ row. get_or row.values j Null in
    let at : get_or columns j [] ≡ (get_or blocks j d).values = get_or-map (λ (block : BlockView). block.values) blocks j d [] l in
    let long : length (column_of (first_rows columns count) j) ≡ count = length-map (first_rows columns count) cell ∙ length-map-range_with_len (row_at columns) 0 count in
    ext_get_or Null (column_of (first_rows columns count) j) (get_or blocks j d).values (long ∙ sym (packed.full j d l))
    (λ k lk. let lt : k < count = omega (arith, long, lk) in
    get_or-map cell (first_rows columns count) k (row_at columns k) Null (rw length-map-range_with_len lt)
    ∙ ap cell (get_or-map-range_with_len (row_at columns) 0 count k k (row_at columns k) lt (omega arith))
    ∙ get_or-map (λ (column : List Value). get_or column k Null) columns j [] Null (rw length-map l)
    ∙ ap (λ (column : List Value). get_or column k Null) at)
