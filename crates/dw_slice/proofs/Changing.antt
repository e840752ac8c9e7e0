-- A slice after a commit.
use Rattle.std.specs.Prelude.{All, if◌then◌else◌, nat_eq}
use Rattle.std.specs.List.{list_any, AllZip, IsDistinct}
use Rattle.std.specs.Option.{is_none}
use Rattle.std.proofs.Common.{◌≡◌, ℕ, ◌+◌, Bool, false, ◌&&◌, ◌||◌, Some, List, [], ◌∷◌, ◌++◌, map, refl, sym, ap, subst, ◌∙◌, arith}
use Rattle.std.proofs.lemmas.List.{append-nil, map-append}
use Rattle.std.proofs.lemmas.List.Elements.{All-append}
use Rattle.dw_value.specs.declared.values.Row.{Row}
use Rattle.dw_slice.specs.declared.packed.Storage.{Storage}
use Rattle.dw_slice.specs.declared.chunks.Chunk.{Chunk}
use Rattle.dw_slice.specs.declared.slices.Entry.{Entry}
use Rattle.dw_slice.specs.declared.slices.Fresh.{Fresh}
use Rattle.dw_slice.specs.Columns.{IsStorage, FitsColumns}
use Rattle.dw_slice.specs.Chunks.{all_entries, IsCut, IsSlice}
use Rattle.dw_slice.specs.Building.{IsMarkedChunk, chunk_goes}
use Rattle.dw_slice.specs.Slices.{SliceView, AreEntries, goes, marked_entry, marked, new_entry, appended, changes, is_among, ids_of, rows_of, fresh_ids, fresh_rows}
use Rattle.dw_slice.proofs.Marking.{all_marked, any_goes, cut_marked, marked_ids, marked_rows}
use Rattle.dw_slice.proofs.Distinct.{distinct_append}

pub same_view : (columns columns' : List Storage) (number number' : ℕ) (entries entries' : List Entry) → columns ≡ columns' → number ≡ number' → entries ≡ entries'
    → (let a : SliceView = record { columns = columns; number = number; entries = entries } in a) ≡ (let b : SliceView = record { columns = columns'; number = number'; entries = entries' } in b)
same_view columns columns' number number' entries entries' p q r =
    ap (λ (cs : List Storage). let x : SliceView = record { columns = cs; number = number; entries = entries } in x) p
    ∙ ap (λ (n : ℕ). let x : SliceView = record { columns = columns'; number = n; entries = entries } in x) q
    ∙ ap (λ (es : List Entry). let x : SliceView = record { columns = columns'; number = number'; entries = es } in x) r

-- the chunks that were given
pub marked_given : (stamp : ℕ) (gone : List ℕ) (xs before after : List Chunk) → xs ≡ before → AllZip (IsMarkedChunk stamp gone) xs after → AllZip (IsMarkedChunk stamp gone) before after
marked_given stamp gone xs before after q z = subst (λ (cs : List Chunk). AllZip (IsMarkedChunk stamp gone) cs after) q z

-- two lists of the same ids mark the same
goes_same : (a b : List ℕ) → ((id : ℕ) → is_among a id ≡ is_among b id) → (e : Entry) → goes a e ≡ goes b e
goes_same a b same e = ap (λ (t : Bool). is_none e.deleted && t) (same e.id)

any_same : (a b : List ℕ) → ((id : ℕ) → is_among a id ≡ is_among b id) → (entries : List Entry) → list_any (goes a) entries ≡ list_any (goes b) entries
any_same a b same [] = refl
any_same a b same (e ∷ entries) =
    ap (λ (t : Bool). t || list_any (goes a) entries) (goes_same a b same e) ∙ ap (λ (t : Bool). goes b e || t) (any_same a b same entries)

marked_same : (stamp : ℕ) (a b : List ℕ) → ((id : ℕ) → is_among a id ≡ is_among b id) → (entries : List Entry) → marked stamp a entries ≡ marked stamp b entries
marked_same stamp a b same [] = refl
marked_same stamp a b same (e ∷ entries) =
    ap (λ (t : Bool). (if t then (let x : Entry = record e { deleted = Some stamp } in x) else e) ∷ marked stamp a entries) (goes_same a b same e)
    ∙ ap (λ (es : List Entry). marked_entry stamp b e ∷ es) (marked_same stamp a b same entries)

pub any_given : (g gone : List ℕ) (xs before : List Chunk) (columns : List Storage) (any : Bool) → ((id : ℕ) → is_among g id ≡ is_among gone id) → xs ≡ before → IsCut columns before → any ≡ list_any (chunk_goes g) xs → any ≡ list_any (goes gone) (all_entries before)
any_given g gone xs before columns any same q cut h =
    h ∙ ap (λ (cs : List Chunk). list_any (chunk_goes g) cs) q ∙ sym (any_goes g columns before cut.each) ∙ any_same g gone same (all_entries before)

-- chunks with deletions are those of a slice
pub marked_slice : (columns columns' : List Storage) (stamp : ℕ) (gone : List ℕ) (before after : List Chunk) → columns' ≡ columns → AllZip (IsMarkedChunk stamp gone) before after → IsSlice columns before → IsSlice columns' after
marked_slice columns columns' stamp gone before after same z is =
    let entries : all_entries after ≡ marked stamp gone (all_entries before) = all_marked stamp gone before after z in
    let moved : IsSlice columns after = record {
      storable = is.storable;
      cut = cut_marked columns stamp gone before after z is.cut;
      fit = subst (All (FitsColumns columns)) (sym (ap rows_of entries ∙ marked_rows stamp gone (all_entries before))) is.fit;
      different = subst (IsDistinct nat_eq) (sym (ap ids_of entries ∙ marked_ids stamp gone (all_entries before))) is.different;
    } in
    subst (λ (cs : List Storage). IsSlice cs after) (sym same) moved

-- where nothing is appended
pub number_marked : (gone : List ℕ) (fresh : List Fresh) (entries : List Entry) (n k : ℕ) (any : Bool) → fresh ≡ [] → any ≡ list_any (goes gone) entries → k ≡ (if any then n + 1 else n) → k ≡ (if changes gone fresh entries then n + 1 else n)
number_marked gone fresh entries n k any e h p =
    p ∙ ap (λ (t : Bool). if t then n + 1 else n) h ∙ ap (λ (f : List Fresh). if changes gone f entries then n + 1 else n) (sym e)

pub entries_marked : (stamp : ℕ) (g gone : List ℕ) (fresh : List Fresh) (before after : List Chunk) → ((id : ℕ) → is_among g id ≡ is_among gone id) → fresh ≡ [] → AllZip (IsMarkedChunk stamp g) before after → all_entries after ≡ appended stamp fresh (marked stamp gone (all_entries before))
entries_marked stamp g gone fresh before after same e z =
    all_marked stamp g before after z ∙ marked_same stamp g gone same (all_entries before) ∙ sym (append-nil (marked stamp gone (all_entries before))) ∙ ap (λ (f : List Fresh). appended stamp f (marked stamp gone (all_entries before))) (sym e)

-- where something is appended
pub number_appended : (gone : List ℕ) (fresh : List Fresh) (entries : List Entry) (n : ℕ) → (fresh ≡ [] → ⊥) → n + 1 ≡ (if changes gone fresh entries then n + 1 else n)
number_appended gone [] entries n ne = absurd (ne refl)
number_appended gone (f ∷ fresh) entries n ne = refl

pub entries_appended : (stamp : ℕ) (g gone : List ℕ) (fresh given : List Fresh) (before middle after : List Chunk) → ((id : ℕ) → is_among g id ≡ is_among gone id) → given ≡ fresh → AllZip (IsMarkedChunk stamp g) before middle → all_entries after ≡ all_entries middle ++ map (new_entry stamp) given
    → all_entries after ≡ appended stamp fresh (marked stamp gone (all_entries before))
entries_appended stamp g gone fresh given before middle after same e z p =
    p ∙ ap (λ (es : List Entry). es ++ map (new_entry stamp) given) (all_marked stamp g before middle z ∙ marked_same stamp g gone same (all_entries before))
    ∙ ap (λ (f : List Fresh). appended stamp f (marked stamp gone (all_entries before))) e

new_ids : (stamp : ℕ) (fresh : List Fresh) → ids_of (map (new_entry stamp) fresh) ≡ fresh_ids fresh
new_ids stamp [] = refl
new_ids stamp (f ∷ fresh) = ap (λ (ns : List ℕ). f.id ∷ ns) (new_ids stamp fresh)

new_rows : (stamp : ℕ) (fresh : List Fresh) → rows_of (map (new_entry stamp) fresh) ≡ fresh_rows fresh
new_rows stamp [] = refl
new_rows stamp (f ∷ fresh) = ap (λ (rs : List Row). f.row ∷ rs) (new_rows stamp fresh)

-- the ids and the rows after a commit
pub ids_after : (stamp : ℕ) (gone : List ℕ) (fresh : List Fresh) (entries : List Entry) → ids_of (appended stamp fresh (marked stamp gone entries)) ≡ ids_of entries ++ fresh_ids fresh
ids_after stamp gone fresh entries =
    map-append (λ (entry : Entry). entry.id) (marked stamp gone entries) (map (new_entry stamp) fresh)
    ∙ ap (λ (ns : List ℕ). ns ++ ids_of (map (new_entry stamp) fresh)) (marked_ids stamp gone entries)
    ∙ ap (λ (ns : List ℕ). ids_of entries ++ ns) (new_ids stamp fresh)

rows_after : (stamp : ℕ) (gone : List ℕ) (fresh : List Fresh) (entries : List Entry) → rows_of (appended stamp fresh (marked stamp gone entries)) ≡ rows_of entries ++ fresh_rows fresh
rows_after stamp gone fresh entries =
    map-append (λ (entry : Entry). entry.row) (marked stamp gone entries) (map (new_entry stamp) fresh)
    ∙ ap (λ (rs : List Row). rs ++ rows_of (map (new_entry stamp) fresh)) (marked_rows stamp gone entries)
    ∙ ap (λ (rs : List Row). rows_of entries ++ rs) (new_rows stamp fresh)

-- what a commit's rows need
pub record AreNew (columns : List Storage) (entries : List Entry) (fresh : List Fresh) : Type 0 where
  pub fit : All (FitsColumns columns) (fresh_rows fresh)
  pub different : IsDistinct nat_eq (fresh_ids fresh)
  pub new : All (λ id. is_among (ids_of entries) id ≡ false) (fresh_ids fresh)

pub entries_after : (columns : List Storage) (stamp : ℕ) (gone : List ℕ) (fresh : List Fresh) (entries : List Entry) → AreEntries columns entries → AreNew columns entries fresh → AreEntries columns (appended stamp fresh (marked stamp gone entries))
entries_after columns stamp gone fresh entries is new = record {
  fit = subst (All (FitsColumns columns)) (sym (rows_after stamp gone fresh entries)) (All-append (FitsColumns columns) (rows_of entries) (fresh_rows fresh) is.fit new.fit);
  different = subst (IsDistinct nat_eq) (sym (ids_after stamp gone fresh entries)) (distinct_append (ids_of entries) (fresh_ids fresh) is.different new.different new.new);
}

-- cut chunks of entries are those of a slice
pub cut_slice : (columns columns' given : List Storage) (entries : List Entry) (chunks : List Chunk) → columns' ≡ columns → given ≡ columns' → IsCut given chunks → All IsStorage columns → all_entries chunks ≡ entries → AreEntries columns entries → IsSlice columns' chunks
cut_slice columns columns' given entries chunks same e cut storable p are =
    let moved : IsSlice columns chunks = record {
      storable = storable;
      cut = subst (λ (cs : List Storage). IsCut cs chunks) (e ∙ same) cut;
      fit = subst (λ (es : List Entry). All (FitsColumns columns) (rows_of es)) (sym p) are.fit;
      different = subst (λ (es : List Entry). IsDistinct nat_eq (ids_of es)) (sym p) are.different;
    } in
    subst (λ (cs : List Storage). IsSlice cs chunks) (sym same) moved

-- no chunks are those of a slice
pub empty_slice : (columns given : List Storage) (chunks : List Chunk) → given ≡ columns → chunks ≡ [] → All IsStorage columns → IsSlice given chunks
unfolding IsDistinct
empty_slice columns given chunks same none storable =
    let made : IsSlice columns [] = record {
      storable = storable;
      cut = record { each = λ k d l. absurd (omega arith); full = λ k d l. absurd (omega arith) };
      fit = λ k d l. absurd (omega arith);
      different = tt;
    } in
    subst (λ (cs : List Storage). IsSlice cs chunks) (sym same) (subst (λ (xs : List Chunk). IsSlice columns xs) (sym none) made)
