-- The frames of statements compose to the frame of a transaction.
use Rattle.std.proofs.Common.{◌≡◌, ℕ, Bool, true, false, List, [], ◌∷◌, ◌++◌, refl, sym, ap, ◌∙◌}
use Rattle.std.specs.Prelude.{◌||◌}
use Rattle.dw_value.specs.Values.{row_cmp}
use Rattle.dw_value.specs.Sorted.{add_sorted}
use Rattle.dw_model.specs.declared.changes.Change.{Change}
use Rattle.dw_model.specs.declared.statements.Statement.{Statement}
use Rattle.dw_model.specs.declared.statements.Statement.TheVariants.{Begin, Commit, Rollback, Vacuum, Create, Drop, Lock, Insert, Select}
use Rattle.dw_model.specs.declared.objects.Object.{Object}
use Rattle.dw_model.specs.declared.objects.Object.TheVariants.{Def, Rows}
use Rattle.dw_model.specs.Databases.{Tables, rows_of}
use Rattle.dw_model.specs.Files.{Files}
use Rattle.dw_model.specs.Objects.{reads_of, writes_of, is_among, same_object, SameAt, SameAtAll}
use Rattle.dw_model.specs.Changes.{added_to}
use Rattle.dw_model.specs.Alone.{change_of, next_of}
use Rattle.dw_model.proofs.FrameLemmas.{reply_framed, change_framed, written_framed, rows_added_framed, unwritten_framed}
use Rattle.dw_journal.specs.Contents.{view_after, replies_of, changes_of, reads_in, writes_in}

-- a definition that is written is read
defs_read : (statement : Statement) (name : List ℕ) → is_among (Def name) (writes_of statement) ≡ true → is_among (Def name) (reads_of statement) ≡ true
defs_read Begin name written = cc
defs_read Commit name written = cc
defs_read Rollback name written = cc
defs_read (Vacuum table) name written = cc
defs_read (Create spec) name written = written
defs_read (Drop table) name written = written
defs_read (Lock tables) name written = cc
defs_read (Insert table columns rows) name written = cc
defs_read (Select query) name written = cc

pub sym_at : (a b : Tables) (object : Object) → SameAt a b object → SameAt b a object
sym_at a b (Def name) same = sym same
sym_at a b (Rows name) same = sym same

pub trans_at : (a b c : Tables) (object : Object) → SameAt a b object → SameAt b c object → SameAt a c object
trans_at a b c (Def name) first second = first ∙ second
trans_at a b c (Rows name) first second = first ∙ second

pub same_at : (a : Tables) (object : Object) → SameAt a a object
same_at a (Def name) = refl
same_at a (Rows name) = refl

-- what two databases have the same of both lists, they have of each, and the other way round
pub same_front : (a b : Tables) (first second : List Object) → SameAtAll a b (first ++ second) → SameAtAll a b first
same_front a b [] second same = tt
same_front a b (object ∷ first) second same = (same.0, same_front a b first second same.1)

pub same_back : (a b : Tables) (first second : List Object) → SameAtAll a b (first ++ second) → SameAtAll a b second
same_back a b [] second same = same
same_back a b (object ∷ first) second same = same_back a b first second same.1

module _ (files : Files) where
  module _ (statement : Statement) (a b : Tables) (same : SameAtAll a b (reads_of statement)) where
    -- rows that are written without being read are the former ones with the added ones
    added_at : (name : List ℕ) → rows_of a name ≡ rows_of b name → is_among (Rows name) (writes_of statement) ≡ true
        → is_among (Rows name) (reads_of statement) ≡ false → rows_of (next_of files statement a) name ≡ rows_of (next_of files statement b) name
    added_at name rows written unread =
        rows_added_framed files statement a name written unread
        ∙ ap (λ (change : Change). add_sorted row_cmp (added_to name change) (rows_of a name)) (change_framed files statement a b same)
        ∙ ap (add_sorted row_cmp (added_to name (change_of files statement b))) rows
        ∙ sym (rows_added_framed files statement b name written unread)

    after_by : (object : Object) (written read : Bool) → SameAt a b object → is_among object (writes_of statement) ≡ written
        → is_among object (reads_of statement) ≡ read → SameAt (next_of files statement a) (next_of files statement b) object
    after_by object false read here is_written is_read =
        trans_at _ _ _ object (sym_at _ _ object (unwritten_framed files statement a object is_written))
        (trans_at _ _ _ object here (unwritten_framed files statement b object is_written))
    after_by object true true here is_written is_read = written_framed files statement a b object same is_read is_written
    after_by (Rows name) true false here is_written is_read = added_at name here is_written is_read
    after_by (Def name) true false here is_written is_read = cc (defs_read statement name is_written, is_read)

    -- an object that is the same before is the same afterwards
    pub after_same : (object : Object) → SameAt a b object → SameAt (next_of files statement a) (next_of files statement b) object
    after_same object here = after_by object _ _ here refl refl

    pub after_same_all : (objects : List Object) → SameAtAll a b objects → SameAtAll (next_of files statement a) (next_of files statement b) objects
    after_same_all [] all = tt
    after_same_all (object ∷ objects) all = (after_same object all.0, after_same_all objects all.1)

  -- the later statements of a transaction read the same on what the first one left
  later_same : (statement : Statement) (later : List Statement) (a b : Tables) → SameAtAll a b (reads_in (statement ∷ later))
      → SameAtAll (next_of files statement a) (next_of files statement b) (reads_in later)
  later_same statement later a b same =
      after_same_all statement a b (same_front a b (reads_of statement) (reads_in later) same) (reads_in later) (same_back a b (reads_of statement) (reads_in later) same)

  pub replies_framed : (statements : List Statement) (a b : Tables) → SameAtAll a b (reads_in statements)
      → replies_of files statements a ≡ replies_of files statements b
  replies_framed [] a b same = refl
  replies_framed (statement ∷ later) a b same =
      let reply = reply_framed files statement a b (same_front a b (reads_of statement) (reads_in later) same) in
      let replies = replies_framed later (next_of files statement a) (next_of files statement b) (later_same statement later a b same) in
      cc (reply, replies)

  pub changes_framed : (statements : List Statement) (a b : Tables) → SameAtAll a b (reads_in statements)
      → changes_of files statements a ≡ changes_of files statements b
  changes_framed [] a b same = refl
  changes_framed (statement ∷ later) a b same =
      let change = change_framed files statement a b (same_front a b (reads_of statement) (reads_in later) same) in
      let changes = changes_framed later (next_of files statement a) (next_of files statement b) (later_same statement later a b same) in
      cc (change, changes)

  pub view_framed : (statements : List Statement) (a b : Tables) (object : Object) → SameAtAll a b (reads_in statements)
      → SameAt a b object → SameAt (view_after files a statements) (view_after files b statements) object
  view_framed [] a b object same here = here
  view_framed (statement ∷ later) a b object same here =
      let first = same_front a b (reads_of statement) (reads_in later) same in
      view_framed later (next_of files statement a) (next_of files statement b) object (later_same statement later a b same) (after_same statement a b first object here)

neither : (a b : Bool) → (a || b) ≡ false → (a ≡ false) × (b ≡ false)
neither true b e = cc
neither false b e = (refl, e)

-- an object that isn't among two lists is among neither
pub not_among : (object : Object) (first second : List Object) → is_among object (first ++ second) ≡ false
    → (is_among object first ≡ false) × (is_among object second ≡ false)
not_among object [] second none = (refl, none)
not_among object (other ∷ first) second none =
    let here = neither (same_object object other) (is_among object (first ++ second)) none in
    let rest = not_among object first second here.1 in
    (rw here.0 rest.0, rest.1)

pub unwritten_in : (files : Files) (statements : List Statement) (a : Tables) (object : Object) → is_among object (writes_in statements) ≡ false
    → SameAt a (view_after files a statements) object
unwritten_in files [] a object unwritten = same_at a object
unwritten_in files (statement ∷ later) a object unwritten =
    let parts = not_among object (writes_of statement) (writes_in later) unwritten in
    trans_at _ _ _ object (unwritten_framed files statement a object parts.0) (unwritten_in files later (next_of files statement a) object parts.1)
