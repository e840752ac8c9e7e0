-- What a committed transaction leaves where it is run alone on a database that has what it read.
use Rattle.std.proofs.Common.{◌≡◌, ℕ, Bool, true, false, List, [], ◌∷◌, map, refl, sym, ap, subst, ◌∙◌}
use Rattle.std.specs.Prelude.{None, Result, Ok}
use Rattle.dw_value.specs.Values.{row_cmp}
use Rattle.dw_value.specs.Sorted.{add_sorted}
use Rattle.dw_model.specs.declared.answers.Answer.{Answer as Reply}
use Rattle.dw_model.specs.declared.changes.Change.{Change}
use Rattle.dw_model.specs.declared.refusals.Refusal.{Refusal}
use Rattle.dw_model.specs.declared.statements.Statement.{Statement}
use Rattle.dw_model.specs.declared.objects.Object.{Object}
use Rattle.dw_model.specs.declared.objects.Object.TheVariants.{Def, Rows}
use Rattle.dw_model.specs.Databases.{Tables, def_of, rows_of}
use Rattle.dw_model.specs.Files.{Files}
use Rattle.dw_model.specs.Alone.{next_of, reply_of}
use Rattle.dw_model.specs.Objects.{is_among, SameAt, SameAtAll}
use Rattle.dw_model.proofs.ObjectSets.{SameAt-among}
use Rattle.dw_journal.specs.Contents.{Effect, view_after, replies_of, changes_of, added_by, def_after, rows_after, after_commit, reads_in, writes_in}
use Rattle.dw_journal.specs.Serial.{RunsAlone}
use Rattle.dw_journal.proofs.AloneLemmas.{next_of-done, reply_of-done, alone-replied}
use Rattle.dw_journal.proofs.CommittedObjects.{def_committed, rows_committed}
use Rattle.dw_journal.proofs.Frames.{replies_framed, changes_framed, view_framed, unwritten_in}
use Rattle.dw_serial.proofs.StatementLemmas.{absent_rows, defs_written, absent_added, rows_added}

-- the statements of answered ones, and what they replied
abbrev statements_of : List (Statement × Reply) → List Statement
statements_of answered = map (λ (pair : Statement × Reply). pair.0) answered

abbrev answers_of : List (Statement × Reply) → List (Result Reply Refusal)
answers_of answered = map (λ (pair : Statement × Reply). Ok pair.1) answered

head_of : (a b : Result Reply Refusal) (xs ys : List (Result Reply Refusal)) → ◌≡◌ {A = List (Result Reply Refusal)} (a ∷ xs) (b ∷ ys) → a ≡ b
head_of a b xs ys e = cc

tail_of : (a b : Result Reply Refusal) (xs ys : List (Result Reply Refusal)) → ◌≡◌ {A = List (Result Reply Refusal)} (a ∷ xs) (b ∷ ys) → xs ≡ ys
tail_of a b xs ys e = cc

-- A transaction's effect, by its statements and the database at its snapshot: it took what they read and write, its changes
-- are theirs, and its view is what they leave.
pub record IsEffectOf (files : Files) (statements : List Statement) (start : Tables) (effect : Effect) : Type 0 where
  pub reads : (object : Object) → is_among object effect.taken.reads ≡ is_among object (reads_in statements)
  pub writes : (object : Object) → is_among object effect.taken.writes ≡ is_among object (writes_in statements)
  pub changes : effect.changes ≡ changes_of files statements start
  pub view : effect.view ≡ view_after files start statements

module _ (files : Files) where
  -- statements that are run alone reply their answers
  runs_reply : (answered : List (Statement × Reply)) (start last : Tables) → RunsAlone files answered start last → replies_of files (statements_of answered) start ≡ answers_of answered
  runs_reply [] start last runs = refl
  runs_reply (first ∷ rest) start last runs =
      let reply : reply_of files first.0 start ≡ Ok first.1 = reply_of-done files first.0 start runs.0 first.1 runs.1.0 in
      let left : next_of files first.0 start ≡ runs.0 = next_of-done files first.0 start runs.0 first.1 runs.1.0 in
      let further : replies_of files (statements_of rest) (next_of files first.0 start) ≡ answers_of rest = subst (λ (tables : Tables). replies_of files (statements_of rest) tables ≡ answers_of rest) (sym left) (runs_reply rest runs.0 last runs.1.1) in
      cc (reply, further)

  -- so statements that reply these answers are run alone
  reply_runs : (answered : List (Statement × Reply)) (start : Tables) → replies_of files (statements_of answered) start ≡ answers_of answered
      → RunsAlone files answered start (view_after files start (statements_of answered))
  reply_runs [] start replies = refl
  reply_runs (first ∷ rest) start replies =
      let here = head_of (reply_of files first.0 start) (Ok first.1) (replies_of files (statements_of rest) (next_of files first.0 start)) (answers_of rest) replies in
      let further = tail_of (reply_of files first.0 start) (Ok first.1) (replies_of files (statements_of rest) (next_of files first.0 start)) (answers_of rest) replies in
      (next_of files first.0 start, (alone-replied files first.0 start first.1 here, reply_runs rest (next_of files first.0 start) further))

  -- what was run on one database runs on another that has the same of all that it read
  pub runs_alike : (answered : List (Statement × Reply)) (start last tables : Tables) → RunsAlone files answered start last → SameAtAll tables start (reads_in (statements_of answered))
      → RunsAlone files answered tables (view_after files tables (statements_of answered))
  runs_alike answered start last tables runs same =
      reply_runs answered tables (replies_framed files (statements_of answered) tables start same ∙ runs_reply answered start last runs)

  module _ (statements : List Statement) (start before tables : Tables) (effect : Effect) (is : IsEffectOf files statements start effect) where
    -- what the transaction wrote and read, by its sets
    wrote : (object : Object) (b : Bool) → is_among object (writes_in statements) ≡ b → is_among object effect.taken.writes ≡ b
    wrote object b e = is.writes object ∙ e

    read : (object : Object) (b : Bool) → is_among object (reads_in statements) ≡ b → is_among object effect.taken.reads ≡ b
    read object b e = is.reads object ∙ e

    module _ (same : SameAtAll tables start (reads_in statements)) where
      -- a definition that it writes
      puts_def : (name : List ℕ) → is_among (Def name) (writes_in statements) ≡ true
          → def_of (view_after files tables statements) name ≡ def_of (after_commit effect before) name
      puts_def name written =
          let reads = (defs_written statements name written).0 in
          let here : def_of tables name ≡ def_of start name = SameAt-among tables start (Def name) (reads_in statements) same reads in
          let here_written = wrote (Def name) true written in
          let made : def_after effect before name ≡ def_of (view_after files start statements) name = rw here_written (ap (λ (v : Tables). def_of v name) is.view) in
          view_framed files statements tables start (Def name) same here ∙ sym made ∙ sym (def_committed effect before name)

      -- rows that it writes and reads, or only writes
      rows_same_by : (name : List ℕ) → is_among (Rows name) effect.taken.writes ≡ true → (reads : Bool) → is_among (Rows name) (reads_in statements) ≡ reads
          → is_among (Rows name) effect.taken.reads ≡ reads
          → rows_of tables name ≡ rows_of before name → rows_of (view_after files tables statements) name ≡ rows_after effect before name
      rows_same_by name written true is_read has_read rows =
          let here : rows_of tables name ≡ rows_of start name = SameAt-among tables start (Rows name) (reads_in statements) same is_read in
          rw (written, has_read) (view_framed files statements tables start (Rows name) same here ∙ ap (λ (v : Tables). rows_of v name) (sym is.view))
      rows_same_by name written false is_read has_read rows =
          let changes : changes_of files statements tables ≡ effect.changes = changes_framed files statements tables start same ∙ sym is.changes in
          rw (written, has_read)
          (rows_added files statements tables name is_read
          ∙ ap (λ (cs : List Change). add_sorted row_cmp (added_by cs name) (rows_of tables name)) changes
          ∙ ap (add_sorted row_cmp (added_by effect.changes name)) rows)

      -- where there is no table afterwards, it has no rows
      none_by : (name : List ℕ) → is_among (Rows name) effect.taken.writes ≡ true → (defined reads : Bool)
          → is_among (Def name) (writes_in statements) ≡ defined → is_among (Def name) effect.taken.writes ≡ defined
          → is_among (Rows name) (reads_in statements) ≡ reads → is_among (Rows name) effect.taken.reads ≡ reads
          → (is_among (Def name) (writes_in statements) ≡ false → def_of before name ≡ def_of start name)
          → def_after effect before name ≡ None → rows_after effect before name ≡ []
      none_by name written true reads wrote_def has_def is_read has_read stays none =
          let all = defs_written statements name wrote_def in
          let gone : def_of effect.view name ≡ None = rw has_def at none in
          let rows_read = read (Rows name) true all.1 in
          rw (written, rows_read) (absent_rows effect.view name gone)
      none_by name written false true wrote_def has_def is_read has_read stays none =
          let gone : def_of before name ≡ None = rw has_def at none in
          let view_gone : def_of effect.view name ≡ None =
          ap (λ (v : Tables). def_of v name) is.view ∙ sym (unwritten_in files statements start (Def name) wrote_def) ∙ sym (stays wrote_def) ∙ gone in
          rw (written, has_read) (absent_rows effect.view name view_gone)
      none_by name written false false wrote_def has_def is_read has_read stays none =
          let gone : def_of before name ≡ None = rw has_def at none in
          let start_gone : def_of start name ≡ None = sym (stays wrote_def) ∙ gone in
          let added : added_by effect.changes name ≡ [] = ap (λ (cs : List Change). added_by cs name) is.changes ∙ absent_added files statements start name start_gone wrote_def in
          rw (written, has_read, added) (absent_rows before name gone)

      pub puts_rows : (name : List ℕ) → is_among (Rows name) (writes_in statements) ≡ true
          → (is_among (Def name) (writes_in statements) ≡ false → def_of before name ≡ def_of start name)
          → rows_of tables name ≡ rows_of before name → rows_of (view_after files tables statements) name ≡ rows_of (after_commit effect before) name
      puts_rows name written stays rows =
          let here = wrote (Rows name) true written in
          rows_same_by name here _ refl (read (Rows name) _ refl) rows
          ∙ sym (rows_committed effect before name (none_by name here _ _ refl (wrote (Def name) _ refl) refl (read (Rows name) _ refl) stays))

      pub puts : (object : Object) → is_among object (writes_in statements) ≡ true
          → ((name : List ℕ) → is_among (Rows name) (writes_in statements) ≡ true → is_among (Def name) (writes_in statements) ≡ false → def_of before name ≡ def_of start name)
          → SameAt tables before object → SameAt (view_after files tables statements) (after_commit effect before) object
      puts (Def name) written stays here = puts_def name written
      puts (Rows name) written stays here = puts_rows name written (stays name written) here

    -- where no rows are written, no definition is
    not_written : (name : List ℕ) → is_among (Rows name) (writes_in statements) ≡ false → (defined : Bool)
        → is_among (Def name) (writes_in statements) ≡ defined → is_among (Def name) (writes_in statements) ≡ false
    not_written name unwritten true wrote_def = cc ((defs_written statements name wrote_def).2, unwritten)
    not_written name unwritten false wrote_def = wrote_def

    -- an object that isn't written is as before the commit
    pub unwritten_after : (object : Object) → is_among object (writes_in statements) ≡ false → SameAt before (after_commit effect before) object
    unwritten_after (Def name) unwritten =
        let here = wrote (Def name) false unwritten in
        let stays : def_after effect before name ≡ def_of before name = rw here refl in
        sym (def_committed effect before name ∙ stays)
    unwritten_after (Rows name) unwritten =
        let here = wrote (Rows name) false unwritten in
        let stays : rows_after effect before name ≡ rows_of before name = rw here refl in
        let no_def = wrote (Def name) false (not_written name unwritten _ refl) in
        let def : def_after effect before name ≡ def_of before name = rw no_def refl in
        sym (rows_committed effect before name (λ none. stays ∙ absent_rows before name (sym def ∙ none)) ∙ stays)
