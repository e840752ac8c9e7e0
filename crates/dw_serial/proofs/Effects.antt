-- What a committed transaction did, where all its statements were answered; and a commit as its changes.
use Rattle.std.proofs.Common.{◌≡◌, ℕ, Bool, true, false, List, [], ◌∷◌, refl, ap, subst, ◌∙◌}
use Rattle.std.specs.Prelude.{flat_map}
use Rattle.dw_model.specs.declared.changes.Change.{Change}
use Rattle.dw_model.specs.declared.objects.Object.{Object}
use Rattle.dw_model.specs.declared.objects.Object.TheVariants.{Def, Rows}
use Rattle.dw_model.specs.declared.statements.Statement.{Statement}
use Rattle.dw_model.specs.Alone.{next_of}
use Rattle.dw_model.specs.Databases.{Tables, def_of}
use Rattle.dw_model.specs.Files.{Files}
use Rattle.dw_model.specs.Objects.{reads_of, writes_of, is_among, SameAt, SameAtAll}
use Rattle.dw_model.proofs.ObjectSets.{SameAt-among}
use Rattle.dw_journal.specs.declared.World.{World}
use Rattle.dw_journal.specs.Transactions.{CommittedTransaction, statements_in, objects_over, taken_by}
use Rattle.dw_journal.specs.Contents.{effect_of, after_commit, view_after, changes_of, reads_in, writes_in}
use Rattle.dw_journal.proofs.Frames.{sym_at, trans_at, changes_framed, unwritten_in}
use Rattle.dw_journal.proofs.OpenedStatements.{numbers_of}
use Rattle.dw_journal.proofs.TakenObjects.{among_answered}
use Rattle.dw_serial.specs.Applied.{changed_by_all, CommitAppliesChanges}
use Rattle.dw_serial.proofs.Replay.{same_all}
use Rattle.dw_serial.proofs.RunAlone.{IsEffectOf, puts, unwritten_after}
use Rattle.dw_serial.proofs.StatementLemmas.{rows_read}

module _ (world : World) where
  -- the statements of a committed transaction
  abbrev pub statements : CommittedTransaction → List Statement
  statements x = statements_in world x.session x.answered

  -- it took what they read and write
  pub took : (objects : Statement → List Object) (x : CommittedTransaction) → x.opened ≡ numbers_of x.answered → (object : Object)
      → is_among object (objects_over objects world x.session x.opened) ≡ is_among object (flat_map objects (statements x))
  took objects x all object =
      ap (λ (opened : List ℕ). is_among object (objects_over objects world x.session opened)) all ∙ among_answered objects world x.session x.answered object

  pub its_effect : (x : CommittedTransaction) → x.opened ≡ numbers_of x.answered → (start : Tables) → IsEffectOf world.files (statements x) start (effect_of world x start)
  its_effect x all start = record { reads = took reads_of x all; writes = took writes_of x all; changes = refl; view = refl }

-- what statements leave is the database with their changes applied
view_changed : (files : Files) (statements : List Statement) (tables : Tables) → view_after files tables statements ≡ changed_by_all (changes_of files statements tables) tables
view_changed files [] tables = refl
view_changed files (statement ∷ later) tables = view_changed files later (next_of files statement tables)

module _ (world : World) (commit : CommittedTransaction) (start before : Tables) where
  applies_by : (all : commit.opened ≡ numbers_of commit.answered) → SameAtAll before start (reads_in (statements world commit)) → (object : Object) (wrote : Bool)
      → is_among object (writes_in (statements world commit)) ≡ wrote
      → SameAt (after_commit (effect_of world commit start) before) (view_after world.files before (statements world commit)) object
  applies_by all same object true wrote =
      let definition_stays : (name : List ℕ) → is_among (Rows name) (writes_in (statements world commit)) ≡ true → def_of before name ≡ def_of start name =
      λ name rows. SameAt-among before start (Def name) (reads_in (statements world commit)) same (rows_read (statements world commit) name rows) in
      let here : SameAt before before object = same_here object in
      sym_at _ _ object (puts world.files (statements world commit) start before before (effect_of world commit start) (its_effect world commit all start) same object wrote
      (λ name rows none. definition_stays name rows) here)
    where
      same_here : (object : Object) → SameAt before before object
      same_here (Def name) = refl
      same_here (Rows name) = refl
  applies_by all same object false unwritten =
      trans_at _ _ _ object
      (sym_at _ _ object (unwritten_after world.files (statements world commit) start before before (effect_of world commit start) (its_effect world commit all start) object unwritten))
      (unwritten_in world.files (statements world commit) before object unwritten)

  -- a commit applies its changes
  pub applies : CommitAppliesChanges world commit start before
  applies all same object =
      let read : SameAtAll before start (reads_in (statements world commit)) =
      same_all before start (reads_in (statements world commit)) (λ object is. SameAt-among before start object (taken_by world commit).reads same (took world reads_of commit all object ∙ is)) in
      let changes = changes_framed world.files (statements world commit) before start read in
      subst (λ (tables : Tables). SameAt (after_commit (effect_of world commit start) before) tables object)
      (view_changed world.files (statements world commit) before ∙ ap (λ (cs : List Change). changed_by_all cs before) changes)
      (applies_by all read object _ refl)
