-- The serial theorem: every legal journal is serial.
use Rattle.std.proofs.Common.{inl, inr, ◌≡◌, ℕ, ◌+◌, ◌-◌, ◌<◌, ◌≤◌, Bool, true, false, List, [], ◌∷◌, length, refl, sym, ap, subst, ◌∙◌, arith}
use Rattle.std.specs.Prelude.{◌⊎◌, ◌||◌, ◌&&◌, nat_le}
use Rattle.std.specs.FinMap as map_of
use Rattle.std.proofs.lemmas.Bool.{cases_lt}
use Rattle.std.proofs.lemmas.Bool.Decides.{nat_tests}
use Rattle.dw_model.specs.declared.objects.Object.{Object}
use Rattle.dw_model.specs.declared.objects.Object.TheVariants.{Def, Rows}
use Rattle.dw_model.specs.Databases.{Tables, def_of}
use Rattle.dw_model.specs.Objects.{reads_of, writes_of, is_among, SameAt, SameAtAll}
use Rattle.dw_model.proofs.ObjectSets.{SameAt-among}
use Rattle.dw_journal.specs.declared.Journal.{Journal}
use Rattle.dw_journal.specs.declared.World.{World}
use Rattle.dw_journal.specs.History.{events_of}
use Rattle.dw_journal.specs.Transactions.{CommittedTransaction, committed, answered_statements}
use Rattle.dw_journal.specs.Contents.{states, state_at, newest_state, view_after, effect_of, after_commit, reads_in}
use Rattle.dw_journal.specs.Watermarks.{overlaps}
use Rattle.dw_journal.specs.Legal.{IsLegal}
use Rattle.dw_journal.specs.Serial.{RunsInOrder, RunsAlone, IsSerial, in_order}
use Rattle.dw_journal.proofs.Frames.{same_at, trans_at, unwritten_in}
use Rattle.dw_journal.proofs.Stand.{state_stands, state_newest, state_first}
use Rattle.dw_journal.proofs.OpenedStatements.{numbers_of}
use Rattle.dw_serial.proofs.Sequence.{IsIn, ordered, in-ordered, from-ordered}
use Rattle.dw_serial.proofs.LegalTransactions.{AreCommitted, are_committed}
use Rattle.dw_serial.proofs.CommittedEdges.{overlap, stamp_within, descending, same_stamps, forward, backward, state_made}
use Rattle.dw_serial.proofs.StatementLemmas.{same_database, defs_written, rows_read}
use Rattle.dw_serial.proofs.Effects.{statements, took, its_effect}
use Rattle.dw_serial.proofs.RunAlone.{runs_alike, puts, unwritten_after}
use Rattle.dw_serial.proofs.Replay.{not_true, same_all, reads, writes, Reads, Writes, Facts, Leaves, replay_all}

-- how a commit counts
counts_seen : (stamp snapshot : ℕ) (a b c : Bool) → stamp ≤ snapshot → a ≡ true → ((nat_le stamp snapshot && a) || (b || c)) ≡ true
counts_seen stamp snapshot a b c le is = grind (arith, nat_tests, le, is)

counts_written : (a b c : Bool) → b ≡ true → (a || (b || c)) ≡ true
counts_written true b c is = refl
counts_written false b c is = rw is refl

counts_read : (a b c : Bool) → c ≡ true → (a || (b || c)) ≡ true
counts_read true b c is = refl
counts_read false true c is = refl
counts_read false false c is = is

module _ (world : World) where
  abbrev at : List CommittedTransaction → ℕ → Tables
  at commits count = state_at (states world commits) count

  all_opened : (commits : List CommittedTransaction) → AreCommitted world commits → (x : CommittedTransaction) → IsIn x commits → x.opened ≡ numbers_of x.answered
  all_opened [] fit x is = absurd is
  all_opened (y ∷ older) fit x (inl same) = subst (λ (z : CommittedTransaction). z.opened ≡ numbers_of z.answered) (sym same) fit.5
  all_opened (y ∷ older) fit x (inr there) = all_opened older fit.6 x there

  -- an object that a transaction doesn't write stays
  unwritten_commit : (x : CommittedTransaction) (older : List CommittedTransaction) (fit : AreCommitted world (x ∷ older)) (object : Object) → is_among object (writes world x) ≡ false
      → SameAt (at (x ∷ older) (length older)) (at (x ∷ older) (length older + 1)) object
  unwritten_commit x older fit object unwritten =
      subst (λ (next : Tables). SameAt (at (x ∷ older) (length older)) next object) (sym (state_made world x older fit.1))
      (unwritten_after world.files (statements world x) (at (x ∷ older) x.snapshot) (at (x ∷ older) (length older)) (at (x ∷ older) (length older)) (effect_of world x (at (x ∷ older) x.snapshot))
      (its_effect world x fit.5 (at (x ∷ older) x.snapshot)) object (sym (took world writes_of x fit.5 object) ∙ unwritten))

  -- an object stays among these commits where none of them writes it
  abbrev Quiet : List CommittedTransaction → Object → Type 0
  Quiet commits object =
      (i j : ℕ) → i ≤ j → j ≤ length commits
      → ((x : CommittedTransaction) → IsIn x commits → i < x.stamp → x.stamp ≤ j → is_among object (writes world x) ≡ false)
      → SameAt (at commits i) (at commits j) object

  -- among the older commits
  quiet_older : (x : CommittedTransaction) (older : List CommittedTransaction) (object : Object) → Quiet older object → (i j : ℕ) → i ≤ j → j ≤ length older
      → ((y : CommittedTransaction) → IsIn y (x ∷ older) → i < y.stamp → y.stamp ≤ j → is_among object (writes world y) ≡ false)
      → SameAt (at (x ∷ older) i) (at (x ∷ older) j) object
  quiet_older x older object further i j le within none =
      subst (λ (a : Tables). SameAt a (at (x ∷ older) j) object) (sym (state_stands world x older i (omega (arith, le, within))))
      (subst (λ (b : Tables). SameAt (at older i) b object) (sym (state_stands world x older j within))
      (further i j le within (λ y is. none y (inr is))))

  quiet_by : (x : CommittedTransaction) (older : List CommittedTransaction) → AreCommitted world (x ∷ older) → (object : Object) → Quiet older object → (i j : ℕ) → i ≤ j → j ≤ length (x ∷ older)
      → ((y : CommittedTransaction) → IsIn y (x ∷ older) → i < y.stamp → y.stamp ≤ j → is_among object (writes world y) ≡ false)
      → (length older < j) ⊎ (j ≤ length older) → (length older < i) ⊎ (i ≤ length older)
      → SameAt (at (x ∷ older) i) (at (x ∷ older) j) object
  quiet_by x older fit object further i j le within none (inr j_older) other = quiet_older x older object further i j le j_older none
  quiet_by x older fit object further i j le within none (inl j_newest) (inl i_newest) =
      let e : i ≡ j = omega (arith, le, within, i_newest) in
      subst (λ (n : ℕ). SameAt (at (x ∷ older) i) (at (x ∷ older) n) object) e (same_at (at (x ∷ older) i) object)
  quiet_by x older fit object further i j le within none (inl j_newest) (inr i_older) =
      let e : length older + 1 ≡ j = omega (arith, within, j_newest) in
      let unwritten = none x (inl refl) (omega (arith, fit.0, i_older)) (omega (arith, fit.0, e)) in
      let first = quiet_older x older object further i (length older) i_older (omega arith) (λ y is some most. none y is some (omega (arith, most, e))) in
      let last = subst (λ (n : ℕ). SameAt (at (x ∷ older) (length older)) (at (x ∷ older) n) object) e (unwritten_commit x older fit object unwritten) in
      trans_at _ _ _ object first last

  quiet : (commits : List CommittedTransaction) → AreCommitted world commits → (object : Object) → Quiet commits object
  quiet [] fit object i j le within none =
      let e : i ≡ j = omega (arith, le, within) in
      subst (λ (n : ℕ). SameAt (at [] i) (at [] n) object) e (same_at (at [] i) object)
  quiet (x ∷ older) fit object i j le within none =
      quiet_by x older fit object (quiet older fit.6 object) i j le within none (cases_lt (length older) j) (cases_lt (length older) i)

  -- a transaction's statements give its answers on this database
  abbrev Gave : CommittedTransaction → Tables → Type 0
  Gave x start = RunsAlone world.files (answered_statements world x.session x.answered) start (view_after world.files start (statements world x))

  -- what it leaves of the database before it
  abbrev left_by : CommittedTransaction → Tables → Tables → Tables
  left_by x start before = after_commit (effect_of world x start) before

  made_in : (commits : List CommittedTransaction) → AreCommitted world commits → (x : CommittedTransaction) → IsIn x commits
      → Gave x (at commits x.snapshot) × (at commits x.stamp ≡ left_by x (at commits x.snapshot) (at commits (x.stamp - 1)))
  made_in [] fit x is = absurd is
  made_in (y ∷ older) fit x (inl same) =
      let start = sym (state_stands world y older y.snapshot fit.1) in
      let runs = subst (Gave y) start fit.4 in
      let before : y.stamp - 1 ≡ length older = omega (arith, fit.0) in
      let next : at (y ∷ older) y.stamp ≡ left_by y (at (y ∷ older) y.snapshot) (at (y ∷ older) (y.stamp - 1)) =
      ap (at (y ∷ older)) fit.0 ∙ state_made world y older fit.1 ∙ ap (λ (n : ℕ). left_by y (at (y ∷ older) y.snapshot) (at (y ∷ older) n)) (sym before) in
      subst (λ (z : CommittedTransaction). Gave z (at (y ∷ older) z.snapshot) × (at (y ∷ older) z.stamp ≡ left_by z (at (y ∷ older) z.snapshot) (at (y ∷ older) (z.stamp - 1)))) (sym same) (runs, next)
  made_in (y ∷ older) fit x (inr there) =
      let w = stamp_within world older fit.6 x there in
      let m = made_in older fit.6 x there in
      let snapshot = sym (state_stands world y older x.snapshot (omega (arith, w.1, w.2))) in
      let before = sym (state_stands world y older (x.stamp - 1) (omega (arith, w.1))) in
      let next : at (y ∷ older) x.stamp ≡ left_by x (at (y ∷ older) x.snapshot) (at (y ∷ older) (x.stamp - 1)) =
      state_stands world y older x.stamp w.1 ∙ m.1
      ∙ ap (λ (s : Tables). left_by x s (at older (x.stamp - 1))) snapshot
      ∙ ap (λ (b : Tables). left_by x (at (y ∷ older) x.snapshot) b) before in
      (subst (Gave x) snapshot m.0, next)

  module _ (commits : List CommittedTransaction) (fit : AreCommitted world commits) where
    abbrev count : ℕ
    count = length commits

    seen : (x y : CommittedTransaction) (object : Object) → IsIn x commits → IsIn y commits → x.stamp ≤ y.snapshot → Writes world x object → Reads world y object → x.low < y.low
    seen x y object is_x is_y le written read =
        let w = stamp_within world commits fit y is_y in
        forward world commits fit x y is_x is_y (omega (arith, le, w.2))
        (counts_seen x.stamp y.snapshot (overlaps (writes world x) (reads world y)) (overlaps (writes world x) (writes world y)) (overlaps (reads world x) (writes world y)) le (overlap object (writes world x) (reads world y) written read))

    overwritten : (x y : CommittedTransaction) (object : Object) → IsIn x commits → IsIn y commits → x.stamp < y.stamp → Writes world x object → Writes world y object → x.low < y.low
    overwritten x y object is_x is_y earlier first second =
        forward world commits fit x y is_x is_y earlier
        (counts_written (nat_le x.stamp y.snapshot && overlaps (writes world x) (reads world y)) (overlaps (writes world x) (writes world y)) (overlaps (reads world x) (writes world y)) (overlap object (writes world x) (writes world y) first second))

    read_before : (x y : CommittedTransaction) (object : Object) → IsIn x commits → IsIn y commits → x.stamp < y.stamp → Reads world x object → Writes world y object → x.low < y.low
    read_before x y object is_x is_y earlier first second =
        forward world commits fit x y is_x is_y earlier
        (counts_read (nat_le x.stamp y.snapshot && overlaps (writes world x) (reads world y)) (overlaps (writes world x) (writes world y)) (overlaps (reads world x) (writes world y)) (overlap object (reads world x) (writes world y) first second))

    missed : (x y : CommittedTransaction) (object : Object) → IsIn x commits → IsIn y commits → x.stamp < y.stamp → y.snapshot < x.stamp → Writes world x object → Reads world y object → y.low ≤ x.low
    missed x y object is_x is_y earlier after written read =
        backward world commits fit x y is_x is_y earlier after (overlap object (writes world x) (reads world y) written read)

    -- where a transaction writes rows and not the definition, no other one wrote the definition after its snapshot
    definition_stays : (x : CommittedTransaction) → IsIn x commits → (name : List ℕ) → Writes world x (Rows name) → is_among (Def name) (writes world x) ≡ false
        → def_of (at commits (x.stamp - 1)) name ≡ def_of (at commits x.snapshot) name
    definition_stays x is_x name written unwritten =
        let w = stamp_within world commits fit x is_x in
        let its = all_opened commits fit x is_x in
        let read = took world reads_of x its (Def name) ∙ rows_read (statements world x) name (sym (took world writes_of x its (Rows name)) ∙ written) in
        sym (quiet commits fit (Def name) x.snapshot (x.stamp - 1) (omega (arith, w.0, w.2)) (omega (arith, w.1))
        (λ y is_y after most. not_true _ (λ wrote.
        let all = all_opened commits fit y is_y in
        let rows = took world writes_of y all (Rows name) ∙ (defs_written (statements world y) name (sym (took world writes_of y all (Def name)) ∙ wrote)).2 in
        let below : y.stamp < x.stamp = omega (arith, most, w.0) in
        omega (arith, overwritten y x (Rows name) is_y is_x below rows written, missed y x (Def name) is_y is_x below after wrote read))))

    -- what each transaction gave, and what it makes of the database before it
    made : (x : CommittedTransaction) → IsIn x commits
        → Gave x (at commits x.snapshot) × (at commits x.stamp ≡ left_by x (at commits x.snapshot) (at commits (x.stamp - 1)))
    made x is_x = made_in commits fit x is_x

    leaves : (x : CommittedTransaction) (before : Tables) → IsIn x commits → SameAtAll before (at commits x.snapshot) (reads world x) → Leaves world (at commits) x before
    leaves x before is_x same =
        let m = made x is_x in
        let all = all_opened commits fit x is_x in
        let start = at commits x.snapshot in
        let read : SameAtAll before start (reads_in (statements world x)) =
        same_all before start (reads_in (statements world x)) (λ object is. SameAt-among before start object (reads world x) same (took world reads_of x all object ∙ is)) in
        record {
          after = view_after world.files before (statements world x);
          runs = runs_alike world.files (answered_statements world x.session x.answered) start _ before m.0 read;
          stays = λ object unwritten. unwritten_in world.files (statements world x) before object (sym (took world writes_of x all object) ∙ unwritten);
          puts = λ object wrote here.
              subst (λ (next : Tables). SameAt (view_after world.files before (statements world x)) next object) (sym m.1)
              (puts world.files (statements world x) start (at commits (x.stamp - 1)) before (effect_of world x start) (its_effect world x all start) read object (sym (took world writes_of x all object) ∙ wrote)
              (λ name rows none. definition_stays x is_x name (took world writes_of x all (Rows name) ∙ rows) (took world writes_of x all (Def name) ∙ none)) here);
        }

    facts : Facts world commits count (at commits)
    facts = record {
      within = stamp_within world commits fit;
      one = same_stamps world commits fit;
      seen = seen;
      overwritten = overwritten;
      read_before = read_before;
      missed = missed;
      quiet = quiet commits fit;
      alone = leaves;
    }

    runs : RunsInOrder world (in_order commits) (at commits 0) (at commits count)
    runs = replay_all world commits count (at commits) facts (in_order commits) (ordered commits (descending world commits fit))
        (λ x is. from-ordered x commits is) (λ x is. in-ordered x commits is) same_database

  pub serial : (commits : List CommittedTransaction) → AreCommitted world commits → RunsInOrder world (in_order commits) map_of.empty (newest_state (states world commits))
  serial commits fit =
      subst (λ (before : Tables). RunsInOrder world (in_order commits) before (newest_state (states world commits))) (state_first world commits)
      (subst (RunsInOrder world (in_order commits) (at commits 0)) (state_newest world commits (length commits) (omega arith)) (runs commits fit))

-- so every legal journal is serial
pub legal_serial : (world : World) (journal : Journal) → IsLegal world journal → IsSerial world journal
legal_serial world journal legal =
    serial world (committed (events_of journal)) (are_committed journal.shape world (events_of journal) legal.follows legal.legal)
