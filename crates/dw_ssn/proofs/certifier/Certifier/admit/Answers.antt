use Rattle.std.proofs.Common.{refl, ◌≡◌, ℕ, ◌+◌, List, ◌∷◌, Bool, true, false, length, map, sym, ap, subst, ◌∙◌, arith}
use Rattle.std.specs.Prelude.{if◌then◌else◌}
use Rattle.dw_model.specs.declared.objects.Object.{Object}
use Rattle.dw_model.specs.Objects.{is_among}
use Rattle.dw_journal.specs.declared.Certified.{Certified}
use Rattle.dw_ssn.specs.declared.summaries.Newest.{Newest}
use Rattle.dw_ssn.specs.CommitList.{newest_writer, newest_reader}
use Rattle.dw_ssn.specs.Raised.{raised}
use Rattle.dw_ssn.specs.Summaries.{Summaries, StandsFor, newest_at, newest_of}
use Rattle.dw_ssn.proofs.Pruning.{entries_late, recent_late}
use Rattle.dw_ssn.proofs.certifier.Certifier.admit.Goals as goal

-- first the readers are raised and then the writers
both : (written read : Bool) (stamp : ℕ) (newest : Newest)
    → (if written then raised stamp true (if read then raised stamp false newest else newest) else (if read then raised stamp false newest else newest))
    ≡ record { writer = if written then stamp else newest.writer; reader = if read then stamp else newest.reader }
both true true stamp newest = refl
both true false stamp newest = refl
both false true stamp newest = refl
both false false stamp newest = refl

-- what is raised, by lists that were seen
seen : (object : Object) (objects objects' some some' : List Object) (stamps raised_stamps : List Newest) (stamp : ℕ) (is_written : Bool) (newest : Newest)
    → objects' ≡ objects → some' ≡ some → newest_at object objects stamps ≡ newest
    → newest_at object objects' raised_stamps ≡ (if is_among object some' then raised stamp is_written (newest_at object objects' stamps) else newest_at object objects' stamps)
    → newest_at object objects raised_stamps ≡ (if is_among object some then raised stamp is_written newest else newest)
seen object objects objects' some some' stamps raised_stamps stamp is_written newest e f g is =
    (λ k. newest_at object (sym e k) raised_stamps) ∙ is
    ∙ (λ k. if is_among object (f k) then raised stamp is_written (newest_at object (e k) stamps) else newest_at object (e k) stamps)
    ∙ ap (λ (n : Newest). if is_among object some then raised stamp is_written n else n) g

among_seen : (object : Object) (objects objects' some some' : List Object) → objects' ≡ objects → some' ≡ some
    → (is_among object some ≡ true → is_among object objects ≡ true) → is_among object some' ≡ true → is_among object objects' ≡ true
among_seen object objects objects' some some' e f there among =
    ap (is_among object) e ∙ there (sym (ap (is_among object) f) ∙ among)

pub returns-clause-added : goal.returns-clause-added
returns-clause-added c = λ list stands.
    let i = c.self.inside in
    let now = subst (λ (s : Summaries). StandsFor s list) (sym c.self.view_is) stands in
    let taken = c.args.taken in
    let commit : Certified = record { low = c.args.marks.low; taken = taken } in
    let objects = c.make_room-2.new.objects.items in
    let same = λ (object : Object). c.in_ok-make_room-2.ensures.same object ∙ c.in_ok-make_room.ensures.same object ∙ now.newest_are object in
    let before : c.in_ok-before.before ≡ map (λ object. newest_writer object list.commits) taken.writes =
    c.in_ok-before.ensures
    ∙ (λ k. map (λ object. (newest_at object (c.as_slice.ensures.value k) (c.as_slice-2.ensures.value k)).writer) (c.as_slice-3.ensures.items k))
    ∙ (λ k. map (λ object. (now.newest_are object k).writer) taken.writes) in
    record {
      oldest_is = now.oldest_is;
      count_is = omega (arith, now.count_is);
      within = omega (arith, now.within);
      newest_are = λ object.
          let reads_there : is_among object taken.reads ≡ true → is_among object objects ≡ true = λ among. c.in_ok-make_room-2.ensures.stay object (c.in_ok-make_room.ensures.there object (ap (is_among object) c.as_slice-4.ensures.items ∙ among)) in
          let writes_there : is_among object taken.writes ≡ true → is_among object objects ≡ true = λ among. c.in_ok-make_room-2.ensures.there object (ap (is_among object) c.as_slice-5.ensures.items ∙ among) in
          let read = seen object objects c.as_slice-6.result.now taken.reads c.as_slice-7.result.now c.make_room-2.new.stamps.items c.raise.new.stamps.items (i.count + 1) false (newest_of object list.commits)
          c.as_slice-6.ensures.value c.as_slice-7.ensures.items (same object)
          (c.raise.ensures.raised object (among_seen object objects c.as_slice-6.result.now taken.reads c.as_slice-7.result.now c.as_slice-6.ensures.value c.as_slice-7.ensures.items reads_there)) in
          let written = seen object objects c.as_slice-8.result.now taken.writes c.as_slice-9.result.now c.raise.new.stamps.items c.raise-2.new.stamps.items (i.count + 1) true _
          c.as_slice-8.ensures.value c.as_slice-9.ensures.items read
          (c.raise-2.ensures.raised object (among_seen object objects c.as_slice-8.result.now taken.writes c.as_slice-9.result.now c.as_slice-8.ensures.value c.as_slice-9.ensures.items writes_there)) in
          let stamp : i.count + 1 ≡ length (commit ∷ list.commits) = omega (arith, now.count_is) in
          written ∙ both (is_among object taken.writes) (is_among object taken.reads) (i.count + 1) (newest_of object list.commits)
          ∙ ap (λ (n : ℕ). record { writer = if is_among object taken.writes then n else newest_writer object list.commits; reader = if is_among object taken.reads then n else newest_reader object list.commits }) stamp;
      recent_are = c.push_front_reserved.ensures.items
          ∙ (λ k. record { low = c.args.marks.low; writes = taken.writes; before = before k } ∷ (c.in_ok-reserve.ensures.items ∙ now.recent_are) k)
          ∙ sym (recent_late list.oldest commit list.commits now.within);
      kept_is = omega (arith, now.kept_is, c.len-more.ensures, entries_late list.oldest commit list.commits now.within);
      sets = (c.requires.set, now.sets);
    }
