-- What is due is one status, and is told by the bytes that were read.
use Rattle.std.proofs.Common.{◌≡◌, ℕ, Bool, true, false, List, sym, subst, refl, ◌⊎◌, inl, inr}
use Rattle.std.specs.Prelude.{Some, Result, IfErr, IfOk, bytes_eq}
use Rattle.std.specs.Prelude.{Ok as Had, Err as Refused}
use Rattle.std.specs.Bool.{Decides}
use Rattle.std.proofs.lemmas.Slice.Eq.{bytes_eq-Decides}
use Rattle.dw_script.specs.declared.status.Status.{Status}
use Rattle.dw_script.specs.declared.status.Status.TheVariants.{Ok, Usage, ReadFault, WriteFault, Missing, BadScript, BadSchedule, Memory, BadJournal, NotLegal, NotFollows, WrongEnd, TooLong}
use Rattle.dw_journal.specs.declared.Journal.{Journal}
use Rattle.dw_journal.specs.declared.World.{World}
use Rattle.dw_journal.specs.Contents.{contents}
use Rattle.dw_journal.specs.History.{history_of}
use Rattle.dw_input.specs.Statuses.{ComesBefore}
use Rattle.dw_judge.specs.declared.verdicts.Verdict.{Verdict}
use Rattle.dw_judge.specs.declared.verdicts.Verdict.TheVariants as verdicts
use Rattle.dw_judge.specs.Verdicts.{IsVerdict}
use Rattle.dw_judge.proofs.OneVerdict.{one_verdict}
use Rattle.dw_check.specs.Ends.{wrong_line}
use Rattle.dw_check.specs.Answers.{IsJudged, IsAnswered, IsDueAfter, IsReportOf, MayAnswer, journal_read, right_text}

-- no line of a report that is the due one is wrong
none_by : (bytes : List ℕ) (line : ℕ) (same : Bool) → bytes_eq bytes bytes ≡ same → Decides same (bytes ≡ bytes) → wrong_line bytes bytes ≡ Some line → ⊥
none_by bytes line true is decides wrong = cc
none_by bytes line false is decides wrong = let no = decides.1 refl in cc

none_wrong : (bytes : List ℕ) (line : ℕ) → wrong_line bytes bytes ≡ Some line → ⊥
none_wrong bytes line wrong = none_by bytes line (bytes_eq bytes bytes) refl (bytes_eq-Decides bytes bytes) wrong

-- a report that is right has no other answer
passes_and : (world : World) (journal : Journal) (other : Verdict) → IsVerdict world journal (verdicts.Passes (contents (history_of world journal)))
    → IsVerdict world journal other → verdicts.Passes (contents (history_of world journal)) ≡ other
passes_and world journal other passes is = one_verdict world journal (verdicts.Passes (contents (history_of world journal))) other passes is

judged_once : (world : World) (bytes : List ℕ) (journal : Journal) (status : Status) → IsJudged world bytes journal Ok → IsJudged world bytes journal status → status ≡ Ok
judged_once world bytes journal (NotLegal event) right is =
    let same = passes_and world journal (verdicts.NotLegal event) (right.0, right.1, refl) is in cc
judged_once world bytes journal (NotFollows event) right is =
    let same = passes_and world journal (verdicts.NotFollows event) (right.0, right.1, refl) is in cc
judged_once world bytes journal (WrongEnd line) right is =
    absurd (none_wrong bytes line (subst (λ due. wrong_line bytes due ≡ Some line) (sym right.2) is.2))
judged_once world bytes journal Ok right is = refl
judged_once world bytes journal Usage right is = absurd is
judged_once world bytes journal ReadFault right is = absurd is
judged_once world bytes journal WriteFault right is = absurd is
judged_once world bytes journal (Missing name) right is = absurd is
judged_once world bytes journal (BadScript name cause) right is = absurd is
judged_once world bytes journal (BadSchedule line) right is = absurd is
judged_once world bytes journal Memory right is = absurd is
judged_once world bytes journal (BadJournal line) right is = absurd is
judged_once world bytes journal (TooLong name) right is = absurd is

answered_once : (world : World) (bytes : List ℕ) (read : Result Journal ℕ) (status : Status) → IsAnswered world bytes read Ok → IsAnswered world bytes read status → status ≡ Ok
answered_once world bytes (Refused line) status right is = cc
answered_once world bytes (Had journal) status right is = judged_once world bytes journal status right is

pub due_once : (first : Status) (world : World) (bytes : List ℕ) (status : Status) → IsDueAfter first world bytes Ok → IsDueAfter first world bytes status → status ≡ Ok
due_once Ok world bytes status right is = answered_once world bytes (journal_read bytes) status right is
due_once Usage world bytes status right is = cc
due_once ReadFault world bytes status right is = cc
due_once WriteFault world bytes status right is = cc
due_once (Missing name) world bytes status right is = cc
due_once (BadScript name cause) world bytes status right is = cc
due_once (BadSchedule line) world bytes status right is = cc
due_once Memory world bytes status right is = cc
due_once (BadJournal line) world bytes status right is = cc
due_once (NotLegal event) world bytes status right is = cc
due_once (NotFollows event) world bytes status right is = cc
due_once (WrongEnd line) world bytes status right is = cc
due_once (TooLong name) world bytes status right is = cc

-- so where that a report is right is due, and no fault came, it is answered, or memory ran out
pub complete_by : (Due : Status → Type 0) (status : Status) → ComesBefore status → (status ≡ ReadFault → ⊥) → ((status : Status) → Due status → status ≡ Ok)
    → MayAnswer Due status → (status ≡ Ok) ⊎ (status ≡ Memory)
complete_by Due Ok early unread once may = absurd early
complete_by Due Usage early unread once may = absurd early
complete_by Due ReadFault early unread once may = absurd (unread refl)
complete_by Due WriteFault early unread once may = absurd early
complete_by Due (Missing name) early unread once may = inl (once (Missing name) may)
complete_by Due (BadScript name cause) early unread once may = inl (once (BadScript name cause) may)
complete_by Due (BadSchedule line) early unread once may = inl (once (BadSchedule line) may)
complete_by Due Memory early unread once may = inr refl
complete_by Due (BadJournal line) early unread once may = inl (once (BadJournal line) may)
complete_by Due (NotLegal event) early unread once may = inl (once (NotLegal event) may)
complete_by Due (NotFollows event) early unread once may = inl (once (NotFollows event) may)
complete_by Due (WrongEnd line) early unread once may = inl (once (WrongEnd line) may)
complete_by Due (TooLong name) early unread once may = inl (once (TooLong name) may)

-- what is due is the same of the same bytes
module _ (result : Result (List ℕ) Status) (first last : Status) (world same : World) (bytes alike : List ℕ) (due_is : first ≡ last) (world_is : world ≡ same)
    (bytes_are : bytes ≡ alike) where
  pub refused_same : IfErr result (MayAnswer (IsDueAfter first world bytes)) → IfErr result (MayAnswer (IsDueAfter last same alike))
  refused_same is =
      subst (λ (status : Status). IfErr result (MayAnswer (IsDueAfter status same alike))) due_is
      (subst (λ (world : World). IfErr result (MayAnswer (IsDueAfter first world alike))) world_is
      (subst (λ (bytes : List ℕ). IfErr result (MayAnswer (IsDueAfter first world bytes))) bytes_are is))

  pub due_same : IfOk result (λ text. IsDueAfter first world bytes Ok) → IfOk result (λ text. IsDueAfter last same alike Ok)
  due_same is =
      subst (λ (status : Status). IfOk result (λ text. IsDueAfter status same alike Ok)) due_is
      (subst (λ (world : World). IfOk result (λ text. IsDueAfter first world alike Ok)) world_is
      (subst (λ (bytes : List ℕ). IfOk result (λ text. IsDueAfter first world bytes Ok)) bytes_are is))

pub right_same : (result : Result (List ℕ) Status) {world same : World} {bytes alike : List ℕ} → world ≡ same → bytes ≡ alike
    → IfOk result (λ text. (journal : Journal) × IsReportOf world bytes journal × (text ≡ right_text journal))
    → IfOk result (λ text. (journal : Journal) × IsReportOf same alike journal × (text ≡ right_text journal))
right_same result {world = world} {alike = alike} world_is bytes_are is =
    subst (λ (world : World). IfOk result (λ text. (journal : Journal) × IsReportOf world alike journal × (text ≡ right_text journal))) world_is
    (subst (λ (bytes : List ℕ). IfOk result (λ text. (journal : Journal) × IsReportOf world bytes journal × (text ≡ right_text journal))) bytes_are is)
