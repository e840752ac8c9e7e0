-- Which journals a report can be read back to: numbers and texts are of the types of their fields, the first line is
-- within its limits, an answer has the words that its form goes with, and what stands in a line by names or fields has at
-- least one.
use Rattle.std.specs.Prelude.{◌≡◌, ℕ, ◌≤◌, List, [], ◌∷◌}
use Rattle.std.specs.List.{AllByRecursion}
use Rattle.dw_model.specs.declared.answers.Word.{Word}
use Rattle.dw_model.specs.declared.answers.Word.TheVariants as words
use Rattle.dw_model.specs.declared.answers.Answer.{Answer}
use Rattle.dw_model.specs.declared.answers.Answer.TheVariants as answers
use Rattle.dw_journal.specs.declared.Shape.{Shape}
use Rattle.dw_journal.specs.declared.Event.{Event}
use Rattle.dw_journal.specs.declared.Event.TheVariants as events
use Rattle.dw_journal.specs.declared.Journal.{Journal}
use Rattle.dw_print.specs.Typed.{IsOfTypes, IsTypedEvent}

-- a number from `least` to `most`
abbrev pub IsFromTo : ℕ → ℕ → ℕ → Type 0
IsFromTo least most number = (least ≤ number) × (number ≤ most)

-- a shape within its limits
abbrev pub IsWithinLimits : Shape → Type 0
IsWithinLimits shape =
    IsFromTo 1 16 shape.nodes × IsFromTo 1 16 shape.slices × IsFromTo 0 9 shape.clusters × IsFromTo 1 50 shape.slots
    × IsFromTo 1 64 shape.sessions

-- there is at least one
abbrev pub HasAny : {A : Type 0} → List A → Type 0
HasAny [] = ⊥
HasAny (first ∷ others) = Unit {0}

-- there is at least one, and each fits
abbrev pub AreReadable : {A : Type 0} → (A → Type 0) → List A → Type 0
AreReadable Fits [] = ⊥
AreReadable Fits (first ∷ others) = Fits first × AllByRecursion Fits others

-- the words of statements that may have nothing to do
abbrev pub IsPassWord : Word → Type 0
IsPassWord words.Begin = Unit {0}
IsPassWord words.Commit = Unit {0}
IsPassWord words.Rollback = Unit {0}
IsPassWord word = ⊥

-- the words of statements whose answer says no more than that they were carried out
abbrev pub IsPlainWord : Word → Type 0
IsPlainWord words.CreateTable = Unit {0}
IsPlainWord words.DropTable = Unit {0}
IsPlainWord words.LockTable = Unit {0}
IsPlainWord word = ⊥

-- an answer has the words of its form, and rows have names and fields
abbrev pub HasAnswerWords : Answer → Type 0
HasAnswerWords (answers.Plain word) = IsPlainWord word
HasAnswerWords (answers.Count word count) = word ≡ words.Insert
HasAnswerWords (answers.Rows word names rows) = (word ≡ words.Select) × HasAny names × AllByRecursion HasAny rows

-- so has what passes the words of a statement that may have nothing to do
abbrev pub HasEventWords : Event → Type 0
HasEventWords (events.Pass session statement word) = IsPassWord word
HasEventWords (events.Answer session statement answer) = HasAnswerWords answer
HasEventWords event = Unit {0}

-- each event has the words that a report can say; those of a legal journal do
abbrev pub HasReportWords : Journal → Type 0
HasReportWords journal = AllByRecursion HasEventWords journal.events

-- an event that a report can be read back to
abbrev pub IsReadableEvent : Event → Type 0
IsReadableEvent event = IsTypedEvent event × HasEventWords event

-- a journal that a report can be read back to
pub record IsReadable (journal : Journal) : Type 0 where
  pub types : IsOfTypes journal
  pub limits : IsWithinLimits journal.shape
  pub words : HasReportWords journal
