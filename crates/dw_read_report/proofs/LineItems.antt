-- Rows and events that stand one after another: what the loops over them keep.
use Rattle.std.proofs.Common.{◌≡◌, ℕ, suc, ◌+◌, ◌-◌, ◌<◌, true, false, List, [], ◌∷◌, ◌++◌, Result, Ok, Err, refl, sym, ◌∙◌, arith, append_assoc}
use Rattle.std.proofs.lemmas.List.{append-nil}
use Rattle.dw_value.specs.declared.values.Field.{Field}
use Rattle.dw_journal.specs.declared.Event.{Event}
use Rattle.dw_read_report.specs.declared.faults.PartFault.{PartFault}
use Rattle.dw_read_report.specs.declared.faults.PartFault.TheVariants.{Bad, Memory}
use Rattle.dw_read_report.specs.Reading.{row_at}
use Rattle.dw_read_report.specs.ReportReading.{FailsAt, ends_journal, event_at, events_at, lined, rows_at, with_items}

pub items_join : {A : Type 0} (front more : List A) (read : Result (List A × List ℕ) ℕ)
    → with_items front (with_items more read) ≡ with_items (front ++ more) read
items_join front more (Err left) = refl
items_join front more (Ok x) = simp append_assoc

left_over : (most i : ℕ) → i < most → most - i ≡ suc (most - (i + 1))
left_over most i below = omega arith

-- one more row was read
pub rows_go_on : (front : List (List Field)) (most i : ℕ) (rest next : List ℕ) (row : List Field)
    (whole : Result (List (List Field) × List ℕ) ℕ) → i < most → lined row_at rest ≡ Ok (row, next)
    → with_items front (rows_at (most - i) rest) ≡ whole
    → with_items (front ++ row ∷ []) (rows_at (most - (i + 1)) next) ≡ whole
rows_go_on front most i rest next row whole below is so_far =
    sym (items_join front (row ∷ []) (rows_at (most - (i + 1)) next)) ∙ step ∙ so_far
  where
    step : with_items front (with_items (row ∷ []) (rows_at (most - (i + 1)) next)) ≡ with_items front (rows_at (most - i) rest)
    step = rw (left_over most i below, is) refl

-- one more event was read
pub events_go_on : (front : List Event) (most i : ℕ) (rest next : List ℕ) (event : Event)
    (whole : Result (List Event × List ℕ) ℕ) → i < most → ends_journal rest ≡ false → event_at (i + 1) rest ≡ Ok (event, next)
    → with_items front (events_at (most - i) (i + 1) rest) ≡ whole
    → with_items (front ++ event ∷ []) (events_at (most - (i + 1)) (i + 1 + 1) next) ≡ whole
events_go_on front most i rest next event whole below more is so_far =
    sym (items_join front (event ∷ []) (events_at (most - (i + 1)) (i + 1 + 1) next)) ∙ step ∙ so_far
  where
    step : with_items front (with_items (event ∷ []) (events_at (most - (i + 1)) (i + 1 + 1) next)) ≡ with_items front (events_at (most - i) (i + 1) rest)
    step = rw (left_over most i below, more, is) refl

-- the journal ends here
pub events_end : (front : List Event) (most i : ℕ) (rest : List ℕ) (whole : Result (List Event × List ℕ) ℕ)
    → i < most → ends_journal rest ≡ true → with_items front (events_at (most - i) (i + 1) rest) ≡ whole → whole ≡ Ok (front, rest)
events_end front most i rest whole below end so_far = sym so_far ∙ step
  where
    step : with_items front (events_at (most - i) (i + 1) rest) ≡ Ok (front, rest)
    step = rw (left_over most i below, end) (simp append-nil)

-- a line of the next event is bad
pub events_fail : (fault : PartFault) (front : List Event) (most i : ℕ) (rest : List ℕ) (whole : Result (List Event × List ℕ) ℕ)
    → i < most → ends_journal rest ≡ false → FailsAt fault (event_at (i + 1) rest)
    → with_items front (events_at (most - i) (i + 1) rest) ≡ whole → FailsAt fault whole
events_fail Memory front most i rest whole below more fails so_far = tt
events_fail (Bad left) front most i rest whole below more fails so_far = sym so_far ∙ step
  where
    step : with_items front (events_at (most - i) (i + 1) rest) ≡ Err left
    step = rw (left_over most i below, more, fails) refl
