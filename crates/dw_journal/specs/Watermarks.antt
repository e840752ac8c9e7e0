-- The low and the high watermark of a transaction, after the Serial Safety Net paper of Wang, Johnson, Fekete and
-- Pandis. They look through the whole list of commits, newest first; the stamp of a commit is the length of the list
-- from it on.
use Rattle.std.specs.Prelude.{ℕ, ◌+◌, min, max, Bool, false, ◌==◌, ◌&&◌, ◌||◌, nat_lt, nat_le, if◌then◌else◌, List, [], ◌∷◌, length, Option, Some, None}
use Rattle.std.specs.List.{list_any, filter, fold}
use Rattle.dw_model.specs.declared.objects.Object.{Object}
use Rattle.dw_model.specs.Objects.{is_among, object_before}
use Rattle.dw_journal.specs.declared.Certified.{Certified}
use Rattle.dw_journal.specs.declared.Taken.{Taken}

-- two sets of objects have one in common
abbrev pub overlaps : List Object → List Object → Bool
overlaps a b = list_any (λ object. is_among object b) a

-- Whether a commit of this stamp counts for the low watermark: it came after the transaction's snapshot, and wrote what
-- the transaction read.
abbrev pub counts_for_low : ℕ → Taken → Certified → Bool
counts_for_low stamp taken commit = nat_lt taken.snapshot stamp && overlaps commit.taken.writes taken.reads

-- The low watermark: the least of the transaction's own stamp and the low watermarks of those commits.
abbrev pub low_over : ℕ → Taken → List Certified → ℕ
low_over stamp taken [] = stamp
low_over stamp taken (commit ∷ older) =
    if counts_for_low (length (commit ∷ older)) taken commit then min commit.low (low_over stamp taken older)
    else low_over stamp taken older

-- Whether a commit of this stamp counts for the high watermark: it wrote what the transaction read, at or before the
-- transaction's snapshot; or it wrote or read what the transaction wrote.
abbrev pub counts_for_high : ℕ → Taken → Certified → Bool
counts_for_high stamp taken commit =
    (nat_le stamp taken.snapshot && overlaps commit.taken.writes taken.reads)
    || (overlaps commit.taken.writes taken.writes || overlaps commit.taken.reads taken.writes)

-- The high watermark: the greatest stamp of those, or 0.
abbrev pub high_over : Taken → List Certified → ℕ
high_over taken [] = 0
high_over taken (commit ∷ older) =
    if counts_for_high (length (commit ∷ older)) taken commit then max (length (commit ∷ older)) (high_over taken older)
    else high_over taken older

-- the watermarks of a transaction that comes next
abbrev pub low_watermark : Taken → List Certified → ℕ
low_watermark taken commits = low_over (length commits + 1) taken commits

abbrev pub high_watermark : Taken → List Certified → ℕ
high_watermark taken commits = high_over taken commits

abbrev pub lesser : Object → Object → Object
lesser a b = if object_before b a then b else a

abbrev pub least_object : List Object → Option Object
least_object [] = None
least_object (object ∷ objects) = Some (fold lesser object objects)

-- an object was written after the snapshot by a commit of this low watermark
abbrev pub written_at_low : ℕ → ℕ → List Certified → Object → Bool
written_at_low low snapshot [] object = false
written_at_low low snapshot (commit ∷ older) object =
    (nat_lt snapshot (length (commit ∷ older)) && (commit.low == low) && is_among object commit.taken.writes)
    || written_at_low low snapshot older object

-- The object that a violation names: of those that the transaction read, the least that a commit after its snapshot
-- wrote whose low watermark is the transaction's own.
abbrev pub violated_object : Taken → List Certified → Option Object
violated_object taken commits =
    least_object (filter (written_at_low (low_watermark taken commits) taken.snapshot commits) taken.reads)
