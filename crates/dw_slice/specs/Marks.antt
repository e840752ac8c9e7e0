-- Marks, and what a deletion of ids does to them.
use Rattle.std.specs.Prelude.{ℕ, ◌≤◌, nat_le, Bool, ◌&&◌, Some, List, if◌then◌else◌}
use Rattle.std.specs.Option.{is_none}
use Rattle.dw_slice.specs.declared.marks.Mark.{Mark}
use Rattle.dw_slice.specs.Slices.{is_among}

-- the mark goes with these ids: it has one of them, and no deletion yet
abbrev pub mark_goes : List ℕ → Mark → Bool
mark_goes gone mark = is_none mark.deleted && is_among gone mark.id

-- such a mark is deleted at the stamp, and another one stays as it is
abbrev pub marked_mark : ℕ → List ℕ → Mark → Mark
marked_mark stamp gone mark = if mark_goes gone mark then record mark { deleted = Some stamp } else mark

-- the id is within the bounds
abbrev pub is_within : ℕ → ℕ → ℕ → Bool
is_within least greatest id = nat_le least id && nat_le id greatest

pub record HasIdWithin (least greatest : ℕ) (mark : Mark) : Type 0 where
  pub above : least ≤ mark.id
  pub below : mark.id ≤ greatest
