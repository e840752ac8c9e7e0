-- Where no mark goes, all marks stay.
use Rattle.std.proofs.Common.{◌≡◌, sym, ap, ◌∙◌, map, false}
use Rattle.std.specs.List.{list_any}
use Rattle.dw_slice.specs.Marks.{mark_goes, marked_mark}
use Rattle.dw_slice.proofs.Marking.{at_none, unmarked}
use Rattle.dw_slice.proofs.chunks.Chunk.marked.Goals as goal

pub returns-in_ok-marks-in-None-clause-chunk : goal.returns-in_ok-marks-in-None-clause-chunk
returns-in_ok-marks-in-None-clause-chunk c =
    let no : list_any (mark_goes c.args.gone.now) c.deref.result.now ≡ false = at_none c.in_ok-marks.field-0 _ _ c.in_ok-marks.ensures c.in-None.is in
    record {
      marks = c.in_ok-marks-in-None.ensures ∙ sym c.deref.ensures ∙ sym (unmarked c.args.stamp c.args.gone.now c.deref.result.now no) ∙ ap (map (marked_mark c.args.stamp c.args.gone.now)) c.deref.ensures;
      packed = c.in_ok-packed.ensures;
    }
