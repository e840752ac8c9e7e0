-- No id is within the bounds.
use Rattle.std.proofs.Common.{sym, ap, ◌∙◌, List}
use Rattle.std.specs.List.{list_any}
use Rattle.dw_slice.specs.declared.marks.Mark.{Mark}
use Rattle.dw_slice.specs.Marks.{mark_goes}
use Rattle.dw_slice.proofs.Marking.{none_goes, not_true}
use Rattle.dw_slice.proofs.marks.Marks.is_clear_of.Goals as goal

pub returns : goal.returns
returns c = λ e.
    ap (λ (ms : List Mark). list_any (mark_goes c.args.gone.now) ms) (sym c.self.view_is)
    ∙ none_goes c.args.gone.now c.self.inside.least c.self.inside.greatest c.self.inside.items.items c.self.invariant (c.may_meet.ensures (not_true c.may_meet.result e))
