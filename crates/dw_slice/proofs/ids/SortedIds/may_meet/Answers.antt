-- The ids from the lower bound on are past the upper one.
use Rattle.std.specs.List.{list_any}
use Rattle.std.specs.List.Sorted.{IsNonDecreasing}
use Rattle.std.proofs.Common.{length, sym, ap, subst, ◌∙◌, arith}
use Rattle.dw_slice.specs.Marks.{is_within}
use Rattle.dw_slice.proofs.Searching.{none_met, past_by}
use Rattle.dw_slice.proofs.ids.SortedIds.may_meet.Goals as goal

pub returns-in-Err : goal.returns-in-Err
returns-in-Err c = λ e.
    let rises = subst IsNonDecreasing (sym c.as_slice.ensures.value) c.self.invariant in
    ap (list_any (is_within c.args.least c.args.greatest)) (sym (c.as_slice.ensures.value ∙ c.self.view_is))
    ∙ none_met c.as_slice.result.now c.args.least c.args.greatest c.in-Err.place c.binary_search.result c.binary_search.ensures.position rises c.in-Err.is
    (past_by c.as_slice.result.now c.self.inside.items.items c.in-Err.place c.index.result.now c.args.greatest c.as_slice.ensures.value c.index.ensures e)

pub returns-in-Err-2 : goal.returns-in-Err-2
returns-in-Err-2 c = λ e.
    let rises = subst IsNonDecreasing (sym c.as_slice.ensures.value) c.self.invariant in
    ap (list_any (is_within c.args.least c.args.greatest)) (sym (c.as_slice.ensures.value ∙ c.self.view_is))
    ∙ none_met c.as_slice.result.now c.args.least c.args.greatest c.in-Err.place c.binary_search.result c.binary_search.ensures.position rises c.in-Err.is
    (λ l. absurd (omega (arith, l, ap length c.as_slice.ensures.value, c.len.ensures, c.if-place-len.false, c.self.inside.items.ok.0)))
