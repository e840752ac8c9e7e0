-- The bisection finds the id where it is there.
use Rattle.std.specs.List.Sorted.{IsNonDecreasing}
use Rattle.std.proofs.Common.{ℕ, List, sym, ap, subst, ◌∙◌}
use Rattle.dw_slice.specs.Slices.{is_among}
use Rattle.dw_slice.proofs.Searching.{has_is}
use Rattle.dw_slice.proofs.ids.SortedIds.has.Goals as goal

pub returns : goal.returns
returns c =
    c.is_ok.ensures.value
    ∙ has_is c.as_slice.result.now c.args.id c.binary_search.result c.binary_search.ensures.position (subst IsNonDecreasing (sym c.as_slice.ensures.value) c.self.invariant)
    ∙ ap (λ (ids : List ℕ). is_among ids c.args.id) (c.as_slice.ensures.value ∙ c.self.view_is)
