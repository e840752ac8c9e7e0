-- The fresh ids come after all others.
use Rattle.std.specs.Prelude.{All, nat_eq}
use Rattle.std.specs.List.{IsDistinct}
use Rattle.std.proofs.Common.{ℕ, ◌+◌, ◌<◌, List, sym, ap, subst, ◌∙◌, arith}
use Rattle.dw_slice.specs.declared.packed.Storage.{Storage}
use Rattle.dw_slice.specs.Columns.{FitsColumns}
use Rattle.dw_slice.specs.Slices.{SliceView, fresh_rows, ids_of, changes}
use Rattle.dw_slice.proofs.Rising.{range_distinct, range_new, all_below, one_at_most}
use Rattle.dw_slice.proofs.tests.grown.Goals as goal

pub changed-requires-clause-fit : goal.changed-requires-clause-fit
changed-requires-clause-fit c = subst (λ (cs : List Storage). All (FitsColumns cs) (fresh_rows c.in_ok-fresh.fresh)) (sym c.requires.columns) c.in_ok-fresh.ensures.fit

pub changed-requires-clause-different : goal.changed-requires-clause-different
changed-requires-clause-different c = subst (IsDistinct nat_eq) (sym c.in_ok-fresh.ensures.ids) (range_distinct c.args.count c.args.from)

pub changed-requires-clause-new : goal.changed-requires-clause-new
changed-requires-clause-new c = range_new c.args.slice.now.entries c.args.from c.args.count _ c.in_ok-fresh.ensures.ids c.requires.below

pub returns-clause-columns : goal.returns-clause-columns
returns-clause-columns c = ap (λ (v : SliceView). v.columns) c.in_ok-after.ensures ∙ c.requires.columns

pub returns-clause-number : goal.returns-clause-number
returns-clause-number c = one_at_most c.args.stamp _ c.in_ok-fresh.fresh c.args.slice.now c.in_ok-after.after c.in_ok-after.ensures

pub returns-clause-below : goal.returns-clause-below
returns-clause-below c =
    subst (λ (v : SliceView). All (λ id. id < c.args.from + c.args.count) (ids_of v.entries)) (sym c.in_ok-after.ensures)
    (all_below c.args.stamp _ c.in_ok-fresh.fresh c.args.slice.now.entries c.args.from c.args.count c.in_ok-fresh.ensures.ids c.requires.below)
