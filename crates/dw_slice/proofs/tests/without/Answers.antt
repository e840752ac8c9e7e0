-- Nothing is inserted.
use Rattle.std.specs.Prelude.{All, nat_eq}
use Rattle.std.specs.List.{IsDistinct}
use Rattle.std.proofs.Common.{◌≡◌, ℕ, ◌<◌, [], List, sym, ap, subst, ◌∙◌}
use Rattle.dw_slice.specs.declared.slices.Fresh.{Fresh}
use Rattle.dw_slice.specs.Columns.{FitsColumns}
use Rattle.dw_slice.specs.Slices.{SliceView, fresh_rows, fresh_ids, ids_of, is_among}
use Rattle.dw_slice.proofs.Rising.{one_at_most, still_below, none_new}
use Rattle.dw_slice.proofs.tests.without.Goals as goal

pub changed-requires-clause-fit : goal.changed-requires-clause-fit
changed-requires-clause-fit c = (none_new c.args.slice.now.columns c.args.slice.now.entries c.new-fresh.result c.new-fresh.ensures).fit

pub changed-requires-clause-different : goal.changed-requires-clause-different
changed-requires-clause-different c = (none_new c.args.slice.now.columns c.args.slice.now.entries c.new-fresh.result c.new-fresh.ensures).different

pub changed-requires-clause-new : goal.changed-requires-clause-new
changed-requires-clause-new c = (none_new c.args.slice.now.columns c.args.slice.now.entries c.new-fresh.result c.new-fresh.ensures).new

pub returns-clause-columns : goal.returns-clause-columns
returns-clause-columns c = ap (λ (v : SliceView). v.columns) c.in_ok-after.ensures ∙ c.requires.columns

pub returns-clause-number : goal.returns-clause-number
returns-clause-number c = one_at_most c.args.stamp _ c.new-fresh.result c.args.slice.now c.in_ok-after.after c.in_ok-after.ensures

pub returns-clause-below : goal.returns-clause-below
returns-clause-below c =
    subst (λ (v : SliceView). All (λ id. id < c.args.next) (ids_of v.entries)) (sym c.in_ok-after.ensures)
    (still_below c.args.stamp _ c.new-fresh.result c.args.slice.now.entries c.args.next c.new-fresh.ensures c.requires.below)
