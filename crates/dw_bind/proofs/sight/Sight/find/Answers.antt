-- The table tells what the name may mean, and of that the one column is found.
use Rattle.std.proofs.Common.{option_map, ap, ◌∙◌}
use Rattle.dw_expr.specs.Sight.{Reference, meant}
use Rattle.dw_bind.specs.Hits.{found_of, found_in}
use Rattle.dw_bind.proofs.Walks.{found_in-hits}
use Rattle.dw_bind.proofs.sight.Sight.find.Goals as goal

pub returns : goal.returns
returns c =
    let reference : Reference = record { source = c.args.source.now; name = c.args.name.now } in
    c.found_in.ensures
    ∙ ap found_in (c.hits.ensures ∙ c.self.invariant reference)
    ∙ found_in-hits reference c.self.inside.sources
    ∙ ap (λ sight. option_map found_of (meant sight reference)) c.self.view_is
