use Rattle.std.proofs.Common.{ℕ, List, sym, ap, subst, ◌∙◌}
use Rattle.std.specs.Prelude.{slice_get, unwrap_or, option_map}
use Rattle.std.proofs.lemmas.Option.{slice_get-map}
use Rattle.dw_model.specs.declared.objects.Object.{Object}
use Rattle.dw_model.specs.Objects.{IsAscendingObjects}
use Rattle.dw_ssn.specs.CommitList.{newest_writer}
use Rattle.dw_ssn.specs.Places.{IsFirstPlace}
use Rattle.dw_ssn.proofs.Places.{first_place-is}
use Rattle.dw_ssn.proofs.certifier.before_in.Goals as goal

pub returns-in-Ok : goal.returns-in-Ok
returns-in-Ok c = λ older up among map_is.
    let object = c.args.object.now in
    let writes = c.args.commit.now.writes in
    let place = c.in-Ok.place in
    let first : IsFirstPlace object writes place =
    subst (λ (l : List Object). IsFirstPlace object l place) c.as_slice.ensures.items (c.in-Ok.ensures.found (subst IsAscendingObjects (sym c.as_slice.ensures.items) up)) in
    c.unwrap_or.ensures
    ∙ ap (λ o. unwrap_or o 0) (c.copied.ensures ∙ c.get.ensures.item ∙ ap (λ (l : List ℕ). slice_get l place) map_is
    ∙ slice_get-map (λ other. newest_writer other older) writes place ∙ ap (option_map (λ other. newest_writer other older)) (first_place-is object writes place first))
