use Rattle.std.proofs.Common.{[], ◌∷◌, ◌++◌, Some, sym, ap, ◌∙◌, subst}
use Rattle.atomic_table.specs.Table.{opening}
use Rattle.dw_history.specs.Views.{first_view}
use Rattle.dw_history.specs.Rule.{IsOneHistory}
use Rattle.dw_history.proofs.Closing.{begins_at}
use Rattle.dw_history.proofs.kept.Kept.new.Goals as goal

pub new-requires : goal.new-requires
new-requires g c =
    subst
    (λ v. IsOneHistory g.V.Grown.history_of g.V.Grown.number_of g.V.Grown.ground_of (g.V.Grown.ground_of v) (opening (0 ∷ 0 ∷ []) c.push.new.self.items (first_view (g.V.Grown.ground_of v))))
    (sym c.of-start.ensures)
    (begins_at g.V.Grown.history_of g.V.Grown.number_of g.V.Grown.ground_of c.args.value c.push.new.self.items c.requires.empty (c.in_ok-push.ensures.items ∙ ap (λ l. l ++ Some c.args.value ∷ []) c.in_ok-slots.ensures.items))
