use Rattle.std.proofs.Common.{◌≡◌, sym, ◌∙◌, subst}
use mathlib.Core.Option.{some-injective}
use Rattle.dw_history.specs.Calls.{IsWhole}
use Rattle.dw_history.proofs.Closing.{closes, value_of_both}
use Rattle.dw_history.proofs.kept.Kept.close.Goals as goal

pub unreachable-requires : goal.unreachable-requires
unreachable-requires g c =
    let r = c.args.pass.rests in
    let done = closes g.V.Grown.history_of g.V.Grown.number_of g.V.Grown.ground_of _ c.args.pass.seat.id c.args.pass.seat.me.0 c.requires.first r.unspent r.outside c.requires.joined _ _ c.close_with-closed.ensures.values.2 in
    c.in_default.not-Some done.value (some-injective _ _ (sym c.take.ensures.value ∙ done.there))

pub returns-clause-whole : goal.returns-clause-whole
returns-clause-whole g c =
    let r = c.args.pass.rests in
    let done = closes g.V.Grown.history_of g.V.Grown.number_of g.V.Grown.ground_of _ c.args.pass.seat.id c.args.pass.seat.me.0 c.requires.first r.unspent r.outside c.requires.joined _ _ c.close_with-closed.ensures.values.2 in
    let same = value_of_both _ _ _ done.there c.in-Some.ensures.value in
    subst (λ v. IsWhole g.V.Grown.number_of c.args.pass.seat.me.0 (g.V.Grown.history_of v)) same done.whole

pub returns-clause-stands : goal.returns-clause-stands
returns-clause-stands g c =
    let r = c.args.pass.rests in
    let done = closes g.V.Grown.history_of g.V.Grown.number_of g.V.Grown.ground_of _ c.args.pass.seat.id c.args.pass.seat.me.0 c.requires.first r.unspent r.outside c.requires.joined _ _ c.close_with-closed.ensures.values.2 in
    let same = value_of_both _ _ _ done.there c.in-Some.ensures.value in
    subst (λ v. g.V.Grown.ground_of v ≡ g.V.Grown.ground_of c.args.self.table.shared.key.value) same done.stands
