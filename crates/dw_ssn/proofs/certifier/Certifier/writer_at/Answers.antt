use Rattle.std.proofs.Common.{refl, ◌≡◌, ℕ, ◌-◌, ◌<◌, ◌≤◌, List, ◌∷◌, length, map, sym, ap, subst, ◌∙◌, arith, rules}
use Rattle.std.proofs.lemmas.Bool.{false≢true}
use Rattle.std.specs.Prelude.{Some, slice_get}
use Rattle.std.specs.VecDeque.{deque_len}
use Rattle.std.proofs.lemmas.Option.{get_or_from_slice_get, slice_get_within}
use Rattle.dw_model.specs.Objects.{IsAscendingObjects, is_among}
use Rattle.dw_journal.specs.declared.Certified.{Certified}
use Rattle.dw_ssn.specs.declared.summaries.Recent.{Recent}
use Rattle.dw_ssn.specs.CommitList.{CommitList, newest_writer}
use Rattle.dw_ssn.specs.OneObject.{up_to}
use Rattle.dw_ssn.specs.Summaries.{Summaries, StandsFor, recent_as}
use Rattle.dw_ssn.proofs.Chains.{recent_place, set_at, up_to-le}
use Rattle.dw_ssn.proofs.Parts.{newest_writer-le}
use Rattle.dw_ssn.proofs.certifier.Certifier.writer_at.Goals as goal

-- where the commit at a stamp is kept
there : (summaries : Summaries) (list : CommitList) (at place : ℕ) (commit : Certified) (older : List Certified) → StandsFor summaries list → list.oldest < at
    → up_to at list.commits ≡ commit ∷ older → length (commit ∷ older) ≡ at → place ≡ summaries.count - at
    → slice_get summaries.recent place ≡ Some (recent_as commit older)
there summaries list at place commit older stands past is stamp place_is =
    let within : at ≤ length list.commits = omega (arith, up_to-le at list.commits, ap length is) in
    let place_now : place ≡ length list.commits - at = place_is ∙ ap (λ (n : ℕ). n - at) stands.count_is in
    ap (slice_get summaries.recent) place_now ∙ ap (λ (l : List Recent). slice_get l (length list.commits - at)) stands.recent_are
    ∙ recent_place list.oldest at list.commits commit older past within is

pub returns-in-Some-clause-is : goal.returns-in-Some-clause-is
returns-in-Some-clause-is c = λ list commit older stands past is stamp wrote.
    let i = c.self.inside in
    let at = c.args.at in
    let stands_now = subst (λ (s : Summaries). StandsFor s list) (sym c.self.view_is) stands in
    let here : slice_get i.recent.items c.saturating_sub.result ≡ Some (recent_as commit older) =
    there _ list at c.saturating_sub.result commit older stands_now past is stamp c.saturating_sub.ensures in
    let one : c.in-Some.commit.now ≡ recent_as commit older =
    c.in-Some.ensures.lookup ∙ get_or_from_slice_get i.recent.items c.saturating_sub.result (recent_as commit older) c.in-Some.commit.now here in
    let up : IsAscendingObjects c.in-Some.commit.now.writes = subst IsAscendingObjects (sym (ap (λ (r : Recent). r.writes) one)) (set_at at list.commits commit older stands.sets is) in
    let before = c.before_in.ensures older up
    (ap (λ (r : Recent). is_among c.args.object.now r.writes) one ∙ wrote)
    (subst (λ (r : Recent). r.before ≡ map (λ other. newest_writer other older) r.writes) (sym one) refl) in (
      ap (λ (r : Recent). r.low) one,
      c.min.ensures ∙ (omega (arith, before, newest_writer-le c.args.object.now older, stamp)),
    )

pub returns-in-None-clause-is : goal.returns-in-None-clause-is
returns-in-None-clause-is c = λ list commit older stands past is stamp wrote.
    let i = c.self.inside in
    let at = c.args.at in
    let stands_now = subst (λ (s : Summaries). StandsFor s list) (sym c.self.view_is) stands in
    let here : slice_get i.recent.items c.saturating_sub.result ≡ Some (recent_as commit older) =
    there _ list at c.saturating_sub.result commit older stands_now past is stamp c.saturating_sub.ensures in
    let within : c.saturating_sub.result < length i.recent.items = slice_get_within i.recent.items c.saturating_sub.result (recent_as commit older) here in
    let long : deque_len i.recent ≡ length i.recent.items = search rules in
    absurd (false≢true (c.in-None.ensures.variant.1 (omega (arith, within, long))))
