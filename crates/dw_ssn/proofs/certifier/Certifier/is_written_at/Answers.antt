use Rattle.std.proofs.Common.{◌≡◌, ℕ, ◌<◌, Bool, true, false, sym, ap, subst, ◌∙◌, arith}
use Rattle.std.specs.Prelude.{◌==◌, ◌||◌}
use Rattle.std.proofs.lemmas.Bool.Decides.{nat_tests}
use Rattle.dw_journal.specs.Watermarks.{written_at_low}
use Rattle.dw_ssn.specs.declared.summaries.Newest.{Newest}
use Rattle.dw_ssn.specs.CommitList.{newest_writer}
use Rattle.dw_ssn.specs.OneObject.{up_to}
use Rattle.dw_ssn.proofs.Chains.{IsOnChain, chain_first, chain_next, chain_writer, written_first, written_next, written_down}
use Rattle.dw_ssn.proofs.certifier.Certifier.is_written_at.Goals as goal

found_low : (a b low : ℕ) → a ≡ b → a ≡ low → (b == low) ≡ true
found_low a b low e f = grind (arith, nat_tests)

other_low : (a b low : ℕ) → a ≡ b → (a ≡ low → ⊥) → (b == low) ≡ false
other_low a b low e f = grind (arith, nat_tests)

pub loop-at-init : goal.loop-at-init
loop-at-init c = λ list stands.
    let object = c.args.object.now in
    let writer_is : c.newest-at.result.writer ≡ newest_writer object list.commits = ap (λ (n : Newest). n.writer) (c.newest-at.ensures list stands) in
    subst (λ (n : ℕ). IsOnChain object list.commits n
    × (written_at_low c.args.low c.args.snapshot list.commits object ≡ written_at_low c.args.low c.args.snapshot (up_to n list.commits) object)) (sym writer_is)
    (chain_first object list.commits, written_first object list.commits c.args.snapshot c.args.low)

pub returns-then-writer-low : goal.returns-then-writer-low
returns-then-writer-low c = λ list stands.
    let object = c.args.object.now in
    let at = c.loop-at.at in
    let on = c.loop-at.invariant list stands in
    let w = chain_writer object list.commits at on.0 (omega arith) in
    let past : list.oldest < at = omega (arith, stands.oldest_is, c.requires) in
    let is = c.writer_at-writer.ensures.is list w.commit w.older stands past w.is w.stamp w.wrote in
    let found : (w.commit.low == c.args.low) ≡ true = found_low _ _ _ is.0 c.if-writer-low.true in
    sym (on.1 ∙ written_next object list.commits at w on.0 c.args.low c.args.snapshot (omega arith)
    ∙ ap (λ (b : Bool). b || written_at_low c.args.low c.args.snapshot (up_to (newest_writer object w.older) list.commits) object) found)

pub loop-at-preserved : goal.loop-at-preserved
loop-at-preserved c = λ list stands.
    let object = c.args.object.now in
    let at = c.loop-at.at in
    let on = c.loop-at.invariant list stands in
    let w = chain_writer object list.commits at on.0 (omega arith) in
    let past : list.oldest < at = omega (arith, stands.oldest_is, c.requires) in
    let is = c.writer_at-writer.ensures.is list w.commit w.older stands past w.is w.stamp w.wrote in
    let other : (w.commit.low == c.args.low) ≡ false = other_low _ _ _ is.0 c.if-writer-low.false in
    subst (λ (n : ℕ). IsOnChain object list.commits n
    × (written_at_low c.args.low c.args.snapshot list.commits object ≡ written_at_low c.args.low c.args.snapshot (up_to n list.commits) object)) (sym is.1) (
      chain_next object list.commits at w on.0,
      on.1 ∙ written_next object list.commits at w on.0 c.args.low c.args.snapshot (omega arith)
          ∙ ap (λ (b : Bool). b || written_at_low c.args.low c.args.snapshot (up_to (newest_writer object w.older) list.commits) object) other,
    )

pub returns : goal.returns
returns c = λ list stands.
    let on = c.loop-at.invariant list stands in
    sym (on.1 ∙ written_down c.args.object.now list.commits c.loop-at.at on.0 c.args.snapshot (omega arith) c.args.low)
