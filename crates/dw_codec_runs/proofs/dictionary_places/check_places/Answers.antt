use Rattle.std.proofs.Common.{◌≡◌, ◌<◌, ◌-◌, ◌⊎◌, inl, inr, ℕ, get_or, sym, subst, arith}
use Rattle.dw_codec_runs.specs.DictionaryParts.{MayCome}
use Rattle.dw_codec_runs.proofs.DictionaryPlaces.{IsReading, reading_begins, reading_ends, reading_stops, reading_goes, reading_done, reading_trails}
use Rattle.dw_codec_runs.proofs.dictionary_places.check_places.Goals as goal

pub loop-at-init : goal.loop-at-init
loop-at-init c = reading_begins c.args.number c.args.count c.args.bytes.now c.requires.enough

some_of : (number count at : ℕ) → at < count → ((count ≡ 0) ⊎ (0 < number)) → 0 < number
some_of number count at lt (inl none) = absurd (omega arith)
some_of number count at lt (inr some) = some

pub returns-then-bytes-at-clause-broken : goal.returns-then-bytes-at-clause-broken
returns-then-bytes-at-clause-broken c =
    reading_ends c.args.number c.args.count c.args.bytes.now c.loop-at.known c.loop-at.at (c.args.count - 1 - c.loop-at.at) c.loop-at.invariant (omega arith)
    (some_of c.args.number c.args.count c.loop-at.at c.loop-at-test.true c.requires.some) c.if-bytes-at.true

pub known_after-requires : goal.known_after-requires
known_after-requires c = c.loop-at.invariant.most

pub returns-in-None-clause-broken : goal.returns-in-None-clause-broken
returns-in-None-clause-broken c =
    let byte : c.from.result ≡ get_or c.args.bytes.now c.loop-at.at 0 = c.from.ensures in
    reading_stops c.args.number c.args.count c.args.bytes.now c.loop-at.known c.loop-at.at (c.args.count - 1 - c.loop-at.at) c.loop-at.invariant (omega arith)
    (some_of c.args.number c.args.count c.loop-at.at c.loop-at-test.true c.requires.some) (omega arith)
    (λ may. c.in-None.ensures.none (subst (λ p. MayCome c.args.number c.loop-at.known (c.args.count - 1 - c.loop-at.at) p) (sym byte) may))

pub loop-at-preserved : goal.loop-at-preserved
loop-at-preserved c =
    let byte : c.from.result ≡ get_or c.args.bytes.now c.loop-at.at 0 = c.from.ensures in
    reading_goes c.args.number c.args.count c.args.bytes.now c.loop-at.known c.loop-at.at (c.args.count - 1 - c.loop-at.at) c.loop-at.invariant (omega arith) c.in-Some.after (omega arith)
    (elim c.in-Some.ensures.some [
      | inl again ↦ inl (omega (arith, byte, again.0), again.1, again.2)
      | inr next ↦ inr (omega (arith, byte, next.0), next.1, next.2)
    ])

pub returns-then-count-bytes-clause-broken : goal.returns-then-count-bytes-clause-broken
returns-then-count-bytes-clause-broken c =
    let done : c.loop-at.at ≡ c.args.count = omega arith in
    reading_trails c.args.number c.args.count c.args.bytes.now c.loop-at.known (subst (λ at. IsReading c.args.number c.args.count c.args.bytes.now c.loop-at.known at) done c.loop-at.invariant) c.if-count-bytes.true

pub returns-clause-ok : goal.returns-clause-ok
returns-clause-ok c =
    let done : c.loop-at.at ≡ c.args.count = omega arith in
    reading_done c.args.number c.args.count c.args.bytes.now c.loop-at.known (subst (λ at. IsReading c.args.number c.args.count c.args.bytes.now c.loop-at.known at) done c.loop-at.invariant) c.if-count-bytes.false
