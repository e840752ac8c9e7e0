use Rattle.std.proofs.Common.{◌≡◌, List, sym, ap, ◌∙◌, arith}
use Rattle.std.specs.Prelude.{slice_get, option_and_then}
use Rattle.std.specs.List.{filter}
use Rattle.dw_model.specs.declared.objects.Object.{Object}
use Rattle.dw_journal.specs.Watermarks.{low_watermark, high_watermark, least_object, violated_object, written_at_low}
use Rattle.dw_ssn.proofs.Parts.{high_over-le}
use Rattle.dw_ssn.proofs.Violated.{named}
use Rattle.dw_ssn.proofs.certifier.Certifier.watermarks.Goals as goal

pub returns-clause-by : goal.returns-clause-by
returns-clause-by c = λ list stands.
    let taken = c.args.taken.now in
    let low : c.bounds_written-bounds.result.low ≡ low_watermark taken list.commits = c.bounds_written-bounds.ensures.low ∙ c.bounds_read.ensures.low list stands in
    ap (λ (l : List Object). option_and_then (slice_get l) c.violated_place.result) (sym c.as_slice.ensures.items)
    ∙ c.violated_place.ensures.least list stands
    ∙ (λ k. least_object (filter (written_at_low (low k) taken.snapshot list.commits) (c.as_slice.ensures.items k)))

pub returns-clause-named : goal.returns-clause-named
returns-clause-named c = λ list stands.
    let taken = c.args.taken.now in
    let low : c.bounds_written-bounds.result.low ≡ low_watermark taken list.commits = c.bounds_written-bounds.ensures.low ∙ c.bounds_read.ensures.low list stands in
    let by : option_and_then (slice_get taken.reads) c.violated_place.result ≡ violated_object taken list.commits =
    ap (λ (l : List Object). option_and_then (slice_get l) c.violated_place.result) (sym c.as_slice.ensures.items)
    ∙ c.violated_place.ensures.least list stands
    ∙ (λ k. least_object (filter (written_at_low (low k) taken.snapshot list.commits) (c.as_slice.ensures.items k))) in
    named taken c.bounds_written-bounds.result.low list.commits c.violated_place.result low by

pub returns-clause-bounded : goal.returns-clause-bounded
returns-clause-bounded c = λ list stands.
    let taken = c.args.taken.now in
    let high : c.bounds_written-bounds.result.high ≡ high_watermark taken list.commits = c.bounds_written-bounds.ensures.high list stands (c.bounds_read.ensures.high list stands) in
    omega (arith, high, high_over-le taken list.commits)
