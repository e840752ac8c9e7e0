use Rattle.std.proofs.Common.{ℕ, ◌+◌, ◌<◌, sym, ap, subst, ◌∙◌, arith}
use Rattle.std.specs.Prelude.{Option, slice_get, option_and_then, IfSome}
use Rattle.dw_journal.specs.Watermarks.{written_at_low}
use Rattle.dw_ssn.proofs.Violated.{within_more, found_first, found_later, found_kept}
use Rattle.dw_ssn.proofs.certifier.Certifier.violated_place.Goals as goal
use Rattle.dw_ssn.proofs.certifier.Certifier.violated_place.Goals.{then-is_written_at+then-comes_first, else-is_written_at, else-is_written_at-via-then-is_written_at+else-comes_first, else-is_written_at-via-else-is_written_at}

pub loop-place-preserved : goal.loop-place-preserved
loop-place-preserved c =
    let reads = c.args.reads.now in
    let place = c.loop-place.place in
    let object = c.index-reads-place.result in
    let least = c.loop-place.least in
    let more : IfSome least (λ n. n < place + 1) = within_more least place c.loop-place.invariant.within in
    elim c.if-is_written_at.branch [
      | then-is_written_at+then-comes_first w ↦
          record {
            least = λ list stands.
                let passes = written_at_low c.args.low c.args.snapshot list.commits in
                ap (option_and_then (slice_get reads)) w.least-is ∙ found_first passes reads place object least (omega arith) c.index-reads-place.is (c.loop-place.invariant.least list stands) (sym w.if-is_written_at.true ∙ c.is_written_at.ensures list stands) (sym w.if-comes_first.true ∙ w.comes_first.ensures);
            within = subst (λ (l : Option ℕ). IfSome l (λ n. n < place + 1)) (sym w.least-is) (omega arith);
          }
      | else-is_written_at w ↦
          record {
            least = λ list stands.
                let passes = written_at_low c.args.low c.args.snapshot list.commits in
                ap (option_and_then (slice_get reads)) w.least-is ∙ elim w.else-is_written_at.branch [
                  | else-is_written_at-via-then-is_written_at+else-comes_first v ↦
                      found_later passes reads place object least (omega arith) c.index-reads-place.is (c.loop-place.invariant.least list stands) (sym v.if-is_written_at.true ∙ c.is_written_at.ensures list stands) (sym v.if-comes_first.false ∙ v.comes_first.ensures)
                  | else-is_written_at-via-else-is_written_at v ↦
                      found_kept passes reads place object least (omega arith) c.index-reads-place.is (c.loop-place.invariant.least list stands) (sym v.if-is_written_at.false ∙ c.is_written_at.ensures list stands)
                ];
            within = subst (λ (l : Option ℕ). IfSome l (λ n. n < place + 1)) (sym w.least-is) more;
          }
    ]
