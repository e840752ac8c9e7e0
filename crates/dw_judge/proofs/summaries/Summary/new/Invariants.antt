-- So many sessions and horizons so far.
use Rattle.std.proofs.Common.{◌≡◌, replicate, false}
use Rattle.std.specs.Prelude.{None}
use Rattle.dw_journal.specs.declared.BlockState.TheVariants as blocks
use Rattle.dw_judge.proofs.summaries.Summary.new.Given as goal

abbrev pub invariant-loop : goal.invariant-loop
invariant-loop l = record {
  sessions : l.kept.items ≡ replicate l.counter (record { taken = 0; block = blocks.Outside; newest = None; sweeps = false; transaction = None });
  horizons : l.horizons.items ≡ replicate l.counter 0;
}
