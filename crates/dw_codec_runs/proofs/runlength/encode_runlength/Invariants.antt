use Rattle.std.proofs.Common.{◌≡◌, ◌≤◌, ◌++◌, length}
use Rattle.std.specs.Prelude.{All}
use Rattle.dw_codec_plain.specs.Numbers.{FitsWidth}
use Rattle.dw_codec_runs.specs.Runs.{runlength}
use Rattle.dw_codec_runs.proofs.runlength.encode_runlength.Given as goal

abbrev pub invariant-loop-value : goal.invariant-loop-value
invariant-loop-value l = record {
  written : l.bytes.items ++ runlength l.width l.rest ≡ runlength l.width l.values;
  count : length l.rest ≤ 4096;
  fit : All (FitsWidth l.width) l.rest;
}

abbrev pub decreases-loop-value : goal.decreases-loop-value
decreases-loop-value l = length l.rest
