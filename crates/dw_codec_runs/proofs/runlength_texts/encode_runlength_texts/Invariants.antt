use Rattle.std.proofs.Common.{◌≡◌, ◌≤◌, ◌++◌, length}
use Rattle.std.specs.Prelude.{All}
use Rattle.dw_codec_runs.specs.Runs.{runlength_texts}
use Rattle.dw_codec_runs.proofs.runlength_texts.encode_runlength_texts.Given as goal

abbrev pub invariant-loop-text : goal.invariant-loop-text
invariant-loop-text l = record {
  written : l.bytes.items ++ runlength_texts l.rest ≡ runlength_texts l.values;
  count : length l.rest ≤ 4096;
  short : All (λ text. length text ≤ 65535) l.rest;
}

abbrev pub decreases-loop-text : goal.decreases-loop-text
decreases-loop-text l = length l.rest
