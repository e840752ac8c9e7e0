use Rattle.std.proofs.Common.{◌≡◌, ◌++◌, ℕ, List, take}
use Rattle.std.specs.Prelude.{All}
use Rattle.dw_codec_runs.proofs.dictionary_known.Known.all_begin.Given as goal

abbrev pub invariant-loop-place : goal.invariant-loop-place
invariant-loop-place l = All (λ item. (rest : List ℕ) × (item ≡ l.front ++ rest)) (take l.place l.self)
