-- No name so far stands a second time.
use Rattle.std.proofs.Common.{◌≡◌, [], take, drop}
use Rattle.dw_model.specs.Binding.{repeated_after}
use Rattle.dw_plain.proofs.names.repeated_name.Given as goal

abbrev pub invariant-loop-place : goal.invariant-loop-place
invariant-loop-place l = repeated_after [] l.names ≡ repeated_after (take l.place l.names) (drop l.place l.names)
