-- The stamps of the keys that the loop has passed.
use Rattle.std.proofs.Common.{◌≡◌, map, take}
use Rattle.dw_serial.specs.declared.order.SerialKey.{SerialKey}
use Rattle.dw_serial.proofs.order.stamps_of.Given as goal

abbrev pub invariant-loop-key : goal.invariant-loop-key
invariant-loop-key l = l.stamps ≡ map (λ (key : SerialKey). key.stamp) (take l.key-index l.keys)
