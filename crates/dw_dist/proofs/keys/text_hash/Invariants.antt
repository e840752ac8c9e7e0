use Rattle.std.proofs.Common.{◌≡◌, drop}
use Rattle.std.specs.List.{fold}
use Rattle.dw_dist.specs.Placing.{text_hash, with_byte}
use Rattle.dw_dist.proofs.keys.text_hash.Given as goal

-- the hash goes on with the bytes that are left
abbrev pub invariant-loop-byte : goal.invariant-loop-byte
invariant-loop-byte l = fold with_byte l.hash (drop l.byte-index l.bytes) ≡ text_hash l.bytes
