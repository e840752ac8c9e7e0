use Rattle.std.proofs.Common.{length, ◌-◌, ◌≡◌, ◌≤◌, take}
use Rattle.dw_io.specs.Outside.{appended}
use Rattle.dw_io.proofs.whole.write_whole.Given as goal

-- the sink has taken the first `written` bytes, and its faults did not fall
abbrev pub invariant-loop-written : goal.invariant-loop-written
invariant-loop-written g l =
    (l.written ≤ length l.bytes) × (g.S.Sink.faults l.initial.sink ≤ g.S.Sink.faults l.sink) × (g.S.Sink.has l.sink ≡ appended (g.S.Sink.has l.initial.sink) (take l.written l.bytes))

abbrev pub decreases-loop-written : goal.decreases-loop-written
decreases-loop-written g l = length l.bytes - l.written
