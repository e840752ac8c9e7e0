-- The least of the sessions that were passed.
use Rattle.std.proofs.Common.{◌≡◌, ◌≤◌, take}
use Rattle.std.specs.List.{filter_map}
use Rattle.dw_core.specs.Horizons.{kept_snapshot, least_among}
use Rattle.dw_core.proofs.decisions.horizon.Given as goal

abbrev pub invariant-loop-session : goal.invariant-loop-session
invariant-loop-session l = record {
  within : l.least ≤ l.commits;
  least : l.least ≡ least_among l.commits (filter_map kept_snapshot (take l.session-index l.sessions));
}
