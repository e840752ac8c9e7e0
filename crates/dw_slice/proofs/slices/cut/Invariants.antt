-- The builder has the entries so far.
use Rattle.std.proofs.Common.{◌≡◌, take}
use Rattle.dw_slice.specs.Building.{built, IsBuilding}
use Rattle.dw_slice.proofs.slices.cut.Given as goal

abbrev pub invariant-loop-entry : goal.invariant-loop-entry
invariant-loop-entry l = record {
  entries : built l.builder ≡ take l.entry-index l.entries;
  building : IsBuilding l.columns l.builder;
}
