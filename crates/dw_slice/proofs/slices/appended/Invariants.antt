-- The builder has the entries so far.
use Rattle.std.proofs.Common.{◌≡◌, ◌++◌, take, map}
use Rattle.dw_slice.specs.Chunks.{all_entries}
use Rattle.dw_slice.specs.Slices.{new_entry}
use Rattle.dw_slice.specs.Building.{built, IsBuilding}
use Rattle.dw_slice.proofs.slices.appended.Given as goal

abbrev pub invariant-loop-one : goal.invariant-loop-one
invariant-loop-one l = record {
  entries : built l.builder ≡ all_entries l.fn.chunks.items ++ map (new_entry l.stamp) (take l.one-index l.fresh);
  building : IsBuilding l.columns l.builder;
}
