use Rattle.std.proofs.Common.{◌≡◌, ◌≤◌, length, drop, Some}
use Rattle.dw_io.specs.Outside.{Held}
use Rattle.dw_input.specs.declared.files.TheConstants.{MAX_FILES}
use Rattle.dw_input.specs.Files.{files_of}
use Rattle.dw_input.proofs.Reading.{after_files}
use Rattle.dw_input.proofs.files.read_files.Given as goal

-- the files so far are had, and the others are read after them
abbrev pub invariant-loop-name : goal.invariant-loop-name
invariant-loop-name g l = record {
  keeps : g.F.Files.held l.files ≡ g.F.Files.held l.initial.files;
  count : g.F.Files.faults l.initial.files ≤ g.F.Files.faults l.files;
  within : l.total ≤ MAX_FILES;
  each : length l.had ≡ l.name-index;
  so_far : (h : Held) → g.F.Files.held l.initial.files ≡ Some h
      → files_of h l.before l.names ≡ after_files l.had (files_of h l.total (drop l.name-index l.names));
}
