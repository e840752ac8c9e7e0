use Rattle.std.proofs.Common.{◌≡◌, map, take, length, zip, None}
use Rattle.dw_journal.specs.Worlds.{AreShort}
use Rattle.dw_input.specs.Scripts.{bad_script, givens_of}
use Rattle.dw_input.proofs.scripts.read_scripts.Given as goal

-- the scripts so far are read
abbrev pub invariant-loop-name : goal.invariant-loop-name
invariant-loop-name l = record {
  scripts : l.scripts ≡ map givens_of (take (length l.yielded) l.files);
  good : bad_script (take (length l.yielded) (zip l.names l.files)) ≡ None;
  short : AreShort l.scripts;
}
