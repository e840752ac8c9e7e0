-- Newest stamps of an object that one more commit read or wrote.
use Rattle.std.specs.Prelude.{ℕ, Bool, true, false}
use Rattle.dw_ssn.specs.declared.summaries.Newest.{Newest}

-- the stamps with this one, of a writer or of a reader
abbrev pub raised : ℕ → Bool → Newest → Newest
raised stamp true newest = record { writer = stamp; reader = newest.reader }
raised stamp false newest = record { writer = newest.writer; reader = stamp }
