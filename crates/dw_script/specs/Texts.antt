-- Texts as SQL writes them, and causes further on.
use Rattle.std.specs.Prelude.{ℕ, ◌+◌, List, [], ◌∷◌, ◌++◌, ◌==◌, if◌then◌else◌}
use Rattle.dw_script.specs.Characters.{quote}
use Rattle.dw_script.specs.declared.script.ScriptCause.{ScriptCause}
use Rattle.dw_script.specs.declared.script.ScriptCause.TheVariants.{NotUtf8, OpenText, OpenComment, TooMany}

-- a text with each quote written twice
abbrev pub doubled : List ℕ → List ℕ
doubled [] = []
doubled (byte ∷ text) = if byte == quote then quote ∷ quote ∷ doubled text else byte ∷ doubled text

-- a text in single quotes
abbrev pub quoted : List ℕ → List ℕ
quoted text = quote ∷ doubled text ++ quote ∷ []

-- a cause whose place is so many bytes further on
abbrev pub further : ℕ → ScriptCause → ScriptCause
further n (NotUtf8 place) = NotUtf8 (n + place)
further n (OpenText place) = OpenText (n + place)
further n (OpenComment place) = OpenComment (n + place)
further n TooMany = TooMany
