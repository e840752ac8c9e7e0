-- The words of a command line: the name of a schedule or a journal, and 1 to 64 names of scripts. The form is this
-- project's own.
use Rattle.std.specs.Prelude.{ℕ, Bool, not, ◌&&◌, nat_lt, nat_le, nat_eq, codes, List, [], ◌∷◌, length, Option, Some, None, if◌then◌else◌, is_some}
use Rattle.std.specs.List.{starts_with, list_all}

-- a word that begins with `-` and is longer than that one byte is no name
abbrev pub is_option : List ℕ → Bool
is_option word = starts_with nat_eq word (codes "-") && nat_lt 1 (length word)

-- names that begin so are kept for generated scripts, which aren't there yet
abbrev pub is_generator : List ℕ → Bool
is_generator word = starts_with nat_eq word (codes "gen:")

-- whether none of the words is an option
abbrev pub are_names : List (List ℕ) → Bool
are_names words = list_all (λ word. not (is_option word)) words

-- whether so many scripts may be named: 1 to 64
abbrev pub is_count : ℕ → Bool
is_count scripts = nat_le 1 scripts && nat_le scripts 64

-- the name that stands first and those of the scripts, where the words have the form of the command
abbrev pub names_of : List (List ℕ) → Option (List ℕ × List (List ℕ))
names_of [] = None
names_of (first ∷ scripts) =
    if are_names (first ∷ scripts) && not (is_generator first) && is_count (length scripts)
    then Some (first, scripts) else None

-- whether the words have the form of the command
abbrev pub have_form : List (List ℕ) → Bool
have_form words = is_some (names_of words)
