-- Words of what the program reads and writes. They are this project's own.
use Rattle.std.specs.Prelude.{ℕ, ◌+◌, ◌-◌, ◌^◌, ◌≤◌, min, List, ◌++◌, Option, option_map}

-- what files hold: the bytes under each name, and `None` under a name that isn't there
abbrev pub Held : Type 0
Held = List ℕ → Option (List ℕ)

-- one more than a count of 64 bits, which stops at its greatest number
abbrev pub one_more : ℕ → ℕ
one_more count = min (count + 1) (2 ^ 64 - 1)

-- a count of 64 bits rose from `before` to `now`, or stands at its greatest number
abbrev pub Rose : ℕ → ℕ → Type 0
Rose before now = min (before + 1) (2 ^ 64 - 1) ≤ now

-- what a sink has once it took `piece` after what it had, where that is told
abbrev pub appended : Option (List ℕ) → List ℕ → Option (List ℕ)
appended had piece = option_map (λ bytes. bytes ++ piece) had
