-- The parts of a tree of numbers, as which the logic stores a tree: its first part, what follows, and the number in front.
use Rattle.std.specs.Prelude.{ℕ}
use base.Stored.{Gv, gnil, gnum, gcons}

abbrev pub head : Gv → Gv
head gnil = gnil
head (gnum n) = gnil
head (gcons a b) = a

abbrev pub tail : Gv → Gv
tail gnil = gnil
tail (gnum n) = gnil
tail (gcons a b) = b

abbrev pub tag : Gv → ℕ
tag gnil = 0
tag (gnum n) = 0
tag (gcons gnil b) = 0
tag (gcons (gnum n) b) = n
tag (gcons (gcons a b) c) = 0
