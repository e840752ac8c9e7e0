-- Scripts that are short.
use Rattle.std.proofs.Common.{◌≡◌, zero, suc, ◌<◌, ◌^◌, List, [], ◌∷◌, ◌++◌, length, subst, refl}
use Rattle.std.specs.Prelude.{Some}
use Rattle.dw_journal.specs.declared.Given.{Given}
use Rattle.dw_journal.specs.Worlds.{Scripts, AreShort}

same_some : (a b : List Given) → Some a ≡ Some b → a ≡ b
same_some a b same = cc

pub none_long : AreShort []
none_long place script is = cc

short_head : (first : List Given) (scripts : Scripts) → AreShort (first ∷ scripts) → length first < 2 ^ 32
short_head first scripts short = short 0 first refl

short_cons : (first : List Given) (scripts : Scripts) → length first < 2 ^ 32 → AreShort scripts → AreShort (first ∷ scripts)
short_cons first scripts few short zero script is = subst (λ (script : List Given). length script < 2 ^ 32) (same_some first script is) few
short_cons first scripts few short (suc place) script is = short place script is

-- one more that is short
pub short_push : (scripts : Scripts) (last : List Given) → AreShort scripts → length last < 2 ^ 32 → AreShort (scripts ++ last ∷ [])
short_push [] last short few = short_cons last [] few none_long
short_push (first ∷ scripts) last short few =
    short_cons first (scripts ++ last ∷ []) (short_head first scripts short) (short_push scripts last (λ place. short (suc place)) few)
