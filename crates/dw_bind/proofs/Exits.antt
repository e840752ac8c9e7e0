-- A clash on the way is the answer of the whole.
use Rattle.std.proofs.Common.{◌≡◌, Option, None, Err}
use Rattle.dw_bind.specs.declared.faults.KindFault.{KindFault}
use Rattle.dw_bind.specs.declared.faults.KindFault.TheVariants.{Clash, Memory}
use Rattle.dw_bind.specs.Gained.{Gains}

pub Gains-exit : {A B : Type 0} (fault : KindFault) (part : Option A) (whole : Option B) → Gains part (Err fault) → (part ≡ None → whole ≡ None) → Gains whole (Err fault)
Gains-exit Clash part whole p clashes = clashes p
Gains-exit Memory part whole p clashes = tt
