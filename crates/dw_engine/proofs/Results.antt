-- Clauses on the results of calls.
use Rattle.std.proofs.Common.{Result, Ok, Err, OnOk, IfOk}

-- what follows from what holds on success holds on success
pub then_on_ok : {T E P Q : Type 0} (result : Result T E) → OnOk result P → (P → Q) → OnOk result Q
then_on_ok (Ok x) holds so = so holds
then_on_ok (Err e) holds so = tt

pub then_if_ok : {T E : Type 0} {P Q : T → Type 0} (result : Result T E) → IfOk result P → ((x : T) → P x → Q x) → IfOk result Q
then_if_ok (Ok x) holds so = so x holds
then_if_ok (Err e) holds so = tt
