use Rattle.std.proofs.Common.{rules, ◌≡◌, List, ℕ, Some, true, bytes_eq, ◌∙◌, sym, subst}
use Rattle.dw_io.specs.Memory.{bytes_under, bytes_at}
use Rattle.dw_io.proofs.FirstFile.{bytes_under-found}
use Rattle.dw_io.proofs.memory.place_of.Goals as goal

-- no earlier file has the name, and this one does
pub returns-then-eq : goal.returns-then-eq
returns-then-eq c =
    let items = c.as_slice-file-items.result.now in
    let name = c.args.name.now in
    let place = c.loop-place.place in
    let has_name : bytes_eq c.file-item.result.0 name ≡ true = search rules in
    let P : List (List ℕ × List ℕ) → Type 0 = λ files. bytes_under files name ≡ Some (bytes_at files place) in
    subst P c.as_slice-file-items.ensures.items (c.loop-place.invariant ∙ bytes_under-found items name place c.file-item.result c.loop-place-test.true (sym c.file-item.is) has_name)
