-- The first file of a name, by its place among the files.
use Rattle.std.proofs.Common.{◌≡◌, ℕ, zero, suc, ◌<◌, true, List, [], ◌∷◌, length, drop, get_or, bytes_eq, Some, cond, ap, ◌∙◌, arith}
use Rattle.dw_io.specs.Memory.{bytes_under, bytes_at}

-- from the place of a file that has the name, its bytes are the first ones under it
pub bytes_under-found : (entries : List (List ℕ × List ℕ)) (name : List ℕ) (place : ℕ) (entry : List ℕ × List ℕ) → place < length entries → get_or entries place entry ≡ entry → bytes_eq entry.0 name ≡ true → bytes_under (drop place entries) name ≡ Some (bytes_at entries place)
bytes_under-found [] name place entry within is same = absurd (omega (arith, within))
bytes_under-found (first ∷ rest) name zero entry within is same =
    let test : bytes_eq first.0 name ≡ true = ap (λ e. bytes_eq e.0 name) is ∙ same in
    ap (λ b. cond b (Some first.1) (bytes_under rest name)) test
bytes_under-found (first ∷ rest) name (suc place) entry within is same =
    bytes_under-found rest name place entry (omega (arith, within)) is same
