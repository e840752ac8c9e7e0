-- Where a reading ends.
use Rattle.std.proofs.Common.{◌≡◌, ℕ, ◌<◌, ◌≤◌, Some, List, length}
use Rattle.dw_lex.specs.declared.token.Token.{Token}
use Rattle.dw_expr.specs.Tree.{Tree}
use Rattle.dw_parse_expr.specs.Reading.{expression_at}
use Rattle.dw_parse_expr.proofs.Places.{spans}
use Rattle.dw_parse_expr.proofs.Answered.{derived}

-- what is read ends after its beginning, and within the tokens
pub read_spans : (tokens : List Token) (i j : ℕ) (tree : Tree) → expression_at tokens i ≡ Some (tree, j) → (i < j) × (j ≤ length tokens)
read_spans tokens i j tree e =
    let x = derived tokens i j tree e in
    let y = spans tokens x.2 in
    (y.1, y.2)
