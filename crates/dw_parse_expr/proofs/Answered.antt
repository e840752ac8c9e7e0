-- The laws of expressions, of the readings that they speak of.
use Rattle.std.proofs.Common.{◌≡◌, ℕ, ◌<◌, ◌≤◌, Some, List, sym, ◌∙◌, ap, subst, arith}
use Rattle.std.specs.Option.{option_map}
use Rattle.dw_lex.specs.declared.token.Token.{Token}
use Rattle.dw_expr.specs.Tree.{Tree}
use Rattle.dw_parse_expr.specs.Marks.{mark_at, level_of}
use Rattle.dw_parse_expr.specs.Grammar.{Derives, IsExpression}
use Rattle.dw_parse_expr.specs.Reading.{Found, expression_at}
use Rattle.dw_parse_expr.proofs.Sound.{map_some, some_same}
use Rattle.dw_parse_expr.proofs.SoundLevels.{read_is_derived}
use Rattle.dw_parse_expr.proofs.Complete.{derived_is_read}

pub derived : (tokens : List Token) (i j : ℕ) (tree : Tree) → expression_at tokens i ≡ Some (tree, j) → IsExpression tokens i tree j
derived tokens i j tree e =
    let m = map_some _ _ _ e in
    let x = read_is_derived tokens 64 8 i m.0 (omega arith) m.1 in
    subst (λ (r : Tree × ℕ). IsExpression tokens i r.0 r.1) m.2 (m.0.1, x.1, x.0)

pub read_of : (tokens : List Token) (i j d : ℕ) (tree : Tree) → Derives tokens 8 i tree d j → d ≤ 64
    → 8 < level_of (mark_at tokens j) → expression_at tokens i ≡ Some (tree, j)
read_of tokens i j d tree h room stop =
    ap (option_map (λ (found : Found). (found.0, found.2))) (derived_is_read tokens h 64 room stop)

pub one_expression : (tokens : List Token) (i j : ℕ) (a b : Tree) → IsExpression tokens i a j → IsExpression tokens i b j
    → 8 < level_of (mark_at tokens j) → a ≡ b
one_expression tokens i j a b h k stop =
    let x = read_of tokens i j h.0 a h.2 h.1 stop in
    let y = read_of tokens i j k.0 b k.2 k.1 stop in
    ap (λ (r : Tree × ℕ). r.0) (some_same _ _ (sym x ∙ y))
