-- A column that was found is the one that is meant, where its numbers have 32 bits.
use Rattle.std.proofs.Common.{◌≡◌, ℕ, ◌<◌, Option, Some, None, option_map, refl, ap, sym, ◌∙◌, arith}
use Rattle.dw_expr.specs.declared.typed.Typed.TheVariants.{Decided}
use Rattle.dw_expr.specs.BoundTree.{column}
use Rattle.dw_expr.specs.Sight.{RowColumn}
use Rattle.dw_expr.specs.Binding.{column_at}
use Rattle.dw_bind.specs.declared.hits.Found.{Found}
use Rattle.dw_bind.specs.Hits.{capped, found_of}

pub column_unknown : (meant : Option RowColumn) → None ≡ option_map found_of meant → option_map column_at meant ≡ None
column_unknown None p = refl
column_unknown (Some one) p = cc

pub column_found : (meant : Option RowColumn) (found : Found) (source place : ℕ) → Some found ≡ option_map found_of meant → source ≡ found.source → place ≡ found.place → place < 4294967296 → option_map column_at meant ≡ Some (Decided (column source place found.kind))
column_found None found source place p s q within = cc
column_found (Some one) found source place p s q within =
    let same : found ≡ found_of one = cc in
    let low : place ≡ capped one.place = q ∙ ap (λ f. f.place) same in
    let whole : one.place ≡ place = omega arith in
    let number : one.source ≡ source = sym (s ∙ ap (λ f. f.source) same) in
    let kind : one.kind ≡ found.kind = sym (ap (λ f. f.kind) same) in
    cc
