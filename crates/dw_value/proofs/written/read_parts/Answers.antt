use Rattle.std.specs.Prelude.{not, ◌==◌, unsigned_abs}
use Rattle.std.proofs.Common.{◌≡◌, ◌∙◌, ℕ, Bool, false, ◌&&◌, ◌++◌, List, length, ℤ, pos, Some, Err, Result, FitsSigned, sym, ap, rules}
use Rattle.std.specs.Int.{w128}
use Rattle.std.proofs.lemmas.Int.{to_z-of_z}
use Rattle.dw_value.specs.declared.kinds.Kind.{Kind}
use Rattle.dw_value.specs.declared.kinds.Misread.{Misread}
use Rattle.dw_value.specs.declared.kinds.Misread.TheVariants.{Range}
use Rattle.dw_value.specs.Texts.{number_of}
use Rattle.dw_value.specs.Kinds.{scale_of, is_whole}
use Rattle.dw_value.specs.Written.{with_sign, written, number_within, written_in, size_rescaled}
use Rattle.dw_value.proofs.WrittenNumbers.{out_of_range, parts_read}
use Rattle.dw_value.proofs.written.read_parts.Goals as goal

module _ (to : Kind) (below : Bool) (whole fraction : List ℕ) (scale : ℕ) (is_scale : scale ≡ scale_of to) (right : (is_whole to && not (length fraction == 0)) ≡ false) where
  some : (size number : ℤ) (r : Result ℤ Misread) → size ≡ pos (size_rescaled (length fraction) scale (number_of (whole ++ fraction)))
      → number ≡ with_sign below (unsigned_abs size) → r ≡ number_within to number → r ≡ written_in to (Some (written below whole fraction))
  some size number r is_size is_number is =
      is ∙ ap (number_within to) (is_number ∙ ap (λ (z : ℤ). with_sign below (unsigned_abs z)) is_size
      ∙ ap (λ (s : ℕ). with_sign below (size_rescaled (length fraction) s (number_of (whole ++ fraction)))) is_scale)
      ∙ parts_read to below whole fraction right

  none : (FitsSigned w128 (pos (size_rescaled (length fraction) scale (number_of (whole ++ fraction)))) → ⊥) → Err Range ≡ written_in to (Some (written below whole fraction))
  none past =
      out_of_range to below (size_rescaled (length fraction) scale (number_of (whole ++ fraction))) past
      ∙ ap (λ (s : ℕ). number_within to (with_sign below (size_rescaled (length fraction) s (number_of (whole ++ fraction))))) is_scale
      ∙ parts_read to below whole fraction right

pub returns-in-Some : goal.returns-in-Some
returns-in-Some c =
    let right = sym c.has_wrong_point.ensures ∙ c.if-has_wrong_point.false in
    let size_fits : FitsSigned w128 c.in-Some.size = search rules in
    let number_fits : FitsSigned w128 c.signed.result = search rules in
    some c.args.to c.args.below c.args.whole.now c.args.fraction.now c.scale.result c.scale.ensures right c.in-Some.size c.signed.result c.number_within.result
    c.in-Some.ensures.1 (simp to_z-of_z at c.signed.ensures) (simp to_z-of_z at c.number_within.ensures)

pub returns-in-None : goal.returns-in-None
returns-in-None c =
    none c.args.to c.args.below c.args.whole.now c.args.fraction.now c.scale.result c.scale.ensures (sym c.has_wrong_point.ensures ∙ c.if-has_wrong_point.false) c.in-None.ensures
