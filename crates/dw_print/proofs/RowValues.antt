-- Values of a row that are written, each after a bar: what stands there once none is left.
use Rattle.std.proofs.Common.{◌≡◌, ℕ, ◌≤◌, List, [], ◌∷◌, ◌++◌, drop, length, refl, sym, ◌∙◌}
use Rattle.std.specs.Prelude.{flat_map}
use Rattle.std.proofs.lemmas.List.{append-nil, drop_all}
use Rattle.dw_value.specs.declared.kinds.Kind.{Kind}
use Rattle.dw_value.specs.declared.values.Value.{Value}
use Rattle.dw_model.specs.declared.tables.Column.{Column}
use Rattle.dw_model.specs.Selection.{shown_all}
use Rattle.dw_print.specs.Fields.{shown_field, after_bar}
use Rattle.dw_print.specs.Rows.{kinds_in}

-- no value gives no field, whatever columns there are
no_values_no_fields : (kinds : List Kind) → shown_all kinds [] ≡ []
no_values_no_fields [] = refl
no_values_no_fields (kind ∷ kinds) = refl

pub all_are_written : (columns : List Column) (values : List Value) (i : ℕ) (out whole : List ℕ) → length values ≤ i
    → out ++ flat_map (after_bar shown_field) (shown_all (kinds_in (drop i columns)) (drop i values)) ≡ whole → out ≡ whole
all_are_written columns values i out whole past so_far = sym step ∙ so_far
  where
    step : out ++ flat_map (after_bar shown_field) (shown_all (kinds_in (drop i columns)) (drop i values)) ≡ out
    step = rw (drop_all i values past, no_values_no_fields (kinds_in (drop i columns))) (simp append-nil)
