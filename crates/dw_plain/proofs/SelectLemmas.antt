-- The stages of a SELECT, by the places of columns in place of their names.
use Rattle.std.proofs.Common.{◌≡◌, ℕ, zero, suc, ◌+◌, ◌<◌, ◌≤◌, Bool, true, false, cond, List, [], ◌∷◌, ◌++◌, map, filter, length, get_or, drop, Option, Some, None, option_map, refl, sym, ap, ◌∙◌}
use Rattle.std.specs.Prelude.{slice_get, if◌then◌else◌}
use Rattle.std.proofs.lemmas.List.{append_assoc, append-nil, at_drop_more, drop_all}
use Rattle.std.proofs.lemmas.Option.{none-some}
use Rattle.dw_value.specs.declared.kinds.Kind.{Kind}
use Rattle.dw_value.specs.declared.values.Field.{Field}
use Rattle.dw_value.specs.declared.values.Value.{Value}
use Rattle.dw_value.specs.declared.values.Value.TheVariants.{Null}
use Rattle.dw_value.specs.declared.values.Row.{Row}
use Rattle.dw_value.specs.Printed.{shown}
use Rattle.dw_value.specs.Sorted.{sort}
use Rattle.dw_value.specs.Values.{row_cmp}
use Rattle.dw_model.specs.declared.statements.Query.{Query}
use Rattle.dw_model.specs.declared.statements.Test.{Test}
use Rattle.dw_model.specs.declared.tables.Column.{Column}
use Rattle.dw_model.specs.Binding.{same_name}
use Rattle.dw_model.specs.Selection.{items_of, kind_of, passes, passes_test, selected, shown_all, value_in}
use Rattle.dw_plain.specs.declared.select.Condition.{Condition}
use Rattle.dw_plain.specs.Places.{condition_of, passes_at, place_of, value_at, values_at}

nowhere : (o : Option ℕ) → value_at [] o ≡ Null
nowhere None = refl
nowhere (Some place) = refl

later : (value : Value) (values : List Value) (o : Option ℕ) → value_at (value ∷ values) (option_map suc o) ≡ value_at values o
later value values None = refl
later value values (Some place) = refl

value_in_by : (columns : List Column) (value : Value) (values : List Value) (name : List ℕ) (b : Bool) → value_in columns values name ≡ value_at values (place_of columns name)
    → (if b then value else value_in columns values name) ≡ value_at (value ∷ values) (if b then Some 0 else option_map suc (place_of columns name))
value_in_by columns value values name true rest = refl
value_in_by columns value values name false rest = rest ∙ sym (later value values (place_of columns name))

value_in-place : (columns : List Column) (values : List Value) (name : List ℕ) → value_in columns values name ≡ value_at values (place_of columns name)
value_in-place [] values name = refl
value_in-place (column ∷ columns) [] name = sym (nowhere (place_of (column ∷ columns) name))
value_in-place (column ∷ columns) (value ∷ values) name = value_in_by columns value values name (same_name column.name name) (value_in-place columns values name)

passes-place : (columns : List Column) (keep : Option Test) (row : Row) → passes columns keep row ≡ passes_at (option_map (condition_of columns) keep) row
passes-place columns None row = refl
passes-place columns (Some test) row = ap (passes_test (kind_of columns test.column) test) (value_in-place columns row.values test.column)

items-place : (columns : List Column) (items : List (List ℕ)) (values : List Value) → map (value_in columns values) items ≡ map (value_at values) (map (place_of columns) items)
items-place columns [] values = refl
items-place columns (item ∷ items) values = λ i. value_in-place columns values item i ∷ items-place columns items values i

kept_by : (columns : List Column) (items : List (List ℕ)) (keep : Option Test) (row : Row) (rows kept : List Row) (b : Bool)
    → map (items_of columns items) rows ≡ map (values_at (map (place_of columns) items)) kept
    → map (items_of columns items) (cond b (row ∷ rows) rows) ≡ map (values_at (map (place_of columns) items)) (cond b (row ∷ kept) kept)
kept_by columns items keep row rows kept true rest = λ i. record { values = items-place columns items row.values i } ∷ rest i
kept_by columns items keep row rows kept false rest = rest

kept-place : (columns : List Column) (items : List (List ℕ)) (keep : Option Test) (rows : List Row)
    → map (items_of columns items) (filter (passes columns keep) rows) ≡ map (values_at (map (place_of columns) items)) (filter (passes_at (option_map (condition_of columns) keep)) rows)
kept-place columns items keep [] = refl
kept-place columns items keep (row ∷ rows) =
    ap (λ b. map (items_of columns items) (cond b (row ∷ filter (passes columns keep) rows) (filter (passes columns keep) rows))) (passes-place columns keep row)
    ∙ kept_by columns items keep row (filter (passes columns keep) rows) (filter (passes_at (option_map (condition_of columns) keep)) rows) (passes_at (option_map (condition_of columns) keep) row) (kept-place columns items keep rows)

-- the rows that pass, by places, sorted
pub selected_places : (query : Query) (columns : List Column) (rows kept : List Row) (places : List (Option ℕ)) (condition : Option Condition)
    → kept ≡ map (values_at places) (filter (passes_at condition) rows) → places ≡ map (place_of columns) query.items → condition ≡ option_map (condition_of columns) query.keep
    → sort row_cmp kept ≡ selected query columns rows
selected_places query columns rows kept places condition kept_is places_is condition_is =
    ap (sort row_cmp) (kept_is ∙ (λ i. map (values_at (places_is i)) (filter (passes_at (condition_is i)) rows)) ∙ sym (kept-place columns query.items query.keep rows))

no_fields : (kinds : List Kind) → shown_all kinds [] ≡ []
no_fields [] = refl
no_fields (kind ∷ kinds) = refl

-- past the last value nothing is shown
pub shown_past : (kinds : List Kind) (values : List Value) (front : List Field) (i : ℕ) → length values ≤ i → front ++ shown_all (drop i kinds) (drop i values) ≡ front
shown_past kinds values front i le = ap (λ rest. front ++ shown_all (drop i kinds) rest) (drop_all i values le) ∙ ap (λ rest. front ++ rest) (no_fields (drop i kinds)) ∙ append-nil front

-- past the last kind nothing is shown
pub shown_unknown : (kinds : List Kind) (values : List Value) (front : List Field) (i : ℕ) → None ≡ slice_get kinds i → front ++ shown_all (drop i kinds) (drop i values) ≡ front
shown_unknown kinds values front i e = ap (λ rest. front ++ shown_all rest (drop i values)) (past_all kinds i e) ∙ append-nil front
  where
    past_all : (kinds : List Kind) (i : ℕ) → None ≡ slice_get kinds i → drop i kinds ≡ []
    past_all [] zero e = refl
    past_all [] (suc i) e = refl
    past_all (kind ∷ kinds) zero e = absurd (none-some kind e)
    past_all (kind ∷ kinds) (suc i) e = past_all kinds i e

-- a value joins those in front
pub shown_turn : (kinds : List Kind) (values : List Value) (front : List Field) (i : ℕ) (kind : Kind) (value : Value) (field : Field)
    → i < length kinds → kind ≡ get_or kinds i kind → i < length values → value ≡ get_or values i value → field ≡ shown kind value
    → front ++ shown_all (drop i kinds) (drop i values) ≡ (front ++ field ∷ []) ++ shown_all (drop (i + 1) kinds) (drop (i + 1) values)
shown_turn kinds values front i kind value field lk kind_is lv value_is field_is =
    ap (λ rest. front ++ rest)
    (at_drop_more (λ ks. shown_all ks (drop i values)) kinds i kind lk
    ∙ at_drop_more (λ vs. shown_all (get_or kinds i kind ∷ drop (i + 1) kinds) vs) values i value lv
    ∙ ap (λ (k : Kind). shown k (get_or values i value) ∷ shown_all (drop (i + 1) kinds) (drop (i + 1) values)) (sym kind_is)
    ∙ ap (λ (v : Value). shown kind v ∷ shown_all (drop (i + 1) kinds) (drop (i + 1) values)) (sym value_is)
    ∙ ap (λ (f : Field). f ∷ shown_all (drop (i + 1) kinds) (drop (i + 1) values)) (sym field_is))
    ∙ sym (append_assoc front (field ∷ []) (shown_all (drop (i + 1) kinds) (drop (i + 1) values)))
