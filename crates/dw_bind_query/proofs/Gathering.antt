-- Parts that are bound, one after another, and a turn of a loop over them.
use Rattle.std.proofs.Common.{◌≡◌, ℕ, suc, zero, ◌+◌, ◌<◌, ◌≤◌, List, [], ◌∷◌, ◌++◌, length, map, flat_map, drop, get_or, Option, Some, None, Result, Ok, Err, Bool, true, false, refl, ap, sym, ◌∙◌, append_assoc, arith}
use Rattle.std.proofs.lemmas.List.{append-nil, drop_more, at_drop_all, map-append}
use Rattle.dw_expr.specs.declared.faults.BindFault.{BindFault}
use Rattle.dw_expr.specs.declared.faults.BindFault.TheVariants.{Unknown, Clash, Memory}
use Rattle.dw_expr.specs.declared.sight.NamedColumn.{NamedColumn}
use Rattle.dw_expr.specs.declared.sight.NamedSource.{NamedSource}
use Rattle.dw_expr.specs.declared.typed.Wanted.{Wanted}
use Rattle.dw_expr.specs.declared.typed.Wanted.TheVariants.{Anything}
use Rattle.dw_expr.specs.Tree.{Tree}
use Rattle.dw_expr.specs.BoundTree.{BoundTree}
use Rattle.dw_expr.specs.BoundTree as b
use Rattle.dw_expr.specs.Binding.{bound}
use Rattle.dw_expr.specs.Sight.{columns_from, columns_after, row_columns}
use Rattle.dw_query.specs.Binding.{appended, bound_parts, column_itself, column_name, first_refusal, only_bound}
use Rattle.dw_query.specs.BindingRows.{bound_values, clash_if, name_in}
use Rattle.dw_bind_query.specs.Parts.{Gives, so_far, wanted_at}

refusal-assoc : (a b c : BindFault) → first_refusal (first_refusal a b) c ≡ first_refusal a (first_refusal b c)
refusal-assoc (Unknown name) b c = refl
refusal-assoc Clash (Unknown name) c = refl
refusal-assoc Clash Clash (Unknown name) = refl
refusal-assoc Clash Clash Clash = refl
refusal-assoc Clash Clash Memory = refl
refusal-assoc Clash Memory (Unknown name) = refl
refusal-assoc Clash Memory Clash = refl
refusal-assoc Clash Memory Memory = refl
refusal-assoc Memory (Unknown name) c = refl
refusal-assoc Memory Clash (Unknown name) = refl
refusal-assoc Memory Clash Clash = refl
refusal-assoc Memory Clash Memory = refl
refusal-assoc Memory Memory (Unknown name) = refl
refusal-assoc Memory Memory Clash = refl
refusal-assoc Memory Memory Memory = refl

pub appended-nothing : {A : Type 0} → (a : Result (List A) BindFault) → appended a (Ok []) ≡ a
appended-nothing (Ok made) = ap Ok (append-nil made)
appended-nothing (Err fault) = refl

pub appended-assoc : {A : Type 0} → (a b c : Result (List A) BindFault) → appended (appended a b) c ≡ appended a (appended b c)
appended-assoc (Ok a) (Ok b) (Ok c) = ap Ok (append_assoc a b c)
appended-assoc (Ok a) (Ok b) (Err f) = refl
appended-assoc (Ok a) (Err e) (Ok c) = refl
appended-assoc (Ok a) (Err e) (Err f) = refl
appended-assoc (Err d) (Ok b) (Ok c) = refl
appended-assoc (Err d) (Ok b) (Err f) = refl
appended-assoc (Err d) (Err e) (Ok c) = refl
appended-assoc (Err d) (Err e) (Err f) = ap Err (refusal-assoc d e f)

-- a turn: what is bound of an item comes after what was bound before
pub parts-turn : {A B : Type 0} → (bind : A → Result (List B) BindFault) (items : List A) (i : ℕ) (item : A) (before next whole : Result (List B) BindFault)
    → i < length items → item ≡ get_or items i item → next ≡ appended before (bind item)
    → appended before (bound_parts bind (drop i items)) ≡ whole
    → appended next (bound_parts bind (drop (i + 1) items)) ≡ whole
parts-turn bind items i item before next whole within is one p =
    let rest = drop (i + 1) items in
    let split : drop i items ≡ item ∷ rest = drop_more items i item within ∙ ap (λ x. x ∷ rest) (sym is) in
    ap (λ part. appended part (bound_parts bind rest)) one
    ∙ appended-assoc before (bind item) (bound_parts bind rest)
    ∙ ap (λ l. appended before (bound_parts bind l)) (sym split)
    ∙ p

-- the end: nothing is left
pub parts-end : {A B : Type 0} → (bind : A → Result (List B) BindFault) (items : List A) (i : ℕ) (before whole : Result (List B) BindFault)
    → length items ≤ i → appended before (bound_parts bind (drop i items)) ≡ whole → before ≡ whole
parts-end bind items i before whole past p =
    sym (appended-nothing before) ∙ sym (at_drop_all (λ l. appended before (bound_parts bind l)) items i past) ∙ p

-- what the parts came to is what is given
pub so-far-gives : {A : Type 0} → (made : List A) (refusal : Option BindFault) (whole : Result (List A) BindFault)
    → so_far made refusal ≡ whole → Gives whole (so_far made refusal)
so-far-gives made None whole p = sym p
so-far-gives made (Some (Unknown name)) whole p = sym p
so-far-gives made (Some Clash) whole p = sym p
so-far-gives made (Some Memory) whole p = tt

nothing-dropped : (i : ℕ) → drop {A = Wanted} i [] ≡ []
nothing-dropped zero = refl
nothing-dropped (suc i) = refl

nothing-wanted : (i : ℕ) → wanted_at [] i ≡ Anything
nothing-wanted zero = refl
nothing-wanted (suc i) = refl

dropped-more : (one : Wanted) (wanted : List Wanted) (i : ℕ) → drop (suc i + 1) (one ∷ wanted) ≡ drop (i + 1) wanted
dropped-more one wanted i = let e : suc i + 1 ≡ suc (i + 1) = omega arith in ap (λ n. drop n (one ∷ wanted)) e

-- a turn over a tuple's expressions, each with what it has to be
values-split : (wanted : List Wanted) (i : ℕ) (expr : Tree) (rest : List Tree)
    → bound_values (drop i wanted) (expr ∷ rest)
    ≡ appended (only_bound (bound [] false (wanted_at wanted i) expr)) (bound_values (drop (i + 1) wanted) rest)
values-split [] i expr rest =
    ap (λ l. bound_values l (expr ∷ rest)) (nothing-dropped i)
    ∙ ap (λ l. appended (only_bound (bound [] false Anything expr)) (bound_values l rest)) (sym (nothing-dropped (i + 1)))
    ∙ ap (λ one. appended (only_bound (bound [] false one expr)) (bound_values (drop (i + 1) []) rest)) (sym (nothing-wanted i))
values-split (one ∷ wanted) zero expr rest = refl
values-split (one ∷ wanted) (suc i) expr rest =
    values-split wanted i expr rest
    ∙ ap (λ l. appended (only_bound (bound [] false (wanted_at wanted i) expr)) (bound_values l rest)) (sym (dropped-more one wanted i))

pub values-turn : (wanted : List Wanted) (tuple : List Tree) (i : ℕ) (expr : Tree) (before next whole : Result (List BoundTree) BindFault)
    → i < length tuple → expr ≡ get_or tuple i expr → next ≡ appended before (only_bound (bound [] false (wanted_at wanted i) expr))
    → appended before (bound_values (drop i wanted) (drop i tuple)) ≡ whole
    → appended next (bound_values (drop (i + 1) wanted) (drop (i + 1) tuple)) ≡ whole
values-turn wanted tuple i expr before next whole within is one p =
    let rest = drop (i + 1) tuple in
    let split : drop i tuple ≡ expr ∷ rest = drop_more tuple i expr within ∙ ap (λ x. x ∷ rest) (sym is) in
    ap (λ part. appended part (bound_values (drop (i + 1) wanted) rest)) one
    ∙ appended-assoc before (only_bound (bound [] false (wanted_at wanted i) expr)) (bound_values (drop (i + 1) wanted) rest)
    ∙ ap (appended before) (sym (values-split wanted i expr rest))
    ∙ ap (λ l. appended before (bound_values (drop i wanted) l)) (sym split)
    ∙ p

pub values-nothing : (wanted : List Wanted) → bound_values wanted [] ≡ Ok []
values-nothing [] = refl
values-nothing (one ∷ wanted) = refl

pub values-end : (wanted : List Wanted) (tuple : List Tree) (i : ℕ) (before whole : Result (List BoundTree) BindFault)
    → length tuple ≤ i → appended before (bound_values (drop i wanted) (drop i tuple)) ≡ whole → before ≡ whole
values-end wanted tuple i before whole past p =
    sym (appended-nothing before) ∙ ap (appended before) (sym (values-nothing (drop i wanted)))
    ∙ sym (at_drop_all (λ l. appended before (bound_values (drop i wanted) l)) tuple i past) ∙ p

-- the columns of a source, as expressions
abbrev pub itself_from : ℕ → List ℕ → ℕ → List NamedColumn → List BoundTree
itself_from source alias place columns = map column_itself (columns_from source alias place columns)

pub columns-turn : (source : ℕ) (alias : List ℕ) (place : ℕ) (columns : List NamedColumn) (i : ℕ) (column : NamedColumn) (before next whole : Result (List BoundTree) BindFault)
    → i < length columns → column ≡ get_or columns i column → next ≡ appended before (Ok (b.column source place column.kind ∷ []))
    → appended before (Ok (itself_from source alias place (drop i columns))) ≡ whole
    → appended next (Ok (itself_from source alias (place + 1) (drop (i + 1) columns))) ≡ whole
columns-turn source alias place columns i column before next whole within is one p =
    let rest = drop (i + 1) columns in
    let split : drop i columns ≡ column ∷ rest = drop_more columns i column within ∙ ap (λ x. x ∷ rest) (sym is) in
    ap (λ part. appended part (Ok (itself_from source alias (place + 1) rest))) one
    ∙ appended-assoc before (Ok (b.column source place column.kind ∷ [])) (Ok (itself_from source alias (place + 1) rest))
    ∙ ap (λ l. appended before (Ok (itself_from source alias place l))) (sym split)
    ∙ p

pub columns-end : (source : ℕ) (alias : List ℕ) (place : ℕ) (columns : List NamedColumn) (i : ℕ) (before whole : Result (List BoundTree) BindFault)
    → length columns ≤ i → appended before (Ok (itself_from source alias place (drop i columns))) ≡ whole → before ≡ whole
columns-end source alias place columns i before whole past p =
    sym (appended-nothing before) ∙ sym (at_drop_all (λ l. appended before (Ok (itself_from source alias place l))) columns i past) ∙ p

-- the columns of sources, as expressions
abbrev pub itself_after : ℕ → ℕ → List NamedSource → List BoundTree
itself_after number place sources = map column_itself (columns_after number place sources)

pub sources-turn : (number place : ℕ) (sources : List NamedSource) (i : ℕ) (source : NamedSource) (before next whole : Result (List BoundTree) BindFault)
    → i < length sources → source ≡ get_or sources i source → next ≡ appended before (Ok (itself_from number source.alias place source.columns))
    → appended before (Ok (itself_after number place (drop i sources))) ≡ whole
    → appended next (Ok (itself_after (number + 1) (place + length source.columns) (drop (i + 1) sources))) ≡ whole
sources-turn number place sources i source before next whole within is one p =
    let rest = drop (i + 1) sources in
    let split : drop i sources ≡ source ∷ rest = drop_more sources i source within ∙ ap (λ x. x ∷ rest) (sym is) in
    let more = columns_after (number + 1) (place + length source.columns) rest in
    ap (λ part. appended part (Ok (map column_itself more))) one
    ∙ appended-assoc before (Ok (itself_from number source.alias place source.columns)) (Ok (map column_itself more))
    ∙ ap (λ made. appended before (Ok made)) (sym (map-append column_itself (columns_from number source.alias place source.columns) more))
    ∙ ap (λ l. appended before (Ok (itself_after number place l))) (sym split)
    ∙ p

pub sources-end : (number place : ℕ) (sources : List NamedSource) (i : ℕ) (before whole : Result (List BoundTree) BindFault)
    → length sources ≤ i → appended before (Ok (itself_after number place (drop i sources))) ≡ whole → before ≡ whole
sources-end number place sources i before whole past p =
    sym (appended-nothing before) ∙ sym (at_drop_all (λ l. appended before (Ok (itself_after number place l))) sources i past) ∙ p

-- the names of the columns of sources, which the sources' numbers and places don't change
names-from : (number : ℕ) (alias : List ℕ) (place : ℕ) (columns : List NamedColumn) → map column_name (columns_from number alias place columns) ≡ map name_in columns
names-from number alias place [] = refl
names-from number alias place (column ∷ rest) = ap (λ l. column.name ∷ l) (names-from number alias (place + 1) rest)

abbrev pub source_names : NamedSource → List (List ℕ)
source_names source = map name_in source.columns

abbrev pub names_in : List NamedSource → List (List ℕ)
names_in sources = flat_map source_names sources

names-after : (number place : ℕ) (sources : List NamedSource) → map column_name (columns_after number place sources) ≡ names_in sources
names-after number place [] = refl
names-after number place (source ∷ rest) =
    map-append column_name (columns_from number source.alias place source.columns) (columns_after (number + 1) (place + length source.columns) rest)
    ∙ ap (λ l. l ++ map column_name (columns_after (number + 1) (place + length source.columns) rest)) (names-from number source.alias place source.columns)
    ∙ ap (λ l. source_names source ++ l) (names-after (number + 1) (place + length source.columns) rest)

pub names_of_sources : (sources : List NamedSource) → names_in sources ≡ map column_name (row_columns sources)
names_of_sources sources = sym (names-after 0 0 sources)

pub names-end : (sources : List NamedSource) (i : ℕ) (before first : List (List ℕ)) → length sources ≤ i
    → before ++ names_in (drop i sources) ≡ first ++ names_in sources → before ≡ first ++ map column_name (row_columns sources)
names-end sources i before first past p =
    sym (append-nil before) ∙ sym (at_drop_all (λ l. before ++ names_in l) sources i past) ∙ p ∙ ap (λ l. first ++ l) (names_of_sources sources)

-- a clash, where nothing else is wrong
pub clashed : {A : Type 0} → (made : A) (due : Result A BindFault) → Gives due (Ok made) → Gives (clash_if true due) (Err Clash)
clashed made (Ok a) is = refl
clashed made (Err fault) is = cc

pub not_clashed : {A : Type 0} → (repeated : Bool) (due : Result A BindFault) (fault : BindFault) → Gives due (Err fault) → Gives (clash_if repeated due) (Err fault)
not_clashed true (Ok a) (Unknown name) is = cc
not_clashed true (Ok a) Clash is = cc
not_clashed true (Ok a) Memory is = tt
not_clashed true (Err first) fault is = is
not_clashed false due fault is = is
