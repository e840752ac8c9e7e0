-- Walks over the columns of sources, which count those that a name may mean.
use Rattle.std.proofs.Common.{◌≡◌, ℕ, ◌+◌, ◌<◌, List, [], ◌∷◌, ◌++◌, Bool, true, false, cond, length, drop, get_or, filter, ◌≤◌, option_map, refl, ap, sym, ◌∙◌, arith}
use Rattle.std.proofs.lemmas.List.{drop_more, at_drop_all}
use Rattle.dw_expr.specs.declared.sight.NamedColumn.{NamedColumn}
use Rattle.dw_expr.specs.declared.sight.NamedSource.{NamedSource}
use Rattle.dw_expr.specs.Sight.{RowColumn, Reference, may_mean, columns_from, columns_after, row_columns, only_one, meant}
use Rattle.dw_bind.specs.declared.hits.Hits.{Hits}
use Rattle.dw_bind.specs.declared.hits.Hits.TheVariants.{Nothing, One, Several}
use Rattle.dw_bind.specs.Hits.{capped, found_of, joined_hits, hit, hits, found_in}

pub capped_small : (p : ℕ) → p < 18446744073709551616 → capped p ≡ p
capped_small p h = omega arith

pub joined_hits-nothing : (a : Hits) → joined_hits a Nothing ≡ a
joined_hits-nothing Nothing = refl
joined_hits-nothing (One a) = refl
joined_hits-nothing Several = refl

pub joined_hits-assoc : (a b c : Hits) → joined_hits (joined_hits a b) c ≡ joined_hits a (joined_hits b c)
joined_hits-assoc Nothing b c = refl
joined_hits-assoc (One a) Nothing c = refl
joined_hits-assoc (One a) (One b) Nothing = refl
joined_hits-assoc (One a) (One b) (One c) = refl
joined_hits-assoc (One a) (One b) Several = refl
joined_hits-assoc (One a) Several c = refl
joined_hits-assoc Several b c = refl

pub hits-append : (reference : Reference) (xs ys : List RowColumn) → hits reference (xs ++ ys) ≡ joined_hits (hits reference xs) (hits reference ys)
hits-append reference [] ys = refl
hits-append reference (one ∷ rest) ys =
    ap (joined_hits (hit reference one)) (hits-append reference rest ys)
    ∙ sym (joined_hits-assoc (hit reference one) (hits reference rest) (hits reference ys))

-- how many rows pass, as far as it matters
tally : List RowColumn → Hits
tally [] = Nothing
tally (one ∷ []) = One (found_of one)
tally (one ∷ other ∷ rest) = Several

tally-more : (one : RowColumn) (rows : List RowColumn) → joined_hits (One (found_of one)) (tally rows) ≡ tally (one ∷ rows)
unfolding tally
tally-more one [] = refl
tally-more one (other ∷ []) = refl
tally-more one (other ∷ third ∷ rest) = refl

tally-step : (passes : Bool) (one : RowColumn) (rows : List RowColumn) → joined_hits (cond passes (One (found_of one)) Nothing) (tally rows) ≡ tally (cond passes (one ∷ rows) rows)
tally-step true one rows = tally-more one rows
tally-step false one rows = refl

hits-tally : (reference : Reference) (rows : List RowColumn) → hits reference rows ≡ tally (filter (may_mean reference) rows)
unfolding tally
hits-tally reference [] = refl
hits-tally reference (one ∷ rest) =
    ap (joined_hits (hit reference one)) (hits-tally reference rest)
    ∙ tally-step (may_mean reference one) one (filter (may_mean reference) rest)

found_in-tally : (rows : List RowColumn) → found_in (tally rows) ≡ option_map found_of (only_one rows)
unfolding tally
found_in-tally [] = refl
found_in-tally (one ∷ []) = refl
found_in-tally (one ∷ other ∷ rest) = refl

pub found_in-hits : (reference : Reference) (sight : List NamedSource) → found_in (hits reference (row_columns sight)) ≡ option_map found_of (meant sight reference)
found_in-hits reference sight =
    ap found_in (hits-tally reference (row_columns sight)) ∙ found_in-tally (filter (may_mean reference) (row_columns sight))

-- a place counts as far as it has 64 bits
pub hits-capped : (reference : Reference) (number : ℕ) (alias : List ℕ) (p q : ℕ) (columns : List NamedColumn) → capped p ≡ capped q → hits reference (columns_from number alias p columns) ≡ hits reference (columns_from number alias q columns)
hits-capped reference number alias p q [] e = refl
hits-capped reference number alias p q (column ∷ rest) e =
    let next : capped (p + 1) ≡ capped (q + 1) = omega arith in
    ap (λ place. joined_hits (cond (may_mean reference (record { source = number; alias = alias; place = p; name = column.name; kind = column.kind }))
    (One (record { source = number; place = place; kind = column.kind })) Nothing) (hits reference (columns_from number alias (p + 1) rest))) e
    ∙ ap (joined_hits (hit reference (record { source = number; alias = alias; place = q; name = column.name; kind = column.kind }))) (hits-capped reference number alias (p + 1) (q + 1) rest next)

pub row_hits-capped : (reference : Reference) (number p q : ℕ) (sources : List NamedSource) → capped p ≡ capped q → hits reference (columns_after number p sources) ≡ hits reference (columns_after number q sources)
row_hits-capped reference number p q [] e = refl
row_hits-capped reference number p q (first ∷ rest) e =
    let n = length first.columns in
    let next : capped (p + n) ≡ capped (q + n) = omega arith in
    hits-append reference (columns_from number first.alias p first.columns) (columns_after (number + 1) (p + n) rest)
    ∙ ap (λ h. joined_hits h (hits reference (columns_after (number + 1) (p + n) rest))) (hits-capped reference number first.alias p q first.columns e)
    ∙ ap (joined_hits (hits reference (columns_from number first.alias q first.columns))) (row_hits-capped reference (number + 1) (p + n) (q + n) rest next)
    ∙ sym (hits-append reference (columns_from number first.alias q first.columns) (columns_after (number + 1) (q + n) rest))

-- a turn of the walk over a source's columns: the column is counted or not, and the place goes one on
pub column-turn : (reference : Reference) (number : ℕ) (alias : List ℕ) (place after : ℕ) (columns : List NamedColumn) (i : ℕ) (column : NamedColumn) (found next whole : Hits)
    → i < length columns → column ≡ get_or columns i column → place < 18446744073709551616 → after ≡ capped (place + 1)
    → next ≡ joined_hits found (hit reference (record { source = number; alias = alias; place = place; name = column.name; kind = column.kind }))
    → joined_hits found (hits reference (columns_from number alias place (drop i columns))) ≡ whole
    → joined_hits next (hits reference (columns_from number alias after (drop (i + 1) columns))) ≡ whole
column-turn reference number alias place after columns i column found next whole within item low up one p =
    let rest = drop (i + 1) columns in
    let row : RowColumn = record { source = number; alias = alias; place = place; name = column.name; kind = column.kind } in
    let same : capped after ≡ capped (place + 1) = omega arith in
    let split : drop i columns ≡ column ∷ rest = drop_more columns i column within ∙ ap (λ x. x ∷ rest) (sym item) in
    ap (λ h. joined_hits h (hits reference (columns_from number alias after rest))) one
    ∙ joined_hits-assoc found (hit reference row) (hits reference (columns_from number alias after rest))
    ∙ ap (λ h. joined_hits found (joined_hits (hit reference row) h)) (hits-capped reference number alias after (place + 1) rest same)
    ∙ ap (λ l. joined_hits found (hits reference (columns_from number alias place l))) (sym split)
    ∙ p

-- a turn of the walk over sources: the columns of one are counted, and the place goes on by as many as they are
pub source-turn : (reference : Reference) (place after : ℕ) (sources : List NamedSource) (i : ℕ) (from : NamedSource) (found next whole : Hits)
    → i < length sources → from ≡ get_or sources i from → after ≡ capped (place + length from.columns)
    → next ≡ joined_hits found (hits reference (columns_from i from.alias place from.columns))
    → joined_hits found (hits reference (columns_after i place (drop i sources))) ≡ whole
    → joined_hits next (hits reference (columns_after (i + 1) after (drop (i + 1) sources))) ≡ whole
source-turn reference place after sources i from found next whole within item up one p =
    let rest = drop (i + 1) sources in
    let n = length from.columns in
    let here = hits reference (columns_from i from.alias place from.columns) in
    let same : capped after ≡ capped (place + n) = omega arith in
    let split : drop i sources ≡ from ∷ rest = drop_more sources i from within ∙ ap (λ x. x ∷ rest) (sym item) in
    ap (λ h. joined_hits h (hits reference (columns_after (i + 1) after rest))) one
    ∙ joined_hits-assoc found here (hits reference (columns_after (i + 1) after rest))
    ∙ ap (λ h. joined_hits found (joined_hits here h)) (row_hits-capped reference (i + 1) after (place + n) rest same)
    ∙ ap (joined_hits found) (sym (hits-append reference (columns_from i from.alias place from.columns) (columns_after (i + 1) (place + n) rest)))
    ∙ ap (λ l. joined_hits found (hits reference (columns_after i place l))) (sym split)
    ∙ p

-- after the walk over a source's columns, all of them are counted
pub columns-end : (reference : Reference) (number : ℕ) (alias : List ℕ) (place : ℕ) (columns : List NamedColumn) (i : ℕ) (found whole : Hits) → length columns ≤ i
    → joined_hits found (hits reference (columns_from number alias place (drop i columns))) ≡ whole → found ≡ whole
columns-end reference number alias place columns i found whole past p =
    let none = at_drop_all (λ (l : List NamedColumn). joined_hits found (hits reference (columns_from number alias place l))) columns i past in
    sym (joined_hits-nothing found) ∙ sym none ∙ p

-- after the walk, those that were counted are those that the name may mean
pub walk-end : (reference : Reference) (sources : List NamedSource) (found : Hits) (number place i : ℕ) → length sources ≤ i
    → joined_hits found (hits reference (columns_after number place (drop i sources))) ≡ hits reference (row_columns sources)
    → found ≡ hits reference (row_columns sources)
walk-end reference sources found number place i past p =
    let none = at_drop_all (λ (l : List NamedSource). joined_hits found (hits reference (columns_after number place l))) sources i past in
    sym (joined_hits-nothing found) ∙ sym none ∙ p
