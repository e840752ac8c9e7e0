-- Tables of names: what they hold once a column, or the columns of a source, are counted.
use Rattle.std.proofs.Common.{◌≡◌, ℕ, ◌+◌, ◌<◌, List, [], ◌∷◌, Bool, true, false, cond, ◌&&◌, Option, Some, None, refl, ap, sym, ◌∙◌, arith}
use Rattle.std.proofs.lemmas.Map.Text.{hash_map_updates_text}
use Rattle.std.specs.Option.{unwrap_or}
use Rattle.std.specs.Prelude.{String}
use Rattle.std.specs.String.{string_bytes, string_eq}
use Rattle.std.specs.Cmp.Lexicographic.{nat_list_eq_equiv, bytes_decides}
use Rattle.std.specs.Str.{bytes_eq}
use Rattle.std.specs.Map.{lookup}
use Rattle.indexmap.specs.IndexMap.{IndexMap, IsEmpty, Updates, UpdatesBy, get_by_text}
use Rattle.dw_expr.specs.declared.sight.NamedColumn.{NamedColumn}
use Rattle.dw_expr.specs.Sight.{RowColumn, Reference, same_name, columns_from}
use Rattle.dw_bind.specs.declared.hits.Found.{Found}
use Rattle.dw_bind.specs.declared.hits.Hits.{Hits}
use Rattle.dw_bind.specs.declared.hits.Hits.TheVariants.{Nothing, One}
use Rattle.dw_bind.specs.declared.names.NameTable.{NameTable}
use Rattle.dw_bind.specs.Hits.{capped, found_of, joined_hits, hit, hits}
use Rattle.dw_bind.specs.Names.{named, named_of, without, held_after, held}
use Rattle.dw_bind.proofs.Walks.{joined_hits-nothing}

-- what is found at a key's name, once a value is put at the key
put-at : {Y X S : Type 0} (old new : IndexMap (String Y) X S) (key : String Y) (name : List ℕ) (value : X)
    → Updates string_eq old new key (Some value) → string_bytes key ≡ name
    → (asked : List ℕ) (same : Bool) → same_name name asked ≡ same → get_by_text new asked ≡ cond same (Some value) (get_by_text old asked)
put-at old new key name value updates bytes asked same e =
    hash_map_updates_text (string_bytes key) old new (Some value) updates asked
    ∙ ap (λ bs. cond (same_name bs asked) (Some value) (get_by_text old asked)) bytes
    ∙ ap (λ b. cond b (Some value) (get_by_text old asked)) e

-- what is found for a text is what is held of the name that it is
pub named-at : {Y S : Type 0} (names : IndexMap (String Y) Hits S) (text name : List ℕ) (found : Option Hits)
    → found ≡ get_by_text names text → text ≡ name → unwrap_or found Nothing ≡ named names name
named-at names text name found e same = ap (λ at. unwrap_or at Nothing) (e ∙ ap (get_by_text names) same)

pub named_of-at : {Y S T : Type 0} (of_each : IndexMap (String Y) (IndexMap (String Y) Hits S) T) (text alias : List ℕ) (found : Option (IndexMap (String Y) Hits S))
    → found ≡ get_by_text of_each text → text ≡ alias → (asked : List ℕ) → named_of found asked ≡ named_of (get_by_text of_each alias) asked
named_of-at of_each text alias found e same asked = ap (λ at. named_of at asked) (e ∙ ap (get_by_text of_each) same)

-- what is left at other names, once a name is taken out
pub taken-rest : {Y X S : Type 0} (old new : IndexMap (String Y) X S) (text alias : List ℕ)
    → UpdatesBy string_eq (λ k. bytes_eq text (string_bytes k)) old new None → text ≡ alias
    → (other : List ℕ) → get_by_text new other ≡ without alias other (get_by_text old other)
taken-rest old new text alias updates same other =
    hash_map_updates_text text old new None updates other
    ∙ ap (λ bs. cond (same_name bs other) None (get_by_text old other)) same

-- an empty table holds nothing
pub named-empty : {Y S : Type 0} (names : IndexMap (String Y) Hits S) → IsEmpty names → (asked : List ℕ) → named names asked ≡ Nothing
named-empty {Y} names empty asked = ap (λ es. unwrap_or (lookup (λ (k : String Y). bytes_eq asked (string_bytes k)) es) Nothing) empty

pub held-empty : (table : NameTable) → IsEmpty table.every → IsEmpty table.of_each → (reference : Reference) → held table reference ≡ Nothing
held-empty table every each reference = by reference.source
  where
    by : (source : Option (List ℕ)) → held_after table source reference.name ≡ Nothing
    by None = named-empty table.every every reference.name
    by (Some alias) = ap (λ es. named_of (lookup (λ k. bytes_eq alias (string_bytes k)) es) reference.name) each

-- a column is counted for its name alone
pub named-noted : {Y S : Type 0} (old new : IndexMap (String Y) Hits S) (key : String Y) (name : List ℕ) (value : Hits) (found : Found)
    → Updates string_eq old new key (Some value) → string_bytes key ≡ name → value ≡ joined_hits (named old name) (One found)
    → (asked : List ℕ) → named new asked ≡ joined_hits (named old asked) (cond (same_name asked name) (One found) Nothing)
named-noted {Y} {S} old new key name value found updates bytes one asked = by (same_name name asked) refl
  where
    by : (same : Bool) → same_name name asked ≡ same → named new asked ≡ joined_hits (named old asked) (cond (same_name asked name) (One found) Nothing)
    by true e =
        ap (λ at. unwrap_or at Nothing) (put-at old new key name value updates bytes asked true e)
        ∙ one
        ∙ ap (λ n. joined_hits (named old n) (One found)) ((bytes_decides name asked).0 e)
        ∙ ap (λ b. joined_hits (named old asked) (cond b (One found) Nothing)) (sym (nat_list_eq_equiv.symm asked name ∙ e))
    by false e =
        ap (λ at. unwrap_or at Nothing) (put-at old new key name value updates bytes asked false e)
        ∙ sym (joined_hits-nothing (named old asked))
        ∙ ap (λ b. joined_hits (named old asked) (cond b (One found) Nothing)) (sym (nat_list_eq_equiv.symm asked name ∙ e))

-- a name without a source may mean each column of that name
pub hit-plain : (asked : List ℕ) (row : RowColumn) → row.place < 18446744073709551616
    → hit (record { source = None; name = asked }) row ≡ cond (same_name asked row.name) (One (record { source = row.source; place = row.place; kind = row.kind })) Nothing
hit-plain asked row low =
    let whole : capped row.place ≡ row.place = omega arith in
    by (same_name asked row.name)
    ∙ ap (λ place. cond (same_name asked row.name) (One (record { source = row.source; place = place; kind = row.kind })) Nothing) whole
  where
    by : (same : Bool) → cond (same && true) (One (found_of row)) Nothing ≡ cond same (One (found_of row)) Nothing
    by true = refl
    by false = refl

after-one : (same its : Bool) (found : Found) (rest : Hits)
    → joined_hits (cond (same && its) (One found) Nothing) (cond its rest Nothing) ≡ cond its (joined_hits (cond (same && true) (One found) Nothing) rest) Nothing
after-one same true found rest = refl
after-one true false found rest = refl
after-one false false found rest = refl

-- after the alias of a source, a name may mean each column of that name; after another one, none
hits-after : (source asked : List ℕ) (number : ℕ) (alias : List ℕ) (place : ℕ) (columns : List NamedColumn)
    → hits (record { source = Some source; name = asked }) (columns_from number alias place columns)
    ≡ cond (same_name source alias) (hits (record { source = None; name = asked }) (columns_from number alias place columns)) Nothing
hits-after source asked number alias place [] = by (same_name source alias)
  where
    by : (its : Bool) → Nothing ≡ cond its Nothing Nothing
    by true = refl
    by false = refl
hits-after source asked number alias place (column ∷ rest) =
    let row : RowColumn = record { source = number; alias = alias; place = place; name = column.name; kind = column.kind } in
    ap (joined_hits (hit (record { source = Some source; name = asked }) row)) (hits-after source asked number alias (place + 1) rest)
    ∙ after-one (same_name asked column.name) (same_name source alias) (found_of row)
    (hits (record { source = None; name = asked }) (columns_from number alias (place + 1) rest))

-- the columns of a source are counted for its alias alone
pub after-noted : {Y S T : Type 0} (old mid new : IndexMap (String Y) (IndexMap (String Y) Hits S) T) (key : String Y) (before after : IndexMap (String Y) Hits S) (of : List ℕ) (number place : ℕ) (columns : List NamedColumn)
    → Updates string_eq mid new key (Some after) → string_bytes key ≡ of
    → ((other : List ℕ) → get_by_text mid other ≡ without of other (get_by_text old other))
    → ((asked : List ℕ) → named before asked ≡ named_of (get_by_text old of) asked)
    → ((asked : List ℕ) → named after asked ≡ joined_hits (named before asked) (hits (record { source = None; name = asked }) (columns_from number of place columns)))
    → (alias asked : List ℕ) → named_of (get_by_text new alias) asked
    ≡ joined_hits (named_of (get_by_text old alias) asked) (hits (record { source = Some alias; name = asked }) (columns_from number of place columns))
after-noted {Y} {S} {T} old mid new key before after of number place columns updates bytes out start more alias asked =
    by (same_name of alias) refl
    ∙ ap (joined_hits (named_of (get_by_text old alias) asked)) (sym (hits-after alias asked number of place columns))
  where
    of_plain : Hits
    of_plain = hits (record { source = None; name = asked }) (columns_from number of place columns)

    by : (same : Bool) → same_name of alias ≡ same → named_of (get_by_text new alias) asked ≡ joined_hits (named_of (get_by_text old alias) asked) (cond (same_name alias of) of_plain Nothing)
    by true e =
        ap (λ at. named_of at asked) (put-at mid new key of after updates bytes alias true e)
        ∙ more asked
        ∙ ap (λ h. joined_hits h of_plain) (start asked)
        ∙ ap (λ n. joined_hits (named_of (get_by_text old n) asked) of_plain) ((bytes_decides of alias).0 e)
        ∙ ap (λ b. joined_hits (named_of (get_by_text old alias) asked) (cond b of_plain Nothing)) (sym (nat_list_eq_equiv.symm alias of ∙ e))
    by false e =
        ap (λ at. named_of at asked) (put-at mid new key of after updates bytes alias false e ∙ out alias ∙ ap (λ b. cond b None (get_by_text old alias)) e)
        ∙ sym (joined_hits-nothing (named_of (get_by_text old alias) asked))
        ∙ ap (λ b. joined_hits (named_of (get_by_text old alias) asked) (cond b of_plain Nothing)) (sym (nat_list_eq_equiv.symm alias of ∙ e))

-- the columns are counted for each reference
pub held-noted : (old new : NameTable) (rows : List RowColumn)
    → ((asked : List ℕ) → named new.every asked ≡ joined_hits (named old.every asked) (hits (record { source = None; name = asked }) rows))
    → ((alias asked : List ℕ) → named_of (get_by_text new.of_each alias) asked ≡ joined_hits (named_of (get_by_text old.of_each alias) asked) (hits (record { source = Some alias; name = asked }) rows))
    → (reference : Reference) → held new reference ≡ joined_hits (held old reference) (hits reference rows)
held-noted old new rows every each reference = by reference.source
  where
    by : (source : Option (List ℕ)) → held_after new source reference.name ≡ joined_hits (held_after old source reference.name) (hits (record { source = source; name = reference.name }) rows)
    by None = every reference.name
    by (Some alias) = each alias reference.name
