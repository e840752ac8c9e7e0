-- Tokens derive just the statement that they read as.
use Rattle.std.proofs.Common.{◌≡◌, ℕ, ◌+◌, ◌⊎◌, inl, inr, Bool, true, false, ◌&&◌, ◌||◌, if◌then◌else◌, Option, Some, None, List, length, refl, sym, ◌∙◌, subst, arith}
use Rattle.std.specs.Prelude.{codes, ◌==◌, nat_le, flat_map}
use Rattle.std.specs.Option.{option_map, option_and_then}
use Rattle.std.specs.Cmp.Lexicographic.{pointwise}
use Rattle.std.specs.Prelude.{nat_eq}
use Rattle.std.proofs.lemmas.Bool.{eqb-true, eq-eqb, leb-true, le-leb}
use Rattle.dw_lex.specs.Meaning.{folded}
use Rattle.dw_lex.specs.declared.signs.Sign.TheVariants as mark
use Rattle.dw_lex.specs.declared.token.Token.{Token}
use Rattle.dw_value.specs.declared.kinds.Comparison.{Comparison}
use Rattle.dw_model.specs.declared.statements.Test.{Test}
use Rattle.dw_model.specs.declared.statements.Statement.{Statement}
use Rattle.dw_model.specs.declared.statements.Statement.TheVariants.{Begin, Commit, Rollback, Create, Drop, Lock, Insert, Select}
use Rattle.dw_parse.specs.declared.parts.Part.{Part}
use Rattle.dw_parse.specs.declared.parts.Attribute.{Attribute}
use Rattle.dw_parse_words.specs.Words.{is_sign, is_sign_at, comparison_of, word_at, sign_at, name_at}
use Rattle.dw_parse.specs.Tables.{columns_in, table_made}
use Rattle.dw_parse_words.specs.PieceReading.{listed_at, repeated_at, table_at, named_at, maybe_names_at, literal_at, tuple_at}
use Rattle.dw_parse.specs.CreateReading.{part_at, attribute_at}
use Rattle.dw_parse.specs.Reading.{create_of, create_with, create_after, read_create, drop_after, read_drop, lock_of, lock_from, read_lock, insert_of, insert_values, insert_after, read_insert, test_of, test_at, condition_at, select_of, select_after, read_select, is_rest, block_word, read_block, read_statement}
use Rattle.dw_parse_words.specs.Pieces.{Listed, Repeated, IsTable}
use Rattle.dw_parse.specs.CreateGrammar.{IsAttribute}
use Rattle.dw_parse.specs.Grammar.{IsCondition, absent, where_is, IsRest, ended, transaction, work, Derives, begin, start, commit, end, rollback, abort, create, drop, lock, lock_table, insert, select}
use Rattle.dw_parse_words.proofs.FoundLemmas.{and_both, or_either, one_word, word_no_sign, past_sign, past_word, open_dot, sign_within, Sound, sound_some, sound_if, sound_when, sound_bind, sound_map}
use Rattle.dw_parse_words.proofs.PieceLemmas.{named_list_complete, named_list_sound, table_complete, table_sound, table_list_complete, table_list_sound, table_list_no_word, maybe_names_complete, maybe_names_dot, maybe_names_sound, literal_complete, literal_sound, tuples_complete, tuples_sound}
use Rattle.dw_parse.proofs.CreateLemmas.{parts_complete, parts_sound, attributes_complete, attributes_sound}

-- the condition
condition_complete : (tokens : List Token) {i : ℕ} {keep : Option Test} → IsCondition tokens i keep → condition_at tokens i ≡ Some keep
condition_complete tokens (absent {i} e) =
    let lacks = past_word (codes "where") tokens i e in let same = eq-eqb i (length tokens) e in rw (lacks, same) refl
condition_complete tokens (where_is {i} {j} {v = v} w n c item e) =
    let l = literal_complete tokens (i + 3) j v item tt in let same = eq-eqb j (length tokens) e in rw (w, n, c, l, same) refl

condition_dot : (tokens : List Token) {i : ℕ} {keep : Option Test} → IsCondition tokens i keep → is_sign_at mark.Dot tokens i ≡ false
condition_dot tokens (absent {i} e) = past_sign (is_sign mark.Dot) tokens i e refl
condition_dot tokens (where_is {i} w n c item e) = word_no_sign (is_sign mark.Dot) (codes "where") tokens i w refl

-- a token is one word alone
only : (a b : List ℕ) (tokens : List Token) → pointwise nat_eq (folded a) (folded b) ≡ false → word_at a tokens 0 ≡ true → word_at b tokens 0 ≡ false
only a b tokens other w = one_word a b tokens 0 other w

-- what may stand after the first word of a block's statement
or_right : (a b : Bool) → b ≡ true → a || b ≡ true
or_right true b e = refl
or_right false b e = e

rest_complete : (tokens : List Token) {i : ℕ} → IsRest tokens i → is_rest tokens i ≡ true
rest_complete tokens (ended {i} e) = let same = eq-eqb i (length tokens) e in rw same refl
rest_complete tokens (transaction {i} w e) =
    let same = eq-eqb (i + 1) (length tokens) e in
    or_right (i == length tokens) ((word_at (codes "transaction") tokens i || word_at (codes "work") tokens i) && (i + 1 == length tokens)) (rw (w, same) refl)
rest_complete tokens (work {i} w e) =
    let same = eq-eqb (i + 1) (length tokens) e in
    let said = or_right (word_at (codes "transaction") tokens i) (word_at (codes "work") tokens i) w in
    or_right (i == length tokens) ((word_at (codes "transaction") tokens i || word_at (codes "work") tokens i) && (i + 1 == length tokens)) (rw (said, same) refl)

-- a first word of which no other statement begins
no_other : (tokens : List Token) (a : List ℕ) → pointwise nat_eq (folded a) (folded (codes "create")) ≡ false → pointwise nat_eq (folded a) (folded (codes "drop")) ≡ false → pointwise nat_eq (folded a) (folded (codes "insert")) ≡ false
    → pointwise nat_eq (folded a) (folded (codes "select")) ≡ false → pointwise nat_eq (folded a) (folded (codes "lock")) ≡ false → word_at a tokens 0 ≡ true → read_statement tokens ≡ read_block tokens
no_other tokens a no_create no_drop no_insert no_select no_lock w =
    let c = only a (codes "create") tokens no_create w in
    let d = only a (codes "drop") tokens no_drop w in
    let i = only a (codes "insert") tokens no_insert w in
    let s = only a (codes "select") tokens no_select w in
    let l = only a (codes "lock") tokens no_lock w in
    rw (c, d, i, s, l) refl

-- after the word lock
lock_read : (tokens : List Token) → word_at (codes "lock") tokens 0 ≡ true → read_statement tokens ≡ read_lock tokens
lock_read tokens w =
    let c = only (codes "lock") (codes "create") tokens refl w in
    let d = only (codes "lock") (codes "drop") tokens refl w in
    let i = only (codes "lock") (codes "insert") tokens refl w in
    let s = only (codes "lock") (codes "select") tokens refl w in
    rw (c, d, i, s, w) refl

lock_from_read : (tokens : List Token) {i j : ℕ} {names : List (List ℕ)} → Listed (IsTable tokens) tokens i names j → j ≡ length tokens → lock_from tokens i ≡ Some (Lock names)
lock_from_read tokens {j = j} list last =
    let l = table_list_complete tokens list (past_sign (is_sign mark.Dot) tokens j last refl) (past_sign (is_sign mark.Comma) tokens j last refl) in
    let n = eq-eqb j (length tokens) last in
    rw (l, n) refl

block_read : (tokens : List Token) (s : Statement) → word_at (codes "start") tokens 0 ≡ false → IsRest tokens 1 → block_word tokens ≡ Some s → read_block tokens ≡ Some s
block_read tokens s not_start rest said = let whole = rest_complete tokens rest in rw (not_start, whole) said

pub derives_read : (tokens : List Token) (statement : Statement) → Derives tokens statement → read_statement tokens ≡ Some statement
derives_read tokens statement (begin w rest) =
    no_other tokens (codes "begin") refl refl refl refl refl w
    ∙ block_read tokens Begin (only (codes "begin") (codes "start") tokens refl w) rest (rw w refl)
derives_read tokens statement (start w t count) =
    let two : length tokens == 2 ≡ true = eq-eqb (length tokens) 2 count in
    no_other tokens (codes "start") refl refl refl refl refl w
    ∙ rw (w, t, two) refl
derives_read tokens statement (commit w rest) =
    let no_begin = only (codes "commit") (codes "begin") tokens refl w in
    no_other tokens (codes "commit") refl refl refl refl refl w
    ∙ block_read tokens Commit (only (codes "commit") (codes "start") tokens refl w) rest (rw (no_begin, w) refl)
derives_read tokens statement (end w rest) =
    let no_begin = only (codes "end") (codes "begin") tokens refl w in
    let no_commit = only (codes "end") (codes "commit") tokens refl w in
    no_other tokens (codes "end") refl refl refl refl refl w
    ∙ block_read tokens Commit (only (codes "end") (codes "start") tokens refl w) rest (rw (no_begin, no_commit, w) refl)
derives_read tokens statement (rollback w rest) =
    let no_begin = only (codes "rollback") (codes "begin") tokens refl w in
    let no_commit = only (codes "rollback") (codes "commit") tokens refl w in
    let no_end = only (codes "rollback") (codes "end") tokens refl w in
    no_other tokens (codes "rollback") refl refl refl refl refl w
    ∙ block_read tokens Rollback (only (codes "rollback") (codes "start") tokens refl w) rest (rw (no_begin, no_commit, no_end, w) refl)
derives_read tokens statement (abort w rest) =
    let no_begin = only (codes "abort") (codes "begin") tokens refl w in
    let no_commit = only (codes "abort") (codes "commit") tokens refl w in
    let no_end = only (codes "abort") (codes "end") tokens refl w in
    let no_rollback = only (codes "abort") (codes "rollback") tokens refl w in
    no_other tokens (codes "abort") refl refl refl refl refl w
    ∙ block_read tokens Rollback (only (codes "abort") (codes "start") tokens refl w) rest (rw (no_begin, no_commit, no_end, no_rollback, w) refl)
derives_read tokens statement (create {i} {j} {k} {name} {parts} {attributes} w t table o list c more last few) =
    let e = table_complete tokens table (open_dot (sign_at tokens i) o) in
    let l = parts_complete tokens list c in
    let within = sign_within (is_sign mark.Close) tokens j refl c in
    let r = attributes_complete tokens more last (omega arith) in
    let n = eq-eqb k (length tokens) last in
    let f = le-leb (length (flat_map columns_in parts)) 1600 few in
    rw (w, t, e, o, l, c, r, n, f) refl
derives_read tokens statement (drop {i} {name} w t table last) =
    let no_create = only (codes "drop") (codes "create") tokens refl w in
    let e = table_complete tokens table (past_sign (is_sign mark.Dot) tokens i last refl) in
    let n = eq-eqb i (length tokens) last in
    rw (no_create, w, t, e, n) refl
derives_read tokens statement (lock w list last) =
    let t = table_list_no_word tokens list in
    let e = lock_from_read tokens list last in
    lock_read tokens w ∙ rw t e
derives_read tokens statement (lock_table w t list last) =
    let e = lock_from_read tokens list last in
    lock_read tokens w ∙ rw t e
derives_read tokens statement (insert {i} {j} {k} {name} {columns} {rows} w t table names v list last) =
    let no_create = only (codes "insert") (codes "create") tokens refl w in
    let no_drop = only (codes "insert") (codes "drop") tokens refl w in
    let e = table_complete tokens table (maybe_names_dot tokens names (word_no_sign (is_sign mark.Dot) (codes "values") tokens j v refl)) in
    let m = maybe_names_complete tokens names (word_no_sign (is_sign mark.Open) (codes "values") tokens j v refl) in
    let l = tuples_complete tokens list (past_sign (is_sign mark.Comma) tokens k last refl) in
    let n = eq-eqb k (length tokens) last in
    rw (no_create, no_drop, w, t, e, m, v, l, n) refl
derives_read tokens statement (select {i} {j} {names} {name} {keep} w list f table condition) =
    let no_create = only (codes "select") (codes "create") tokens refl w in
    let no_drop = only (codes "select") (codes "drop") tokens refl w in
    let no_insert = only (codes "select") (codes "insert") tokens refl w in
    let l = named_list_complete tokens list (word_no_sign (is_sign mark.Comma) (codes "from") tokens i f refl) in
    let e = table_complete tokens table (condition_dot tokens condition) in
    let k = condition_complete tokens condition in
    rw (no_create, no_drop, no_insert, w, l, f, e, k) refl

-- the converse
condition_sound : (tokens : List Token) (i : ℕ) → Sound (IsCondition tokens i) (condition_at tokens i)
condition_sound tokens i =
    sound_if (IsCondition tokens i) (word_at (codes "where") tokens i) (option_map (λ (test : Test). Some test) (test_at tokens i)) (if i == length tokens then Some None else None)
    (λ w. sound_map (IsCondition tokens i) (λ (test : Test). Some test) (test_at tokens i) (tested w))
    (λ w. sound_when (IsCondition tokens i) (i == length tokens) (Some None) (λ e. sound_some (IsCondition tokens i) None (absent (eqb-true i (length tokens) e))))
  where
    tested : word_at (codes "where") tokens i ≡ true → Sound (λ (test : Test). IsCondition tokens i (Some test)) (test_at tokens i)
    tested w =
        sound_bind (λ (test : Test). IsCondition tokens i (Some test)) (λ (column : List ℕ). option_and_then (λ (comparison : Comparison). option_and_then (test_of tokens column comparison) (literal_at tokens (i + 3))) (comparison_of (sign_at tokens (i + 2)))) (name_at tokens (i + 1))
        (λ column n. sound_bind (λ (test : Test). IsCondition tokens i (Some test)) (λ (comparison : Comparison). option_and_then (test_of tokens column comparison) (literal_at tokens (i + 3))) (comparison_of (sign_at tokens (i + 2)))
        (λ comparison c. sound_bind (λ (test : Test). IsCondition tokens i (Some test)) (test_of tokens column comparison) (literal_at tokens (i + 3))
        (λ found l. sound_when (λ (test : Test). IsCondition tokens i (Some test)) (found.1 == length tokens) (Some (record { column = column; comparison = comparison; literal = found.0 }))
        (λ e. sound_some (λ (test : Test). IsCondition tokens i (Some test)) (record { column = column; comparison = comparison; literal = found.0 })
        (where_is w n c (literal_sound tokens (i + 3) found l) (eqb-true found.1 (length tokens) e))))))

create_sound : (tokens : List Token) → word_at (codes "create") tokens 0 ≡ true → Sound (Derives tokens) (read_create tokens)
create_sound tokens w =
    sound_when (Derives tokens) (word_at (codes "table") tokens 1) (option_and_then (create_after tokens) (table_at tokens 2))
    (λ t. sound_bind (Derives tokens) (create_after tokens) (table_at tokens 2)
    (λ table b. sound_when (Derives tokens) (is_sign_at mark.Open tokens table.1) (option_and_then (create_with tokens table.0) (listed_at (part_at tokens) tokens (table.1 + 1)))
    (λ o. sound_bind (Derives tokens) (create_with tokens table.0) (listed_at (part_at tokens) tokens (table.1 + 1))
    (λ parts l. sound_when (Derives tokens) (is_sign_at mark.Close tokens parts.1) (create_of tokens table.0 parts.0 (repeated_at (attribute_at tokens) tokens (parts.1 + 1)))
    (λ c. made t table (table_sound tokens 2 table b) o parts l c (repeated_at (attribute_at tokens) tokens (parts.1 + 1)) refl)))))
  where
    made : word_at (codes "table") tokens 1 ≡ true → (table : List ℕ × ℕ) → IsTable tokens 2 table.0 table.1 → is_sign_at mark.Open tokens table.1 ≡ true
        → (parts : List Part × ℕ) → listed_at (part_at tokens) tokens (table.1 + 1) ≡ Some parts → is_sign_at mark.Close tokens parts.1 ≡ true
        → (attributes : List Attribute × ℕ) → repeated_at (attribute_at tokens) tokens (parts.1 + 1) ≡ attributes → Sound (Derives tokens) (create_of tokens table.0 parts.0 attributes)
    made t table b o parts l c attributes is =
        sound_when (Derives tokens) ((attributes.1 == length tokens) && nat_le (length (flat_map columns_in parts.0)) 1600) (Some (Create (table_made table.0 parts.0 attributes.0)))
        (λ h. sound_some (Derives tokens) (Create (table_made table.0 parts.0 attributes.0))
        (create w t b o (parts_sound tokens (table.1 + 1) parts l) c
        (subst (λ (found : List Attribute × ℕ). Repeated (IsAttribute tokens) (parts.1 + 1) found.0 found.1) is (attributes_sound tokens (parts.1 + 1)))
        (eqb-true attributes.1 (length tokens) (and_both (attributes.1 == length tokens) (nat_le (length (flat_map columns_in parts.0)) 1600) h).0)
        (leb-true (length (flat_map columns_in parts.0)) 1600 (and_both (attributes.1 == length tokens) (nat_le (length (flat_map columns_in parts.0)) 1600) h).1)))

drop_sound : (tokens : List Token) → word_at (codes "drop") tokens 0 ≡ true → Sound (Derives tokens) (read_drop tokens)
drop_sound tokens w =
    sound_when (Derives tokens) (word_at (codes "table") tokens 1) (option_and_then (drop_after tokens) (table_at tokens 2))
    (λ t. sound_bind (Derives tokens) (drop_after tokens) (table_at tokens 2)
    (λ table b. sound_when (Derives tokens) (table.1 == length tokens) (Some (Drop table.0))
    (λ e. sound_some (Derives tokens) (Drop table.0) (drop w t (table_sound tokens 2 table b) (eqb-true table.1 (length tokens) e)))))

lock_from_sound : (tokens : List Token) (i : ℕ) → ((names : List (List ℕ)) (j : ℕ) → Listed (IsTable tokens) tokens i names j → j ≡ length tokens → Derives tokens (Lock names)) → Sound (Derives tokens) (lock_from tokens i)
lock_from_sound tokens i rule =
    sound_bind (Derives tokens) (lock_of tokens) (listed_at (table_at tokens) tokens i)
    (λ names l. sound_when (Derives tokens) (names.1 == length tokens) (Some (Lock names.0))
    (λ e. sound_some (Derives tokens) (Lock names.0) (rule names.0 names.1 (table_list_sound tokens i names l) (eqb-true names.1 (length tokens) e))))

lock_sound : (tokens : List Token) → word_at (codes "lock") tokens 0 ≡ true → Sound (Derives tokens) (read_lock tokens)
lock_sound tokens w =
    sound_if (Derives tokens) (word_at (codes "table") tokens 1) (lock_from tokens 2) (lock_from tokens 1)
    (λ t. lock_from_sound tokens 2 (λ names j list last. lock_table w t list last))
    (λ t. lock_from_sound tokens 1 (λ names j list last. lock w list last))

insert_sound : (tokens : List Token) → word_at (codes "insert") tokens 0 ≡ true → Sound (Derives tokens) (read_insert tokens)
insert_sound tokens w =
    sound_when (Derives tokens) (word_at (codes "into") tokens 1) (option_and_then (insert_after tokens) (table_at tokens 2))
    (λ t. sound_bind (Derives tokens) (insert_after tokens) (table_at tokens 2)
    (λ table b. sound_bind (Derives tokens) (insert_values tokens table.0) (maybe_names_at tokens table.1)
    (λ columns m. sound_when (Derives tokens) (word_at (codes "values") tokens columns.1) (option_and_then (insert_of tokens table.0 columns.0) (listed_at (tuple_at tokens) tokens (columns.1 + 1)))
    (λ v. sound_bind (Derives tokens) (insert_of tokens table.0 columns.0) (listed_at (tuple_at tokens) tokens (columns.1 + 1))
    (λ rows l. sound_when (Derives tokens) (rows.1 == length tokens) (Some (Insert table.0 columns.0 rows.0))
    (λ e. sound_some (Derives tokens) (Insert table.0 columns.0 rows.0)
    (insert w t (table_sound tokens 2 table b) (maybe_names_sound tokens table.1 columns m) v (tuples_sound tokens (columns.1 + 1) rows l) (eqb-true rows.1 (length tokens) e))))))))

select_sound : (tokens : List Token) → word_at (codes "select") tokens 0 ≡ true → Sound (Derives tokens) (read_select tokens)
select_sound tokens w =
    sound_bind (Derives tokens) (select_after tokens) (listed_at (named_at tokens) tokens 1)
    (λ items l. sound_when (Derives tokens) (word_at (codes "from") tokens items.1) (option_and_then (select_of tokens items.0) (table_at tokens (items.1 + 1)))
    (λ f. sound_bind (Derives tokens) (select_of tokens items.0) (table_at tokens (items.1 + 1))
    (λ table b. sound_map (Derives tokens) (λ (keep : Option Test). Select (record { items = items.0; table = table.0; keep = keep })) (condition_at tokens table.1)
    (λ keep e. select w (named_list_sound tokens 1 items l) f (table_sound tokens (items.1 + 1) table b) (condition_sound tokens table.1 keep e)))))

-- the statements of blocks
rest_sound : (tokens : List Token) (i : ℕ) → is_rest tokens i ≡ true → IsRest tokens i
rest_sound tokens i e =
    on (or_either (i == length tokens) ((word_at (codes "transaction") tokens i || word_at (codes "work") tokens i) && (i + 1 == length tokens)) e)
  where
    by_word : i + 1 ≡ length tokens → (word_at (codes "transaction") tokens i ≡ true) ⊎ (word_at (codes "work") tokens i ≡ true) → IsRest tokens i
    by_word last (inl w) = transaction w last
    by_word last (inr w) = work w last

    on : ((i == length tokens) ≡ true) ⊎ (((word_at (codes "transaction") tokens i || word_at (codes "work") tokens i) && (i + 1 == length tokens)) ≡ true) → IsRest tokens i
    on (inl h) = ended (eqb-true i (length tokens) h)
    on (inr h) =
        let both = and_both (word_at (codes "transaction") tokens i || word_at (codes "work") tokens i) (i + 1 == length tokens) h in
        by_word (eqb-true (i + 1) (length tokens) both.1) (or_either (word_at (codes "transaction") tokens i) (word_at (codes "work") tokens i) both.0)

abbrev commits : List Token → Bool
commits tokens = word_at (codes "commit") tokens 0 || word_at (codes "end") tokens 0

abbrev rolls_back : List Token → Bool
rolls_back tokens = word_at (codes "rollback") tokens 0 || word_at (codes "abort") tokens 0

commit_by : (tokens : List Token) → IsRest tokens 1 → (word_at (codes "commit") tokens 0 ≡ true) ⊎ (word_at (codes "end") tokens 0 ≡ true) → Derives tokens Commit
commit_by tokens rest (inl w) = commit w rest
commit_by tokens rest (inr w) = end w rest

rollback_by : (tokens : List Token) → IsRest tokens 1 → (word_at (codes "rollback") tokens 0 ≡ true) ⊎ (word_at (codes "abort") tokens 0 ≡ true) → Derives tokens Rollback
rollback_by tokens rest (inl w) = rollback w rest
rollback_by tokens rest (inr w) = abort w rest

word_sound : (tokens : List Token) → IsRest tokens 1 → Sound (Derives tokens) (block_word tokens)
word_sound tokens rest =
    sound_if (Derives tokens) (word_at (codes "begin") tokens 0) (Some Begin) (if commits tokens then Some Commit else if rolls_back tokens then Some Rollback else None)
    (λ w. sound_some (Derives tokens) Begin (begin w rest))
    (λ w. sound_if (Derives tokens) (commits tokens) (Some Commit) (if rolls_back tokens then Some Rollback else None)
    (λ c. sound_some (Derives tokens) Commit (commit_by tokens rest (or_either (word_at (codes "commit") tokens 0) (word_at (codes "end") tokens 0) c)))
    (λ c. sound_when (Derives tokens) (rolls_back tokens) (Some Rollback)
    (λ r. sound_some (Derives tokens) Rollback (rollback_by tokens rest (or_either (word_at (codes "rollback") tokens 0) (word_at (codes "abort") tokens 0) r)))))

block_sound : (tokens : List Token) → Sound (Derives tokens) (read_block tokens)
block_sound tokens =
    sound_if (Derives tokens) (word_at (codes "start") tokens 0) (if word_at (codes "transaction") tokens 1 && (length tokens == 2) then Some Begin else None) (if is_rest tokens 1 then block_word tokens else None)
    (λ w. sound_when (Derives tokens) (word_at (codes "transaction") tokens 1 && (length tokens == 2)) (Some Begin)
    (λ h. sound_some (Derives tokens) Begin (start w (and_both (word_at (codes "transaction") tokens 1) (length tokens == 2) h).0 (eqb-true (length tokens) 2 (and_both (word_at (codes "transaction") tokens 1) (length tokens == 2) h).1))))
    (λ w. sound_when (Derives tokens) (is_rest tokens 1) (block_word tokens) (λ r. word_sound tokens (rest_sound tokens 1 r)))

abbrev read_after_select : List Token → Option Statement
read_after_select tokens = if word_at (codes "lock") tokens 0 then read_lock tokens else read_block tokens

abbrev read_after_insert : List Token → Option Statement
read_after_insert tokens = if word_at (codes "select") tokens 0 then read_select tokens else read_after_select tokens

abbrev read_after_drop : List Token → Option Statement
read_after_drop tokens = if word_at (codes "insert") tokens 0 then read_insert tokens else read_after_insert tokens

abbrev read_after_create : List Token → Option Statement
read_after_create tokens = if word_at (codes "drop") tokens 0 then read_drop tokens else read_after_drop tokens

statement_sound : (tokens : List Token) → Sound (Derives tokens) (read_statement tokens)
statement_sound tokens =
    sound_if (Derives tokens) (word_at (codes "create") tokens 0) (read_create tokens) (read_after_create tokens)
    (λ w. create_sound tokens w)
    (λ c. sound_if (Derives tokens) (word_at (codes "drop") tokens 0) (read_drop tokens) (read_after_drop tokens)
    (λ w. drop_sound tokens w)
    (λ d. sound_if (Derives tokens) (word_at (codes "insert") tokens 0) (read_insert tokens) (read_after_insert tokens)
    (λ w. insert_sound tokens w)
    (λ i. sound_if (Derives tokens) (word_at (codes "select") tokens 0) (read_select tokens) (read_after_select tokens)
    (λ w. select_sound tokens w)
    (λ s. sound_if (Derives tokens) (word_at (codes "lock") tokens 0) (read_lock tokens) (read_block tokens)
    (λ w. lock_sound tokens w) (λ l. block_sound tokens)))))

pub read_derives : (tokens : List Token) (s : Statement) → read_statement tokens ≡ Some s → Derives tokens s
read_derives tokens s e = statement_sound tokens s e

some_same : (first second : Statement) → Some first ≡ Some second → first ≡ second
some_same first second e = cc

pub one_derived : (tokens : List Token) (first second : Statement) → Derives tokens first → Derives tokens second → first ≡ second
one_derived tokens first second d e = some_same first second (sym (derives_read tokens first d) ∙ derives_read tokens second e)
