-- What snapshots see of a commit.
use Rattle.std.specs.Prelude.{nat_le, nat_lt, filter, if◌then◌else◌}
use Rattle.std.specs.Option.{is_none}
use Rattle.std.proofs.Common.{◌≡◌, ℕ, ◌<◌, ◌≤◌, Bool, true, false, ◌&&◌, not, cond, Option, Some, None, List, [], ◌∷◌, ◌++◌, map, refl, sym, ap, ◌∙◌, arith}
use Rattle.std.proofs.lemmas.Bool.Decides.{nat_tests}
use Rattle.std.proofs.lemmas.List.{map-append, append-nil}
use Rattle.std.proofs.lemmas.List.Elements.{filter-append}
use Rattle.dw_value.specs.declared.values.Row.{Row}
use Rattle.dw_slice.specs.declared.slices.Entry.{Entry}
use Rattle.dw_slice.specs.declared.slices.Fresh.{Fresh}
use Rattle.dw_slice.specs.Slices.{is_before, visible, seen_of, seen, fresh_seen, is_among, goes, marked_entry, marked, new_entry, appended}

less : (a b : ℕ) → a < b → nat_lt a b ≡ true
less a b l = grind (arith, nat_tests)

not_less : (a b : ℕ) → b ≤ a → nat_lt a b ≡ false
not_less a b l = grind (arith, nat_tests)

most : (a b : ℕ) → a ≤ b → nat_le a b ≡ true
most a b l = grind (arith, nat_tests)

not_most : (a b : ℕ) → b < a → nat_le a b ≡ false
not_most a b l = grind (arith, nat_tests)

and_left : (a b : Bool) → (a && b) ≡ true → a ≡ true
and_left true b e = refl
and_left false b e = e

and_false : (a : Bool) → (a && false) ≡ false
and_false true = refl
and_false false = refl

before_none : (snapshot : ℕ) (deleted : Option ℕ) → is_none deleted ≡ true → is_before snapshot deleted ≡ true
before_none snapshot None e = refl
before_none snapshot (Some stamp) e = cc

-- a deletion
abbrev deleted_at : ℕ → Entry → Entry
deleted_at stamp entry = record entry { deleted = Some stamp }

kept_seen : (a b : Bool) (x y : Entry) (xs ys : List Entry) → a ≡ b → seen_of x ≡ seen_of y → map seen_of xs ≡ map seen_of ys → map seen_of (cond a (x ∷ xs) xs) ≡ map seen_of (cond b (y ∷ ys) ys)
kept_seen true true x y xs ys e s h = ap (λ (p : ℕ × Row). p ∷ map seen_of xs) s ∙ ap (λ (ps : List (ℕ × Row)). seen_of y ∷ ps) h
kept_seen true false x y xs ys e s h = cc
kept_seen false true x y xs ys e s h = cc
kept_seen false false x y xs ys e s h = h

-- a snapshot before the stamp sees an entry as before
visible_before : (snapshot stamp : ℕ) (gone : List ℕ) (e : Entry) (t : Bool) → snapshot < stamp → goes gone e ≡ t → visible snapshot (if t then deleted_at stamp e else e) ≡ visible snapshot e
visible_before snapshot stamp gone e true l is =
    ap (λ (b : Bool). nat_le e.inserted snapshot && b) (less snapshot stamp l ∙ sym (before_none snapshot e.deleted (and_left (is_none e.deleted) (is_among gone e.id) is)))
visible_before snapshot stamp gone e false l is = refl

seen_same : (stamp : ℕ) (e : Entry) (t : Bool) → seen_of (if t then deleted_at stamp e else e) ≡ seen_of e
seen_same stamp e true = refl
seen_same stamp e false = refl

marked_before : (snapshot stamp : ℕ) (gone : List ℕ) (entries : List Entry) → snapshot < stamp → seen snapshot (marked stamp gone entries) ≡ seen snapshot entries
marked_before snapshot stamp gone [] l = refl
marked_before snapshot stamp gone (e ∷ entries) l =
    kept_seen (visible snapshot (marked_entry stamp gone e)) (visible snapshot e) (marked_entry stamp gone e) e (filter (visible snapshot) (marked stamp gone entries)) (filter (visible snapshot) entries)
    (visible_before snapshot stamp gone e (goes gone e) l refl) (seen_same stamp e (goes gone e)) (marked_before snapshot stamp gone entries l)

-- and none of the fresh rows
fresh_before : (snapshot stamp : ℕ) (fresh : List Fresh) → snapshot < stamp → seen snapshot (map (new_entry stamp) fresh) ≡ []
fresh_before snapshot stamp [] l = refl
fresh_before snapshot stamp (f ∷ fresh) l =
    ap (λ (b : Bool). map seen_of (cond (b && true) (new_entry stamp f ∷ filter (visible snapshot) (map (new_entry stamp) fresh)) (filter (visible snapshot) (map (new_entry stamp) fresh)))) (not_most stamp snapshot l)
    ∙ fresh_before snapshot stamp fresh l

-- a snapshot from the stamp on sees no entry that goes
gone_after : (snapshot stamp : ℕ) (gone : List ℕ) (e : Entry) (xs ys : List Entry) (t : Bool) → stamp ≤ snapshot → map seen_of (filter (visible snapshot) xs) ≡ map seen_of (filter (visible snapshot) ys)
    → seen snapshot ((if t then deleted_at stamp e else e) ∷ xs) ≡ seen snapshot (cond (not t) (e ∷ ys) ys)
gone_after snapshot stamp gone e xs ys true l h =
    ap (λ (b : Bool). map seen_of (cond (nat_le e.inserted snapshot && b) (deleted_at stamp e ∷ filter (visible snapshot) xs) (filter (visible snapshot) xs))) (not_less snapshot stamp l)
    ∙ ap (λ (b : Bool). map seen_of (cond b (deleted_at stamp e ∷ filter (visible snapshot) xs) (filter (visible snapshot) xs))) (and_false (nat_le e.inserted snapshot)) ∙ h
gone_after snapshot stamp gone e xs ys false l h = kept_seen (visible snapshot e) (visible snapshot e) e e (filter (visible snapshot) xs) (filter (visible snapshot) ys) refl refl h

abbrev staying : List ℕ → List Entry → List Entry
staying gone entries = filter (λ e. not (goes gone e)) entries

marked_after : (snapshot stamp : ℕ) (gone : List ℕ) (entries : List Entry) → stamp ≤ snapshot → seen snapshot (marked stamp gone entries) ≡ seen snapshot (staying gone entries)
marked_after snapshot stamp gone [] l = refl
marked_after snapshot stamp gone (e ∷ entries) l =
    gone_after snapshot stamp gone e (marked stamp gone entries) (staying gone entries) (goes gone e) l (marked_after snapshot stamp gone entries l)

-- and all fresh rows
fresh_after : (snapshot stamp : ℕ) (fresh : List Fresh) → stamp ≤ snapshot → seen snapshot (map (new_entry stamp) fresh) ≡ map fresh_seen fresh
fresh_after snapshot stamp [] l = refl
fresh_after snapshot stamp (f ∷ fresh) l =
    ap (λ (b : Bool). map seen_of (cond (b && true) (new_entry stamp f ∷ filter (visible snapshot) (map (new_entry stamp) fresh)) (filter (visible snapshot) (map (new_entry stamp) fresh)))) (most stamp snapshot l)
    ∙ ap (λ (ps : List (ℕ × Row)). fresh_seen f ∷ ps) (fresh_after snapshot stamp fresh l)

seen-append : (snapshot : ℕ) (xs ys : List Entry) → seen snapshot (xs ++ ys) ≡ seen snapshot xs ++ seen snapshot ys
seen-append snapshot xs ys = ap (map seen_of) (filter-append (visible snapshot) xs ys) ∙ map-append seen_of (filter (visible snapshot) xs) (filter (visible snapshot) ys)

pub seen_before : (snapshot stamp : ℕ) (gone : List ℕ) (fresh : List Fresh) (entries : List Entry) → snapshot < stamp → seen snapshot (appended stamp fresh (marked stamp gone entries)) ≡ seen snapshot entries
seen_before snapshot stamp gone fresh entries l =
    seen-append snapshot (marked stamp gone entries) (map (new_entry stamp) fresh)
    ∙ ap (λ (ps : List (ℕ × Row)). ps ++ seen snapshot (map (new_entry stamp) fresh)) (marked_before snapshot stamp gone entries l)
    ∙ ap (λ (ps : List (ℕ × Row)). seen snapshot entries ++ ps) (fresh_before snapshot stamp fresh l) ∙ append-nil (seen snapshot entries)

pub seen_after : (snapshot stamp : ℕ) (gone : List ℕ) (fresh : List Fresh) (entries : List Entry) → stamp ≤ snapshot
    → seen snapshot (appended stamp fresh (marked stamp gone entries)) ≡ seen snapshot (filter (λ e. not (goes gone e)) entries) ++ map fresh_seen fresh
seen_after snapshot stamp gone fresh entries l =
    seen-append snapshot (marked stamp gone entries) (map (new_entry stamp) fresh)
    ∙ ap (λ (ps : List (ℕ × Row)). ps ++ seen snapshot (map (new_entry stamp) fresh)) (marked_after snapshot stamp gone entries l)
    ∙ ap (λ (ps : List (ℕ × Row)). seen snapshot (staying gone entries) ++ ps) (fresh_after snapshot stamp fresh l)
