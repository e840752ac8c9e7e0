-- Locks that are held already add nothing: with those that aren't, the same locks are held.
use Rattle.std.proofs.Common.{◌≡◌, ℕ, Bool, true, false, not, ◌&&◌, ◌||◌, List, [], ◌∷◌, ◌++◌, ap, sym, refl, ◌∙◌}
use Rattle.std.specs.Prelude.{if◌then◌else◌}
use Rattle.std.specs.List.{list_any}
use Rattle.std.proofs.lemmas.List.Folds.{list_any-append}
use Rattle.std.proofs.lemmas.Bool.{eqb-true}
use Rattle.dw_model.specs.Binding.{same_name}
use Rattle.dw_journal.specs.declared.locks.Mode.{Mode}
use Rattle.dw_journal.specs.declared.locks.Mode.TheVariants as mode
use Rattle.dw_journal.specs.declared.locks.Want.{Want}
use Rattle.dw_locks.specs.LockTable.{LockEntry, HaveSame, granted, not_held, same_lock, same_mode}

and_parts : (a b : Bool) → (a && b) ≡ true → (a ≡ true) × (b ≡ true)
and_parts true b is = (refl, is)
and_parts false b is = absurd (cc)

or_parts : (a b : Bool) → (a || b) ≡ true → (b ≡ true → a ≡ true) → a ≡ true
or_parts true b is later = refl
or_parts false b is later = later is

same_name-true : (a b : List ℕ) → same_name a b ≡ true → a ≡ b
same_name-true [] [] is = refl
same_name-true [] (y ∷ b) is = absurd (cc)
same_name-true (x ∷ a) [] is = absurd (cc)
same_name-true (x ∷ a) (y ∷ b) is =
    let parts = and_parts _ _ is in
    let first = eqb-true x y parts.0 in let rest = same_name-true a b parts.1 in cc

same_mode-true : (a b : Mode) → same_mode a b ≡ true → a ≡ b
same_mode-true mode.AccessShare mode.AccessShare is = refl
same_mode-true mode.AccessShare mode.ShareRowExclusive is = absurd (cc)
same_mode-true mode.AccessShare mode.AccessExclusive is = absurd (cc)
same_mode-true mode.ShareRowExclusive mode.AccessShare is = absurd (cc)
same_mode-true mode.ShareRowExclusive mode.ShareRowExclusive is = refl
same_mode-true mode.ShareRowExclusive mode.AccessExclusive is = absurd (cc)
same_mode-true mode.AccessExclusive mode.AccessShare is = absurd (cc)
same_mode-true mode.AccessExclusive mode.ShareRowExclusive is = absurd (cc)
same_mode-true mode.AccessExclusive mode.AccessExclusive is = refl

same_lock-true : (a b : Want) → same_lock a b ≡ true → a ≡ b
same_lock-true a b is =
    let parts = and_parts (same_name a.table b.table) (same_mode a.mode b.mode) is in
    let table = same_name-true a.table b.table parts.0 in
    let way = same_mode-true a.mode b.mode parts.1 in
    ap (λ table. record { table = table; mode = a.mode }) table ∙ ap (λ way. record { table = b.table; mode = way }) way

module _ (test : Want → Bool) where
  -- a lock that is held passes no test that no held lock passes
  passes_by : (want lock : Want) (held : List Want) (b : Bool) → same_lock want lock ≡ b → (b || list_any (same_lock want) held) ≡ true → test want ≡ true
      → (list_any (same_lock want) held ≡ true → test want ≡ true → list_any test held ≡ true) → (test lock || list_any test held) ≡ true
  passes_by want lock held true same is told later =
      let same_test : test lock ≡ true = ap test (sym (same_lock-true want lock same)) ∙ told in ap (λ b. b || list_any test held) same_test
  passes_by want lock held false same is told later = or_last (test lock) (list_any test held) (later is told)
    where
      or_last : (a b : Bool) → b ≡ true → (a || b) ≡ true
      or_last true b is = refl
      or_last false b is = is

  passes : (want : Want) (held : List Want) → list_any (same_lock want) held ≡ true → test want ≡ true → list_any test held ≡ true
  passes want [] is told = absurd (cc)
  passes want (lock ∷ held) is told = passes_by want lock held (same_lock want lock) refl is told (passes want held)

  joined : (h w n r : Bool) → (w ≡ true → h ≡ true) → (h || n) ≡ (h || r) → (h || n) ≡ (h || (w || r))
  joined true w n r within later = refl
  joined false true n r within later = absurd (not_both (within refl))
    where
      not_both : false ≡ true → ⊥
      not_both is = cc
  joined false false n r within later = later

  kept : (h w n r : Bool) → (h || n) ≡ (h || r) → (h || (w || n)) ≡ (h || (w || r))
  kept true w n r later = refl
  kept false true n r later = refl
  kept false false n r later = later

  one_by : (held : List Want) (want : Want) (wants : List Want) (b : Bool) → list_any (same_lock want) held ≡ b
      → (list_any test held || list_any test (not_held held wants)) ≡ (list_any test held || list_any test wants)
      → (list_any test held || list_any test (not_held held (want ∷ wants))) ≡ (list_any test held || (test want || list_any test wants))
  one_by held want wants true is later =
      ap (λ b. list_any test held || list_any test (if not b then want ∷ not_held held wants else not_held held wants)) is
      ∙ joined (list_any test held) (test want) (list_any test (not_held held wants)) (list_any test wants) (passes want held is) later
  one_by held want wants false is later =
      ap (λ b. list_any test held || list_any test (if not b then want ∷ not_held held wants else not_held held wants)) is
      ∙ kept (list_any test held) (test want) (list_any test (not_held held wants)) (list_any test wants) later

  told : (held wants : List Want) → (list_any test held || list_any test (not_held held wants)) ≡ (list_any test held || list_any test wants)
  told held [] = refl
  told held (want ∷ wants) = one_by held want wants (list_any (same_lock want) held) refl (told held wants)

pub grant_is : (entry : LockEntry) (wants : List Want) → HaveSame (granted wants entry).held (entry.held ++ wants)
grant_is entry wants test =
    list_any-append test entry.held (not_held entry.held wants) ∙ told test entry.held wants ∙ sym (list_any-append test entry.held wants)
