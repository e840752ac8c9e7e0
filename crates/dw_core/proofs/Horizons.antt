-- The horizon, from what is kept of the sessions.
use Rattle.std.proofs.Common.{refl, ◌≡◌, ℕ, zero, suc, ◌+◌, ◌-◌, ◌<◌, ◌≤◌, min, max, List, [], ◌∷◌, ◌++◌, length, take, get_or, Bool, true, false, sym, ap, subst, ◌∙◌, arith}
use Rattle.std.specs.Prelude.{◌==◌, Option, Some, None, slice_get, unwrap_or, option_map}
use Rattle.std.specs.List.{cons_option, filter_map, fold, range_with_len}
use Rattle.std.proofs.lemmas.List.{take_more}
use Rattle.std.proofs.lemmas.Bool.{eqb-true, eqb-false}
use Rattle.dw_model.specs.declared.refusals.Refusal.TheVariants.{Memory}
use Rattle.dw_journal.specs.declared.Event.TheVariants.{Commit, Violation, Refuse}
use Rattle.dw_journal.specs.declared.Taken.{Taken}
use Rattle.dw_journal.specs.Worlds.{IsSession, session_count}
use Rattle.dw_journal.specs.History.{History, with_event}
use Rattle.dw_journal.specs.Transactions.{least_with, least_of, open_snapshots, horizon, commits, opened_statements, snapshot_of, snapshot_in, taken_over, transaction_of}
use Rattle.dw_journal.specs.Legal.{certified}
use Rattle.dw_ssn.specs.CommitList.{CommitList}
use Rattle.dw_ssn.specs.Summaries.{Summaries, StandsFor}
use Rattle.dw_core.specs.declared.sessions.Session.{Session}
use Rattle.dw_core.specs.declared.decisions.Committed.{Committed}
use Rattle.dw_core.specs.declared.decisions.Committed.TheVariants as decisions
use Rattle.dw_core.specs.CoreInvariant.{IsKept, IsWithin}
use Rattle.dw_core.specs.DueEvents.{decision_of}
use Rattle.dw_core.specs.Horizons.{kept_snapshot, least_among, settled}
use Rattle.dw_core.specs.Pruned.{pruned_at}
use Rattle.dw_core.proofs.CoreSteps.{commits_certified}

-- ---- the least of some numbers
least_min : (a b : ℕ) (numbers : List ℕ) → least_among (min a b) numbers ≡ min a (least_among b numbers)
least_min a b [] = refl
least_min a b (number ∷ numbers) = omega (arith, least_min a b numbers)

least_folded : (least : ℕ) (numbers : List ℕ) → fold least_with (Some least) numbers ≡ Some (least_among least numbers)
least_folded least [] = refl
least_folded least (number ∷ numbers) =
    least_folded (min least number) numbers
    ∙ ap Some (ap (λ (n : ℕ). least_among n numbers) (swapped least number) ∙ least_min number least numbers)
  where
    swapped : (a b : ℕ) → min a b ≡ min b a
    swapped a b = omega arith

-- the least one, where the number is no less than the first
least_or : (bound number : ℕ) (numbers : List ℕ) → number ≤ bound → unwrap_or (least_of (number ∷ numbers)) bound ≡ least_among bound (number ∷ numbers)
least_or bound number numbers le =
    ap (λ o. unwrap_or o bound) (least_folded number numbers)
    ∙ ap (λ (n : ℕ). least_among n numbers) (lesser number bound le)
    ∙ least_min number bound numbers
  where
    lesser : (a b : ℕ) → a ≤ b → a ≡ min a b
    lesser a b le = omega arith

pub least_push : (bound : ℕ) (numbers : List ℕ) (number : ℕ) → least_among bound (numbers ++ number ∷ []) ≡ min (least_among bound numbers) number
least_push bound [] number = omega arith
least_push bound (first ∷ numbers) number = omega (arith, least_push bound numbers number)

-- ---- one session more
filter_map_push : (sessions : List Session) (session : Session) → filter_map kept_snapshot (sessions ++ session ∷ []) ≡ filter_map kept_snapshot sessions ++ cons_option (kept_snapshot session) []
filter_map_push [] session = refl
filter_map_push (first ∷ sessions) session =
    ap (cons_option (kept_snapshot first)) (filter_map_push sessions session) ∙ onto (kept_snapshot first) (filter_map kept_snapshot sessions) (cons_option (kept_snapshot session) [])
  where
    onto : (number : Option ℕ) (xs ys : List ℕ) → cons_option number (xs ++ ys) ≡ cons_option number xs ++ ys
    onto None xs ys = refl
    onto (Some number) xs ys = refl

pub least_more : (bound : ℕ) (sessions : List Session) (i : ℕ) (one : Session) (number : Option ℕ) → i < length sessions → one ≡ get_or sessions i one → kept_snapshot one ≡ number
    → least_among bound (filter_map kept_snapshot (take (i + 1) sessions)) ≡ least_among bound (filter_map kept_snapshot (take i sessions) ++ cons_option number [])
least_more bound sessions i one number within is number_is =
    ap (λ (l : List Session). least_among bound (filter_map kept_snapshot l)) (take_more sessions i one within ∙ ap (λ (s : Session). take i sessions ++ s ∷ []) (sym is))
    ∙ ap (least_among bound) (filter_map_push (take i sessions) one ∙ ap (λ (n : Option ℕ). filter_map kept_snapshot (take i sessions) ++ cons_option n []) number_is)

-- ---- the sessions
module _ (history : History) where
  abbrev seen : ℕ → Option ℕ
  seen session = snapshot_of session history.events

  same_snapshot : (taken : Option Taken) (kept : Option Taken) → taken ≡ kept → option_map (λ taken. taken.snapshot) taken ≡ option_map (λ taken. taken.snapshot) kept
  same_snapshot taken kept is = ap (option_map (λ (taken : Taken). taken.snapshot)) is

  over_snapshot : (session : ℕ) (opened : List ℕ) (snapshot : Option ℕ) → option_map (λ taken. taken.snapshot) (option_map (taken_over history.world session opened) snapshot) ≡ snapshot
  over_snapshot session opened None = refl
  over_snapshot session opened (Some snapshot) = refl

  -- what is kept of a session's snapshot
  pub snapshot_kept : (session : ℕ) (kept : Session) → IsKept history session kept → kept_snapshot kept ≡ seen session
  snapshot_kept session kept is_kept =
      sym (same_snapshot _ _ is_kept.taken_is) ∙ over_snapshot session (opened_statements session history.events) (snapshot_in (transaction_of session history.events))

  range_more : (start many : ℕ) → filter_map seen (range_with_len start (suc many)) ≡ cons_option (seen start) (filter_map seen (range_with_len (start + 1) many))
  range_more start many = refl

  each_from : (start : ℕ) (sessions : List Session) → ((place : ℕ) (kept : Session) → slice_get sessions place ≡ Some kept → kept_snapshot kept ≡ seen (start + place))
      → filter_map kept_snapshot sessions ≡ filter_map seen (range_with_len start (length sessions))
  each_from start [] all = refl
  each_from start (session ∷ sessions) all =
      (λ k. cons_option ((all 0 session refl ∙ ap seen (first start)) k) (each_from (start + 1) sessions (λ place kept is. all (suc place) kept is ∙ ap seen (next start place)) k))
      ∙ sym (range_more start (length sessions))
    where
      first : (start : ℕ) → start + 0 ≡ start
      first start = omega arith

      next : (start place : ℕ) → start + suc place ≡ start + 1 + place
      next start place = omega arith

  -- the kept snapshots are those of the open transactions
  pub snapshots_kept : (sessions : List Session) → length sessions ≡ session_count history.world
      → ((session : ℕ) (kept : Session) → 1 ≤ session → slice_get sessions (session - 1) ≡ Some kept → IsKept history session kept)
      → filter_map kept_snapshot sessions ≡ open_snapshots (session_count history.world) history.events
  snapshots_kept sessions number each =
      each_from 1 sessions (λ place kept there. snapshot_kept (1 + place) kept (each (1 + place) kept (omega arith) (subst (λ (n : ℕ). slice_get sessions n ≡ Some kept) (back place) there)))
      ∙ ap (λ (n : ℕ). filter_map seen (range_with_len 1 n)) number
    where
      back : (place : ℕ) → place ≡ 1 + place - 1
      back place = omega arith

-- ---- the horizon
abbrev AreBetween : ℕ → ℕ → List ℕ → Type 0
AreBetween least most [] = Unit {0}
AreBetween least most (number ∷ numbers) = ((least ≤ number) × (number ≤ most)) × AreBetween least most numbers

between_cons : (least most : ℕ) (number : Option ℕ) (numbers : List ℕ) → IsWithin least most number → AreBetween least most numbers → AreBetween least most (cons_option number numbers)
between_cons least most None numbers here rest = rest
between_cons least most (Some number) numbers here rest = (here, rest)

least_above : (least most bound : ℕ) (numbers : List ℕ) → AreBetween least most numbers → least ≤ bound → least ≤ least_among bound numbers
least_above least most bound [] all le = le
least_above least most bound (number ∷ numbers) all le = omega (arith, least_above least most bound numbers all.1 le, all.0.0)

least_below : (least bound : ℕ) (numbers : List ℕ) → AreBetween least bound numbers → unwrap_or (least_of numbers) bound ≡ least_among bound numbers
least_below least bound [] all = refl
least_below least bound (number ∷ numbers) all = least_or bound number numbers all.0.1

cons_least : (bound : ℕ) (number : Option ℕ) (numbers : List ℕ) → least_among bound (cons_option number numbers) ≤ least_among bound numbers
cons_least bound None numbers = omega arith
cons_least bound (Some number) numbers = omega arith

module _ (seen : ℕ → Option ℕ) (least most : ℕ) where
  between_from : (start many : ℕ) → ((session : ℕ) → start ≤ session → session < start + many → IsWithin least most (seen session))
      → AreBetween least most (filter_map seen (range_with_len start many))
  between_from start zero all = tt
  between_from start (suc many) all =
      between_cons least most (seen start) (filter_map seen (range_with_len (start + 1) many)) (all start (omega arith) (omega arith))
      (between_from (start + 1) many (λ session low high. all session (omega arith) (omega arith)))

  least_member : (start many session snapshot : ℕ) → start ≤ session → session < start + many → seen session ≡ Some snapshot
      → least_among most (filter_map seen (range_with_len start many)) ≤ snapshot
  least_member start zero session snapshot low high is = absurd (omega arith)
  least_member start (suc many) session snapshot low high is = by_place (session == start) refl (least_member (start + 1) many session snapshot) where
    rest : List ℕ
    rest = filter_map seen (range_with_len (start + 1) many)

    here : (o : Option ℕ) → o ≡ Some snapshot → least_among most (cons_option o rest) ≤ snapshot
    here None is = cc
    here (Some number) is =
        let same : number ≡ snapshot = cc in
        omega (arith, same)

    by_place : (b : Bool) → (session == start) ≡ b
        → (start + 1 ≤ session → session < start + 1 + many → seen session ≡ Some snapshot → least_among most rest ≤ snapshot)
        → least_among most (cons_option (seen start) rest) ≤ snapshot
    by_place true same later = here (seen start) (ap seen (sym (eqb-true session start same)) ∙ is)
    by_place false other later =
        let apart : session ≡ start → ⊥ = eqb-false session start other in
        omega (arith, cons_least most (seen start) rest, later (omega (arith, apart)) (omega arith) is)

within_by : (least most : ℕ) (snapshot : Option ℕ) → ((n : ℕ) → snapshot ≡ Some n → least ≤ n) → (old : ℕ) → IsWithin old most snapshot → IsWithin least most snapshot
within_by least most None low old within = tt
within_by least most (Some n) low old within = (low n refl, within.1)

-- the horizon is among the commits that an open transaction may see
module _ (history : History) (oldest : ℕ)
    (within : (session : ℕ) → IsSession history.world session → IsWithin oldest (commits history.events) (snapshot_of session history.events)) where
  abbrev sessions : ℕ
  sessions = session_count history.world

  abbrev all : ℕ
  all = commits history.events

  between : AreBetween oldest all (open_snapshots sessions history.events)
  between = between_from (λ session. snapshot_of session history.events) oldest all 1 sessions (λ session low high. within session (low, omega arith))

  pub horizon_is : horizon sessions history.events ≡ least_among all (open_snapshots sessions history.events)
  horizon_is = least_below oldest all (open_snapshots sessions history.events) between

  pub horizon_above : oldest ≤ all → oldest ≤ horizon sessions history.events
  horizon_above le = omega (arith, horizon_is, least_above oldest all all (open_snapshots sessions history.events) between le)

  pub horizon_within : (session : ℕ) → IsSession history.world session → IsWithin (horizon sessions history.events) all (snapshot_of session history.events)
  horizon_within session is =
      within_by (horizon sessions history.events) all (snapshot_of session history.events)
      (λ n seen. omega (arith, horizon_is, least_member (λ session. snapshot_of session history.events) oldest all 1 sessions session n is.0 (omega (arith, is.1)) seen))
      oldest (within session is)

-- ---- after a decision the certifier stands where it should
module _ (history : History) (session k : ℕ) (oldest : ℕ) (before_is : oldest ≡ pruned_at history) where
  pub settled_stands : (certifier : Summaries) (result : Committed) (after : CommitList) (sessions : List Session)
      → StandsFor certifier (settled result (least_among (length after.commits) (filter_map kept_snapshot sessions)) after)
      → certified (with_event history (decision_of session k result)) ≡ after.commits → after.oldest ≡ oldest
      → filter_map kept_snapshot sessions ≡ open_snapshots (session_count history.world) (decision_of session k result ∷ history.events)
      → ((other : ℕ) → IsSession history.world other → IsWithin oldest (commits (decision_of session k result ∷ history.events)) (snapshot_of other (decision_of session k result ∷ history.events)))
      → oldest ≤ commits (decision_of session k result ∷ history.events)
      → StandsFor certifier (record { oldest = pruned_at (with_event history (decision_of session k result)); commits = certified (with_event history (decision_of session k result)) })
  settled_stands certifier (decisions.Stamped stamp low high) after sessions stands certified_is oldest_is open_is within among =
      let now = with_event history (Commit session k stamp low high) in
      let many : length after.commits ≡ commits now.events = sym (commits_certified now after.commits certified_is) in
      let least : least_among (length after.commits) (filter_map kept_snapshot sessions) ≡ horizon (session_count history.world) now.events =
      (λ k. least_among (many k) (open_is k)) ∙ sym (horizon_is now oldest within) in
      let raised : max after.oldest (least_among (length after.commits) (filter_map kept_snapshot sessions)) ≡ pruned_at now =
      omega (arith, least, oldest_is, horizon_above now oldest within among) in
      subst (StandsFor certifier) (λ k. record { oldest = raised k; commits = sym certified_is k }) stands
  settled_stands certifier (decisions.Violation low high object) after sessions stands certified_is oldest_is open_is within among =
      subst (StandsFor certifier) (λ k. record { oldest = (oldest_is ∙ before_is) k; commits = sym certified_is k }) stands
  settled_stands certifier decisions.Memory after sessions stands certified_is oldest_is open_is within among =
      subst (StandsFor certifier) (λ k. record { oldest = (oldest_is ∙ before_is) k; commits = sym certified_is k }) stands

  pub settled_open : (result : Committed)
      → ((other : ℕ) → IsSession history.world other → IsWithin oldest (commits (decision_of session k result ∷ history.events)) (snapshot_of other (decision_of session k result ∷ history.events)))
      → (other : ℕ) → IsSession history.world other
      → IsWithin (pruned_at (with_event history (decision_of session k result))) (commits (decision_of session k result ∷ history.events)) (snapshot_of other (decision_of session k result ∷ history.events))
  settled_open (decisions.Stamped stamp low high) within other is = horizon_within (with_event history (Commit session k stamp low high)) oldest within other is
  settled_open (decisions.Violation low high object) within other is =
      subst (λ (n : ℕ). IsWithin n (commits (Violation session k low high object ∷ history.events)) (snapshot_of other (Violation session k low high object ∷ history.events))) before_is (within other is)
  settled_open decisions.Memory within other is =
      subst (λ (n : ℕ). IsWithin n (commits (Refuse session k Memory ∷ history.events)) (snapshot_of other (Refuse session k Memory ∷ history.events))) before_is (within other is)
