-- A journal's events one by one: what is right up to a place, and the first place where something isn't.
use Rattle.std.proofs.Common.{◌≡◌, ℕ, zero, suc, ◌+◌, ◌-◌, ◌<◌, ◌≤◌, true, false, List, [], ◌∷◌, length, get_or, replicate, reverse, take, refl, sym, ap, subst, ◌∙◌, arith}
use Rattle.std.specs.Prelude.{Option, Some, None, slice_get, unwrap_or}
use Rattle.std.specs.FinMap as map_of
use Rattle.std.specs.List.{filter_map, range_with_len}
use Rattle.std.proofs.Math.Seq.{take-length}
use Rattle.std.proofs.lemmas.List.{length-replicate, reverse-append, take_more}
use Rattle.std.proofs.lemmas.Option.{get_or_from_slice_get, slice_get_within}
use Rattle.dw_journal.specs.declared.BlockState.TheVariants as blocks
use Rattle.dw_journal.specs.declared.Event.{Event}
use Rattle.dw_journal.specs.declared.Journal.{Journal}
use Rattle.dw_journal.specs.declared.World.{World}
use Rattle.dw_journal.specs.Worlds.{session_count}
use Rattle.dw_journal.specs.History.{History, events_of, has_ended, history_of, is_end, with_event}
use Rattle.dw_journal.specs.Transactions.{least_of, snapshot_of}
use Rattle.dw_journal.specs.Contents.{contents}
use Rattle.dw_journal.specs.Follows.{EachFollows, Follows, FollowsAfter}
use Rattle.dw_journal.specs.Legal.{EachIsLegal, IsLegal, IsLegalAfter}
use Rattle.dw_judge.specs.declared.sessions.Session.{Session}
use Rattle.dw_judge.specs.declared.summaries.Summary.{Summary}
use Rattle.dw_judge.specs.Readings.{newest_kept}
use Rattle.dw_judge.specs.Summaries.{IsKept, StandsFor}
use Rattle.dw_judge.proofs.Happening.{at_place}
use Rattle.dw_judge.specs.Verdicts.{AreRight, HasItsSessions, IsWanting, history_before}

-- one more event
pub reverse_next : (events : List Event) (place : ℕ) (event : Event) → slice_get events place ≡ Some event
    → reverse (take (place + 1) events) ≡ event ∷ reverse (take place events)
reverse_next events place event at =
    ap reverse (take_more events place event (slice_get_within events place event at)) ∙ reverse-append (take place events) (get_or events place event ∷ [])
    ∙ ap (λ (e : Event). e ∷ reverse (take place events)) (get_or_from_slice_get events place event event at)

pub before_next : (world : World) (journal : Journal) (place : ℕ) (event : Event) → slice_get journal.events place ≡ Some event
    → with_event (history_before world journal place) event ≡ history_before world journal (place + 1)
before_next world journal place event at =
    ap (λ (events : List Event). record { shape = journal.shape; world = world; events = events }) (sym (reverse_next journal.events place event at))

pub right_start : (world : World) (journal : Journal) → AreRight world journal 0
right_start world journal = record { follows = tt; legal = tt }

pub right_next : (world : World) (journal : Journal) (place : ℕ) (event : Event) → slice_get journal.events place ≡ Some event → AreRight world journal place
    → FollowsAfter (history_before world journal place) event → IsLegalAfter (history_before world journal place) event → AreRight world journal (place + 1)
right_next world journal place event at right follows legal = record {
  follows = subst (EachFollows journal.shape world) (sym (reverse_next journal.events place event at)) (follows, right.follows);
  legal = subst (EachIsLegal journal.shape world) (sym (reverse_next journal.events place event at)) (legal, right.legal);
}

-- and back
right_parts : (world : World) (journal : Journal) (place : ℕ) (event : Event) → slice_get journal.events place ≡ Some event → AreRight world journal (place + 1)
    → FollowsAfter (history_before world journal place) event × IsLegalAfter (history_before world journal place) event × AreRight world journal place
right_parts world journal place event at right =
    let follows = subst (EachFollows journal.shape world) (reverse_next journal.events place event at) right.follows in
    let legal = subst (EachIsLegal journal.shape world) (reverse_next journal.events place event at) right.legal in
    (follows.0, legal.0, record { follows = follows.1; legal = legal.1 })

stands_before : (events : List Event) (place bound : ℕ) → place < bound → bound ≤ length events → (event : Event) × (slice_get events place ≡ Some event)
stands_before [] place bound below within = absurd (omega arith)
stands_before (event ∷ events) zero bound below within = (event, refl)
stands_before (event ∷ events) (suc place) zero below within = absurd (omega arith)
stands_before (event ∷ events) (suc place) (suc bound) below within = stands_before events place bound (omega arith) (omega arith)

-- an event before a place up to which all are right is right
right_at : (world : World) (journal : Journal) (gap place bound : ℕ) (event : Event) → bound ≡ place + 1 + gap → bound ≤ length journal.events
    → slice_get journal.events place ≡ Some event → AreRight world journal bound
    → FollowsAfter (history_before world journal place) event × IsLegalAfter (history_before world journal place) event
right_at world journal zero place bound event is within at right =
    let parts = right_parts world journal place event at (subst (AreRight world journal) (omega (arith, is)) right) in (parts.0, parts.1)
right_at world journal (suc gap) place bound event is within at right =
    let last = stands_before journal.events (place + 1 + gap) bound (omega (arith, is)) within in
    let parts = right_parts world journal (place + 1 + gap) last.0 last.1 (subst (AreRight world journal) (omega (arith, is)) right) in
    right_at world journal gap place (place + 1 + gap) event refl (omega (arith, is)) at parts.2

pub right_below : (world : World) (journal : Journal) (place bound : ℕ) (event : Event) → place < bound → bound ≤ length journal.events
    → slice_get journal.events place ≡ Some event → AreRight world journal bound
    → FollowsAfter (history_before world journal place) event × IsLegalAfter (history_before world journal place) event
right_below world journal place bound event below within at right =
    right_at world journal (bound - (place + 1)) place bound event (omega arith) within at right

-- ---- all events
all_before : (journal : Journal) → reverse (take (length journal.events) journal.events) ≡ events_of journal
all_before journal = rw take-length refl

pub right_all : (world : World) (journal : Journal) → AreRight world journal (length journal.events) → IsLegal world journal
right_all world journal right = record {
  follows = subst (EachFollows journal.shape world) (all_before journal) right.follows;
  legal = subst (EachIsLegal journal.shape world) (all_before journal) right.legal;
}

pub all_right : (world : World) (journal : Journal) → IsLegal world journal → AreRight world journal (length journal.events)
all_right world journal legal = record {
  follows = subst (EachFollows journal.shape world) (sym (all_before journal)) legal.follows;
  legal = subst (EachIsLegal journal.shape world) (sym (all_before journal)) legal.legal;
}

pub history_all : (world : World) (journal : Journal) → history_before world journal (length journal.events) ≡ history_of world journal
history_all world journal = ap (λ (events : List Event). record { shape = journal.shape; world = world; events = events }) (all_before journal)

-- ---- nothing has happened yet
slice_get-replicate : {X : Type 0} (n i : ℕ) (x y : X) → slice_get (replicate n x) i ≡ Some y → y ≡ x
slice_get-replicate zero i x y is = cc
slice_get-replicate (suc n) zero x y is = cc
slice_get-replicate (suc n) (suc i) x y is = slice_get-replicate n i x y is

none_open : (sessions : List ℕ) → filter_map (λ (session : ℕ). snapshot_of session []) sessions ≡ []
none_open [] = refl
none_open (session ∷ sessions) = none_open sessions

pub stands_start : (world : World) (journal : Journal) (summary : Summary) (n : ℕ) → n ≡ session_count world
    → summary.sessions.items ≡ replicate (suc n) (record { taken = 0; block = blocks.Outside; newest = None; sweeps = false; transaction = None })
    → summary.horizons.items ≡ replicate (suc n) 0 → summary.commits.items ≡ [] → summary.database ≡ map_of.empty → summary.stamps.items ≡ []
    → StandsFor journal.events (history_before world journal 0) summary
stands_start world journal summary n all sessions_are horizons_are done_are newest stamps_are =
    let fresh : Session = record { taken = 0; block = blocks.Outside; newest = None; sweeps = false; transaction = None } in
    let start : History = record { shape = journal.shape; world = world; events = [] } in
    record {
      number = ap length sessions_are ∙ length-replicate (suc n) fresh ∙ ap suc all;
      as_many = ap length horizons_are ∙ length-replicate (suc n) 0 ∙ ap suc all;
      each = λ session kept at.
          let is : kept ≡ fresh = slice_get-replicate (suc n) session fresh kept (ap (λ (l : List Session). slice_get l session) (sym sessions_are) ∙ at) in
          subst (IsKept journal.events start session) (sym is) (record { taken = refl; block = refl; newest = refl; sweeps = refl; transaction = refl });
      horizons = λ session due at.
          slice_get-replicate (suc n) session 0 due (ap (λ (l : List ℕ). slice_get l session) (sym horizons_are) ∙ at)
          ∙ sym (ap (λ (l : List ℕ). unwrap_or (least_of l) 0) (none_open (range_with_len 1 (session_count world))));
      certified_are = ap reverse done_are;
      newest = newest;
      stamps = λ cluster. ap (λ (l : List (Option ℕ)). unwrap_or (slice_get l cluster) None) stamps_are;
    }

-- ---- the ends of scripts
pub ended_is : (events : List Event) (history : History) (session : ℕ) (kept : Session) → IsKept events history session kept → is_end (newest_kept events kept) ≡ has_ended session history.events
ended_is events history session kept is_kept = ap is_end is_kept.newest

module _ (world : World) (journal : Journal) (place : ℕ) (summary : Summary) (has : HasItsSessions world journal) (done : place ≡ length journal.events)
    (right : AreRight world journal place) (stands : StandsFor journal.events (history_before world journal place) summary) where
  right_end : AreRight world journal (length journal.events)
  right_end = subst (AreRight world journal) done right

  history_end : history_before world journal place ≡ history_of world journal
  history_end = ap (history_before world journal) done ∙ history_all world journal

  kept_ended : (session : ℕ) (kept : Session) → slice_get summary.sessions.items session ≡ Some kept
      → is_end (newest_kept journal.events kept) ≡ has_ended session (events_of journal)
  kept_ended session kept at =
      ended_is journal.events (history_before world journal place) session kept (stands.each session kept at)
      ∙ ap (λ (h : History). has_ended session h.events) history_end

  kept_there : (session : ℕ) → session < length summary.sessions.items → (kept : Session) × (slice_get summary.sessions.items session ≡ Some kept)
  kept_there session within = at_place summary.sessions.items session within

  pub is_wanting : (session : ℕ) → 1 ≤ session → session < length summary.sessions.items
      → ((kept : Session) → slice_get summary.sessions.items session ≡ Some kept → is_end (newest_kept journal.events kept) ≡ false) → IsWanting world journal
  is_wanting session some within goes_on =
      let here = kept_there session within in record {
        before = right_end;
        session = session;
        is_session = (some, omega (arith, within, stands.number));
        goes_on = sym (kept_ended session here.0 here.1) ∙ goes_on here.0 here.1;
      }

  pub passes : ((session : ℕ) → 1 ≤ session → (kept : Session) → slice_get summary.sessions.items session ≡ Some kept → is_end (newest_kept journal.events kept) ≡ true)
      → IsLegal world journal × Follows world journal × (summary.database ≡ contents (history_of world journal))
  passes ended =
      let legal = right_all world journal right_end in (
        legal,
        record {
          each = legal.follows;
          sessions = has;
          ends = λ session is_session.
              let here = kept_there session (omega (arith, is_session.1, stands.number)) in
              sym (kept_ended session here.0 here.1) ∙ ended session is_session.0 here.0 here.1;
        },
        stands.newest ∙ ap contents history_end,
      )
