-- Each step keeps the rule of one history.
use Rattle.std.proofs.Common.{◌≡◌, ◌≢◌, ◌⊎◌, ℕ, zero, suc, ◌+◌, ◌%◌, ◌^◌, ◌<◌, ◌≤◌, Bool, true, false, Option, Some, None, List, [], ◌∷◌, ◌++◌, length, set, drop, slice_index, slice_set, Contains, refl, sym, ap, ◌∙◌, subst, inl, inr, ⊎_elim, arith, true≢false, length-set, length-append}
use Rattle.std.proofs.Math.Nat.{mod-add-mod}
use Rattle.std.proofs.Math.Seq.{drop-append_seam}
use Rattle.std.proofs.lemmas.List.Elements.{Contains-append_left, Contains-push, Contains-push_cases}
use native.Mathlib.Decide.{ℕ_discrete}
use mathlib.Core.Logic.{dite}
use mathlib.Core.Option.{some, none, some-injective, some-ne-none}
use lib.ListN.{get_elem?}
use mathlib.Core.Option as maybe
use Rattle.atomic_table.specs.Table.{State, Me, Act, Valid, Allows, Splits, Joins, stepped, carried_after, keeps, takes, gives}
use Rattle.atomic_table.proofs.Lists.{at_set, at_longer, set_again, set_here, set_else, one_turn}
use Rattle.dw_history.specs.declared.views.View.{View}
use Rattle.dw_history.specs.Histories.{IsFront, entries_of, AreOf}
use Rattle.dw_history.specs.Views.{spent_view, view_with_ticket, view_inside, view_after_turn, view_after_split, view_of_new, view_after_join}
use Rattle.dw_history.specs.Rule.{one_if_some, one_if, IsSeated, IsTakenIn, count_of_tickets, count_of_spent, AreApart, Fits, Counts, IsHome, IsOut, IsOneHistory}
use Rattle.dw_history.specs.Steps.{Draws, Looks, Advances}
use Rattle.dw_history.proofs.Fronts.{front_itself, front_empty, front_trans, front_more, longer_both, Longer, entries_grown, entries_kept}
use Rattle.dw_history.proofs.Seats.{some_value, at_length, at_end, sum_snoc, off, seated_set, seated_here, seated_else, one_view, waiting_le, waiting_set, spent_set}

some_same : (a b : ℕ) → ◌≡◌ {A = Option ℕ} (Some a) (Some b) → a ≡ b
some_same a b e = ap (elim [ None ↦ 0 | Some t ↦ t ]) e

some_none : (a : ℕ) → ◌≡◌ {A = Option ℕ} (Some a) None → ⊥
some_none a e = absurd (cc)

ticket_is : (ticket : Option ℕ) (n : ℕ) → Dec (ticket ≡ Some n)
ticket_is None n = no (λ e. some_none n (sym e))
ticket_is (Some ticket) n = elim (ℕ_discrete ticket n) [ yes e ↦ yes (ap (λ (m : ℕ). Some m) e) | no ne ↦ no (λ e. ne (some_same ticket n e)) ]

-- where a view keeps what it knows of the others, so do all
module _ {E G : Type 0} (number_of : E → ℕ) (history history' : List E) (views : List (View E G)) (id : ℕ) (v w : View E G) (at : get_elem? views id ≡ some v) (unspent : v.is_spent ≡ false) (still : w.is_spent ≡ false) (same : (n : ℕ) → n ≢ id → entries_of number_of n history' ≡ entries_of number_of n history) where
  taken_back : (n : ℕ) → IsTakenIn (set views id w) n → (n ≢ id) × IsTakenIn views n
  taken_back n t =
      ⊎_elim
      (λ (h : (n ≡ id) × (w ≡ t.0)). absurd (off (sym still ∙ (ap (λ (u : View E G). u.is_spent) h.1 ∙ t.2))))
      (λ (h : (n ≢ id) × (get_elem? views n ≡ some t.0)). (h.0, (t.0, h.1, t.2)))
      (at_set views id n w t.0 t.1)

  taken_on : (n : ℕ) → IsTakenIn views n → (n ≢ id) × IsTakenIn (set views id w) n
  taken_on n t =
      let apart : n ≢ id = λ e. off (sym unspent ∙ (ap (λ (u : View E G). u.is_spent) (one_view views n v t.0 (subst (λ k. get_elem? views k ≡ some v) (sym e) at) t.1) ∙ t.2)) in
      (apart, (t.0, set_else views id n w apart ∙ t.1, t.2))

  spent_same : count_of_spent (set views id w) ≡ count_of_spent views
  spent_same =
      let h = spent_set views id v w at in
      let a : one_if v.is_spent ≡ 0 = ap one_if unspent in
      let b : one_if w.is_spent ≡ 0 = ap one_if still in omega arith

  counts_after : (old new : View E G) → new.made ≡ old.made → new.joined ≡ old.joined → Counts number_of history views old → Counts number_of history' (set views id w) new
  counts_after old new made joined h = record {
    made = made ∙ (h.made ∙ sym (length-set views id w));
    taken = ap length joined ∙ (h.taken ∙ sym spent_same);
    kept = λ n entries has.
        let k = h.kept n entries (subst (λ j. Contains j (n, entries)) joined has) in
        let t = taken_on n k.1 in
        (same n t.0 ∙ k.0, t.1);
    found = λ n t.
        let b = taken_back n t in
        let f : Contains old.joined (n, entries_of number_of n history) = h.found n b.1 in
        subst (λ j. Contains j (n, entries_of number_of n history')) (sym joined) (subst (λ l. Contains old.joined (n, l)) (sym (same n b.0)) f);
  }

  first_after : w.made ≡ v.made → w.joined ≡ v.joined → ((view : View E G) → get_elem? views 0 ≡ some view → (view.is_spent ≡ false) × Counts number_of history views view)
      → (view : View E G) → get_elem? (set views id w) 0 ≡ some view → (view.is_spent ≡ false) × Counts number_of history' (set views id w) view
  first_after made joined first view e =
      ⊎_elim
      (λ (h : (0 ≡ id) × (w ≡ view)).
      let old = first v (subst (λ k. get_elem? views k ≡ some v) (sym h.0) at) in
      subst (λ (u : View E G). (u.is_spent ≡ false) × Counts number_of history' (set views id w) u) h.1 (still, counts_after v w made joined old.1))
      (λ (h : (0 ≢ id) × (get_elem? views 0 ≡ some view)).
      let old = first view h.1 in
      (old.0, counts_after view view refl refl old.1))
      (at_set views id 0 w view e)

-- the same view is inside with more passes waiting
fits_more : {E G : Type 0} (number_of : E → ℕ) (own : G) (history : List E) (turns few more seat : ℕ) (view : View E G) → few ≤ more → Fits number_of own history turns few seat view → Fits number_of own history turns more seat view
fits_more number_of own history turns few more seat view le f = record {
  number = f.number;
  stands = f.stands;
  seen = f.seen;
  met = f.met;
  mine = f.mine;
  drawn = λ t e. let p = f.drawn t e in (p.0, (let lt = p.1 in omega arith), p.2);
  inside = f.inside;
}

-- the longest view stays the longest where it is seen still
longest_after : {E G : Type 0} (views : List (View E G)) (id : ℕ) (v w : View E G) → get_elem? views id ≡ some v → w.is_spent ≡ false → (history : List E)
    → (v.seen ≡ history → w.seen ≡ history) → ((seat : ℕ) × (u : View E G) × IsSeated views seat u × (u.seen ≡ history)) → (seat : ℕ) × (u : View E G) × IsSeated (set views id w) seat u × (u.seen ≡ history)
longest_after {E} {G} views id v w at still history same l =
    dite
    (ℕ_discrete l.0 id)
    (λ e. (id, w, seated_here views id v w at still, same (ap (λ (x : View E G). x.seen) (one_view views id v l.1 at (subst (λ (n : ℕ). get_elem? views n ≡ some l.1) e l.2.0)) ∙ l.3)))
    (λ ne. (l.0, l.1, seated_else views id w l.0 l.1 ne l.2, l.3))

-- no two have one ticket where no view gets another
apart_after : {E G : Type 0} (views : List (View E G)) (id : ℕ) (v w : View E G) → get_elem? views id ≡ some v → v.is_spent ≡ false → ((ticket : ℕ) → w.ticket ≡ Some ticket → v.ticket ≡ Some ticket) → AreApart views → AreApart (set views id w)
apart_after {E} {G} views id v w at unspent kept apart seat other one two ticket h1 h2 e1 e2 =
    let a = back seat one h1 e1 in
    let b = back other two h2 e2 in
    apart seat other a.0 b.0 ticket a.1 b.1 a.2 b.2
  where
    back : (j : ℕ) (u : View E G) → IsSeated (set views id w) j u → u.ticket ≡ Some ticket → (x : View E G) × IsSeated views j x × (x.ticket ≡ Some ticket)
    back j u h e =
        ⊎_elim
        (λ (t : (j ≡ id) × (w ≡ u)). (v, (subst (λ (n : ℕ). get_elem? views n ≡ some v) (sym t.0) at, unspent), kept ticket (ap (λ (x : View E G). x.ticket) t.1 ∙ e)))
        (λ (t : (j ≢ id) × IsSeated views j u). (u, t.1, e))
        (seated_set views id w j u h)

-- of a seat that has a view
seated_same : {E G : Type 0} (views : List (View E G)) (seat id : ℕ) (u v : View E G) → IsSeated views seat u → get_elem? views id ≡ some v → seat ≡ id → u ≡ v
seated_same views seat id u v h at e = one_view views id u v (subst (λ (n : ℕ). get_elem? views n ≡ some u) e h.0) at

not_true : (b : Bool) → (b ≡ true → ⊥) → b ≡ false
not_true true no_way = absurd (no_way refl)
not_true false no_way = refl

clash : (b : Bool) → b ≡ false → b ≡ true → ⊥
clash b f t = off (sym f ∙ t)

abbrev value_in : {S : Type 0} → S → List (ℕ × Option S) → S
value_in d [] = d
value_in d ((n, None) ∷ xs) = d
value_in d ((n, Some v) ∷ xs) = v

pub same_value : {S : Type 0} (one other : S) → ◌≡◌ {A = List (ℕ × Option S)} ((0, Some one) ∷ []) ((0, Some other) ∷ []) → one ≡ other
same_value one other e = ap (value_in one) e

module _ {S E G : Type 0} (history_of : S → List E) (number_of : E → ℕ) (ground_of : S → G) (own : G) where
  abbrev Holds : State (Option S) (View E G) → Type 0
  Holds s = IsOneHistory history_of number_of ground_of own s

  -- a ticket that another draws is none that is out
  ticket_apart : (s : State (Option S) (View E G)) (k : Holds s) (seat : ℕ) (view : View E G) (ticket : ℕ) → IsSeated s.views seat view → view.ticket ≡ Some ticket → ticket ≡ (k.turns + count_of_tickets s.views) % 2 ^ 64 → ⊥
  ticket_apart s k seat view ticket h has e =
      let p = (k.fits seat view h).drawn ticket has in
      let place : ℕ = p.0 in let lt : place < count_of_tickets s.views = p.1 in
      let le = waiting_le s.views in let few = k.few in
      let small : k.turns + count_of_tickets s.views < (k.turns + place) + 2 ^ 64 = omega arith in
      let le' : k.turns + place ≤ k.turns + count_of_tickets s.views = omega arith in
      let same : k.turns + place ≡ k.turns + count_of_tickets s.views = one_turn (k.turns + place) (k.turns + count_of_tickets s.views) (2 ^ 64) le' small (sym p.2 ∙ e) in
      omega arith

  pub draws : (slots id : ℕ) (view : View E G) → view.is_spent ≡ false → view.ticket ≡ None → view.is_inside ≡ false → Allows Holds slots id (view, []) 1 (λ n. (n + 1) % 2 ^ 64) (Draws (view, []))
  draws slots id view unspent idle outside s k len at range =
      let found : ℕ = slice_index s.words 1 in
      let w : View E G = view_with_ticket view found in
      let views' : List (View E G) = set s.views id w in
      let found_is : found ≡ (k.turns + count_of_tickets s.views) % 2 ^ 64 = ap (λ (ws : List ℕ). slice_index ws 1) k.words in
      let counted : count_of_tickets views' ≡ count_of_tickets s.views + 1 = (let h = waiting_set s.views id view w at in let a : one_if_some view.ticket ≡ 0 = ap one_if_some idle in omega arith) in
      let fit = k.fits id view (at, unspent) in
      let more : count_of_tickets s.views ≤ count_of_tickets views' = omega arith in (
        w,
        keeps,
        tt,
        record {
          turns = k.turns;
          history = k.history;
          words =
              ap (λ (ws : List ℕ). slice_set ws 1 ((slice_index ws 1 + 1) % 2 ^ 64)) k.words
              ∙ ap (λ (n : ℕ). k.turns % 2 ^ 64 ∷ n ∷ []) (mod-add-mod (k.turns + count_of_tickets s.views) (2 ^ 64) 1 ∙ ap (λ (n : ℕ). n % 2 ^ 64) (let e : (k.turns + count_of_tickets s.views) + 1 ≡ k.turns + count_of_tickets views' = omega arith in e));
          few = (let f = k.few in let l = length-set s.views id w in omega arith);
          fits = λ seat u h.
              ⊎_elim
              (λ (t : (seat ≡ id) × (w ≡ u)).
              let mine : Fits number_of own k.history k.turns (count_of_tickets views') id w = record {
                number = fit.number;
                stands = fit.stands;
                seen = fit.seen;
                met = fit.met;
                mine = fit.mine;
                drawn = λ ticket e. (count_of_tickets s.views, (let c = counted in omega arith), sym (some_same found ticket e) ∙ found_is);
                inside = λ e. absurd (off (sym outside ∙ e));
              } in
              subst (λ (x : View E G). Fits number_of own k.history k.turns (count_of_tickets views') seat x) t.1 (subst (λ (n : ℕ). Fits number_of own k.history k.turns (count_of_tickets views') n w) (sym t.0) mine))
              (λ (t : (seat ≢ id) × IsSeated s.views seat u). fits_more number_of own k.history k.turns (count_of_tickets s.views) (count_of_tickets views') seat u more (k.fits seat u t.1))
              (seated_set s.views id w seat u h);
          apart = λ seat other one two ticket h1 h2 e1 e2.
              ⊎_elim
              (λ (t1 : (seat ≡ id) × (w ≡ one)).
              ⊎_elim
              (λ (t2 : (other ≡ id) × (w ≡ two)). t1.0 ∙ sym t2.0)
              (λ (t2 : (other ≢ id) × IsSeated s.views other two).
              let is : found ≡ ticket = some_same found ticket (ap (λ (x : View E G). x.ticket) t1.1 ∙ e1) in
              absurd (ticket_apart s k other two ticket t2.1 e2 (sym is ∙ found_is)))
              (seated_set s.views id w other two h2))
              (λ (t1 : (seat ≢ id) × IsSeated s.views seat one).
              ⊎_elim
              (λ (t2 : (other ≡ id) × (w ≡ two)).
              let is : found ≡ ticket = some_same found ticket (ap (λ (x : View E G). x.ticket) t2.1 ∙ e2) in
              absurd (ticket_apart s k seat one ticket t1.1 e1 (sym is ∙ found_is)))
              (λ (t2 : (other ≢ id) × IsSeated s.views other two). k.apart seat other one two ticket t1.1 t2.1 e1 e2)
              (seated_set s.views id w other two h2))
              (seated_set s.views id w seat one h1);
          longest = longest_after s.views id view w at unspent k.history (λ e. e) k.longest;
          first = first_after number_of k.history k.history s.views id view w at unspent unspent (λ n apart. refl) refl refl k.first;
          unmade = λ number le. k.unmade number (let l = length-set s.views id w in omega arith);
          value =
              ⊎_elim
              (λ (home : IsHome history_of ground_of own k.history s). inl (
                home.0,
                home.1,
                home.2,
                home.3,
                λ seat u h.
                    ⊎_elim
                    (λ (t : (seat ≡ id) × (w ≡ u)). sym (ap (λ (x : View E G). x.is_inside) t.1) ∙ outside)
                    (λ (t : (seat ≢ id) × IsSeated s.views seat u). home.4 seat u t.1)
                    (seated_set s.views id w seat u h),
              ))
              (λ (out : IsOut s). inr (
                out.0,
                out.1,
                seated_else s.views id w out.0 out.1 (λ e. off (sym outside ∙ (ap (λ (x : View E G). x.is_inside) (one_view s.views id view out.1 at (subst (λ (n : ℕ). get_elem? s.views n ≡ some out.1) e out.2.0)) ∙ out.3))) out.2,
                out.3,
                out.4,
              ))
              k.value;
        },
        refl,
      )

  -- the same for a seat that is known to hold no slot
  pub draws_at : (slots id : ℕ) (me : Me (Option S) (View E G)) → me.1 ≡ [] → me.0.is_spent ≡ false → me.0.ticket ≡ None → me.0.is_inside ≡ false → Allows Holds slots id me 1 (λ n. (n + 1) % 2 ^ 64) (Draws me)
  draws_at slots id me no_slot unspent idle outside =
      subst (λ (c : List (ℕ × Option S)). Allows Holds slots id (me.0, c) 1 (λ n. (n + 1) % 2 ^ 64) (Draws (me.0, c))) (sym no_slot) (draws slots id me.0 unspent idle outside)

  -- nothing changes
  unchanged : (s : State (Option S) (View E G)) (id : ℕ) (view : View E G) → Holds s → get_elem? s.views id ≡ some view → Holds (record { words = slice_set s.words 0 (slice_index s.words 0); homes = s.homes; views = set s.views id view })
  unchanged s id view k at =
      let words : slice_set s.words 0 (slice_index s.words 0) ≡ s.words = ap (λ (ws : List ℕ). slice_set ws 0 (slice_index ws 0)) k.words ∙ sym k.words in
      let views : set s.views id view ≡ s.views = set_again s.views id view at in
      subst Holds (sym (λ i. record { words = words i; homes = s.homes; views = views i })) k

  -- who has the ticket that is served takes the value
  enters : (s : State (Option S) (View E G)) (k : Holds s) (id : ℕ) (view : View E G) → get_elem? s.views id ≡ some view → view.is_spent ≡ false → view.is_inside ≡ false
      → view.ticket ≡ Some (k.turns % 2 ^ 64) → (home : IsHome history_of ground_of own k.history s)
      → Holds (record { words = slice_set s.words 0 (slice_index s.words 0); homes = slice_set s.homes 0 none; views = set s.views id (view_inside view (history_of home.0)) })
  enters s k id view at unspent outside has home =
      let w : View E G = view_inside view (history_of home.0) in
      let views' : List (View E G) = set s.views id w in
      let fit = k.fits id view (at, unspent) in
      let counted : count_of_tickets views' ≡ count_of_tickets s.views = (let h = waiting_set s.views id view w at in omega arith) in
      let less : count_of_tickets s.views ≤ count_of_tickets views' = omega arith in
      let whole : IsFront view.seen (history_of home.0) = subst (λ (l : List E). IsFront view.seen l) (sym home.2) fit.seen in record {
        turns = k.turns;
        history = k.history;
        words =
            ap (λ (ws : List ℕ). slice_set ws 0 (slice_index ws 0)) k.words
            ∙ ap (λ (n : ℕ). k.turns % 2 ^ 64 ∷ (k.turns + n) % 2 ^ 64 ∷ []) (sym counted);
        few = (let f = k.few in let l = length-set s.views id w in omega arith);
        fits = λ seat u h.
            ⊎_elim
            (λ (t : (seat ≡ id) × (w ≡ u)).
            let mine : Fits number_of own k.history k.turns (count_of_tickets views') id w = record {
              number = fit.number;
              stands = fit.stands;
              seen = subst (λ (l : List E). IsFront (history_of home.0) l) home.2 (front_itself (history_of home.0));
              met = (front_trans view.met.0 view.seen (history_of home.0) fit.met.0 whole, front_trans view.met.1 view.seen (history_of home.0) fit.met.1 whole);
              mine = fit.mine;
              drawn = λ ticket e. let p = fit.drawn ticket e in (p.0, (let lt = p.1 in omega arith), p.2);
              inside = λ e. (has, home.2);
            } in
            subst (λ (x : View E G). Fits number_of own k.history k.turns (count_of_tickets views') seat x) t.1 (subst (λ (n : ℕ). Fits number_of own k.history k.turns (count_of_tickets views') n w) (sym t.0) mine))
            (λ (t : (seat ≢ id) × IsSeated s.views seat u). fits_more number_of own k.history k.turns (count_of_tickets s.views) (count_of_tickets views') seat u less (k.fits seat u t.1))
            (seated_set s.views id w seat u h);
        apart = apart_after s.views id view w at unspent (λ ticket e. e) k.apart;
        longest = (id, w, seated_here s.views id view w at unspent, home.2);
        first = first_after number_of k.history k.history s.views id view w at unspent unspent (λ n apart. refl) refl refl k.first;
        unmade = λ number le. k.unmade number (let l = length-set s.views id w in omega arith);
        value = inr (id, w, seated_here s.views id view w at unspent, refl, ap (λ (hs : List (maybe.Option (Option S))). slice_set hs 0 none) home.1);
      }

  -- what a look tells, where the number is the ticket and where it is not
  looks_by : (slots id : ℕ) (view : View E G) → view.is_spent ≡ false → view.is_inside ≡ false → (s : State (Option S) (View E G)) (k : Holds s) → get_elem? s.views id ≡ some view → Dec (view.ticket ≡ Some (slice_index s.words 0))
      → (w : View E G) × (a : Act (Option S)) × Valid s.homes [] a × Holds (stepped s 0 (slice_index s.words 0) id [] w a) × Looks history_of number_of ground_of (view, []) (slice_index s.words 0) (w, carried_after [] a)
  looks_by slots id view unspent outside s k at (no apart) =
      let fit = k.fits id view (at, unspent) in
      (view, keeps, tt, unchanged s id view k at, ((λ e. absurd (apart e)), (λ _. (refl, fit.met.0, fit.met.1))))
  looks_by slots id view unspent outside s k at (yes same) =
      let found : slice_index s.words 0 ≡ k.turns % 2 ^ 64 = ap (λ (ws : List ℕ). slice_index ws 0) k.words in
      let served : view.ticket ≡ Some (k.turns % 2 ^ 64) = same ∙ ap (λ (n : ℕ). Some n) found in
      let fit = k.fits id view (at, unspent) in
      ⊎_elim
      (λ (home : IsHome history_of ground_of own k.history s). (
        view_inside view (history_of home.0),
        takes 0 (Some home.0),
        ap (λ (hs : List (maybe.Option (Option S))). get_elem? hs 0) home.1,
        enters s k id view at unspent outside served home,
        (
          (λ _. (
            home.0,
            refl,
            fit.stands ∙ ap (λ (x : G). Some x) (sym home.3),
            subst (λ (l : List E). IsFront view.seen l) (sym home.2) fit.seen,
            subst (λ (l : List E). entries_of number_of view.number l ≡ view.mine) (sym home.2) (subst (λ (n : ℕ). entries_of number_of n k.history ≡ view.mine) (sym fit.number) fit.mine),
          )),
          (λ ne. absurd (ne same)),
        ),
      ))
      (λ (out : IsOut s).
      let theirs = ((k.fits out.0 out.1 out.2).inside out.3).0 in
      let one : out.0 ≡ id = k.apart out.0 id out.1 view (k.turns % 2 ^ 64) out.2 (at, unspent) theirs served in
      absurd (clash view.is_inside outside (sym (ap (λ (x : View E G). x.is_inside) (seated_same s.views out.0 id out.1 view out.2 at one)) ∙ out.3)))
      k.value

  looks : (slots id : ℕ) (view : View E G) → view.is_spent ≡ false → view.is_inside ≡ false → Allows Holds slots id (view, []) 0 (λ n. n) (Looks history_of number_of ground_of (view, []))
  looks slots id view unspent outside s k len at range = looks_by slots id view unspent outside s k at (ticket_is view.ticket (slice_index s.words 0))

  pub looks_at : (slots id : ℕ) (me : Me (Option S) (View E G)) (view : View E G) (carried : List (ℕ × Option S)) → me ≡ (view, carried) → carried ≡ [] → view.is_spent ≡ false → view.is_inside ≡ false
      → Allows Holds slots id me 0 (λ n. n) (Looks history_of number_of ground_of me)
  looks_at slots id me view carried is no_slot unspent outside =
      subst (λ (m : Me (Option S) (View E G)). Allows Holds slots id m 0 (λ n. n) (Looks history_of number_of ground_of m)) (sym is)
      (subst (λ (c : List (ℕ × Option S)). Allows Holds slots id (view, c) 0 (λ n. n) (Looks history_of number_of ground_of (view, c))) (sym no_slot) (looks slots id view unspent outside))

  -- who has the value gives it back, with its own entries at the end of the history
  module _ (id : ℕ) (view : View E G) (value : S) (entries : List E) (unspent : view.is_spent ≡ false) (within : view.is_inside ≡ true) (stands : view.own_ground ≡ Some (ground_of value)) (grown : history_of value ≡ view.seen ++ entries) (all : AreOf number_of view.number entries) (s : State (Option S) (View E G)) (k : Holds s) (at : get_elem? s.views id ≡ some view) where
    abbrev left : View E G
    left = view_after_turn view (history_of value)

    abbrev now : List (View E G)
    now = set s.views id left

    abbrev fit : Fits number_of own k.history k.turns (count_of_tickets s.views) id view
    fit = k.fits id view (at, unspent)

    served : view.ticket ≡ Some (k.turns % 2 ^ 64)
    served = (fit.inside within).0

    seen_all : view.seen ≡ k.history
    seen_all = (fit.inside within).1

    longer_now : history_of value ≡ k.history ++ entries
    longer_now = grown ∙ ap (λ (l : List E). l ++ entries) seen_all

    one_less : count_of_tickets now + 1 ≡ count_of_tickets s.views
    one_less = let h = waiting_set s.views id view left at in let a : one_if_some view.ticket ≡ 1 = ap one_if_some served in omega arith

    -- nobody else has this ticket
    alone : (seat : ℕ) (u : View E G) → seat ≢ id → IsSeated s.views seat u → u.ticket ≡ Some (k.turns % 2 ^ 64) → ⊥
    alone seat u apart h e = apart (k.apart seat id u view (k.turns % 2 ^ 64) h (at, unspent) e served)

    others_same : (n : ℕ) → n ≢ id → entries_of number_of n (history_of value) ≡ entries_of number_of n k.history
    others_same n apart =
        ap (λ (l : List E). entries_of number_of n l) longer_now
        ∙ entries_kept number_of n view.number k.history entries all (λ e. apart (e ∙ fit.number))

    my_fit : Fits number_of own (history_of value) (k.turns + 1) (count_of_tickets now) id left
    my_fit = record {
      number = fit.number;
      stands = fit.stands;
      seen = front_itself (history_of value);
      met = (front_trans view.met.0 view.seen (history_of value) fit.met.0 (entries, grown), front_trans view.met.1 view.seen (history_of value) fit.met.1 (entries, grown));
      mine =
          ap (λ (l : List E). entries_of number_of id l) longer_now
          ∙ (entries_grown number_of id k.history entries (subst (λ (n : ℕ). AreOf number_of n entries) fit.number all)
          ∙ (ap (λ (l : List E). l ++ entries) fit.mine
          ∙ ap (λ (l : List E). view.mine ++ l) (sym (ap (λ (l : List E). drop (length view.seen) l) grown ∙ drop-append_seam view.seen entries))));
      drawn = λ ticket e. absurd (some_none ticket (sym e));
      inside = λ e. absurd (off e);
    }

    place_left : (place ticket : ℕ) → place < count_of_tickets s.views → ticket ≡ (k.turns + place) % 2 ^ 64 → (ticket ≡ k.turns % 2 ^ 64 → ⊥) → (rest : ℕ) × (rest < count_of_tickets now) × (ticket ≡ (k.turns + 1 + rest) % 2 ^ 64)
    place_left zero ticket lt e ne = absurd (ne (e ∙ ap (λ (n : ℕ). n % 2 ^ 64) (let h : k.turns + 0 ≡ k.turns = omega arith in h)))
    place_left (suc rest) ticket lt e ne = (rest, (let c = one_less in omega arith), e ∙ ap (λ (n : ℕ). n % 2 ^ 64) (let h : k.turns + suc rest ≡ k.turns + 1 + rest = omega arith in h))

    their_fit : (seat : ℕ) (u : View E G) → seat ≢ id → IsSeated s.views seat u → Fits number_of own (history_of value) (k.turns + 1) (count_of_tickets now) seat u
    their_fit seat u apart h =
        let f = k.fits seat u h in record {
          number = f.number;
          stands = f.stands;
          seen = subst (λ (l : List E). IsFront u.seen l) (sym longer_now) (front_more u.seen k.history entries f.seen);
          met = f.met;
          mine = others_same seat apart ∙ f.mine;
          drawn = λ ticket e. let p = f.drawn ticket e in place_left p.0 ticket p.1 p.2 (λ same. alone seat u apart h (e ∙ ap (λ (n : ℕ). Some n) same));
          inside = λ e. absurd (alone seat u apart h (f.inside e).0);
        }

    out_now : IsHome history_of ground_of own k.history s ⊎ IsOut s → s.homes ≡ none ∷ []
    out_now = ⊎_elim (λ home. absurd (clash view.is_inside (home.4 id view (at, unspent)) within)) (λ out. out.4)

    advanced_holds : (ticket : ℕ) → ticket ≡ k.turns % 2 ^ 64 → Holds (record { words = slice_set s.words 0 ((ticket + 1) % 2 ^ 64); homes = slice_set s.homes 0 (some (Some value)); views = now })
    advanced_holds ticket is = record {
      turns = k.turns + 1;
      history = history_of value;
      words =
          ap (λ (ws : List ℕ). slice_set ws 0 ((ticket + 1) % 2 ^ 64)) k.words
          ∙ (ap (λ (n : ℕ). (n + 1) % 2 ^ 64 ∷ (k.turns + count_of_tickets s.views) % 2 ^ 64 ∷ []) is
          ∙ (ap (λ (n : ℕ). n ∷ (k.turns + count_of_tickets s.views) % 2 ^ 64 ∷ []) (mod-add-mod k.turns (2 ^ 64) 1)
          ∙ ap (λ (n : ℕ). (k.turns + 1) % 2 ^ 64 ∷ n % 2 ^ 64 ∷ []) (let c = one_less in let h : k.turns + count_of_tickets s.views ≡ k.turns + 1 + count_of_tickets now = omega arith in h)));
      few = (let f = k.few in let l = length-set s.views id left in omega arith);
      fits = λ seat u h.
          ⊎_elim
          (λ (t : (seat ≡ id) × (left ≡ u)). subst (λ (x : View E G). Fits number_of own (history_of value) (k.turns + 1) (count_of_tickets now) seat x) t.1 (subst (λ (n : ℕ). Fits number_of own (history_of value) (k.turns + 1) (count_of_tickets now) n left) (sym t.0) my_fit))
          (λ (t : (seat ≢ id) × IsSeated s.views seat u). their_fit seat u t.0 t.1)
          (seated_set s.views id left seat u h);
      apart = apart_after s.views id view left at unspent (λ t e. absurd (some_none t (sym e))) k.apart;
      longest = (id, left, seated_here s.views id view left at unspent, refl);
      first = first_after number_of k.history (history_of value) s.views id view left at unspent unspent others_same refl refl k.first;
      unmade = λ number le.
          let l = length-set s.views id left in
          let le' : length s.views ≤ number = omega arith in
          let here = at_length s.views id view at in
          others_same number (λ e. let f : number ≡ id = e in absurd (omega arith)) ∙ k.unmade number le';
      value = inl (
        value,
        ap (λ (hs : List (maybe.Option (Option S))). slice_set hs 0 (some (Some value))) (out_now k.value),
        refl,
        some_value (sym stands ∙ fit.stands),
        λ seat u h.
            ⊎_elim
            (λ (t : (seat ≡ id) × (left ≡ u)). sym (ap (λ (x : View E G). x.is_inside) t.1))
            (λ (t : (seat ≢ id) × IsSeated s.views seat u). not_true u.is_inside (λ e. alone seat u t.0 t.1 ((k.fits seat u t.1).inside e).0))
            (seated_set s.views id left seat u h),
      );
    }

  left_with : (view : View E G) {one other : S} → one ≡ other → ◌≡◌ {A = Me (Option S) (View E G)} (view_after_turn view (history_of one), []) (view_after_turn view (history_of other), [])
  left_with view e = λ i. (view_after_turn view (history_of (e i)), [])

  pub advances : (slots id : ℕ) (view : View E G) (ticket : ℕ) (value : S) (entries : List E) → view.is_spent ≡ false → view.ticket ≡ Some ticket → view.is_inside ≡ true → view.own_ground ≡ Some (ground_of value)
      → history_of value ≡ view.seen ++ entries → AreOf number_of view.number entries
      → Allows Holds slots id (view, (0, Some value) ∷ []) 0 (λ _. (ticket + 1) % 2 ^ 64) (λ _. Advances history_of (view, (0, Some value) ∷ []))
  advances slots id view ticket value entries unspent has within stands grown all s k len at range =
      let is : ticket ≡ k.turns % 2 ^ 64 = some_same ticket (k.turns % 2 ^ 64) (sym has ∙ ((k.fits id view (at, unspent)).inside within).0) in (
        view_after_turn view (history_of value),
        gives,
        tt,
        advanced_holds id view value entries unspent within stands grown all s k at ticket is,
        λ other e. left_with view (ap (value_in value) e),
      )

  pub advances_at : (slots id : ℕ) (me : Me (Option S) (View E G)) (ticket : ℕ) (value : S) (entries : List E) → me.1 ≡ (0, Some value) ∷ [] → me.0.is_spent ≡ false → me.0.ticket ≡ Some ticket → me.0.is_inside ≡ true → me.0.own_ground ≡ Some (ground_of value)
      → history_of value ≡ me.0.seen ++ entries → AreOf number_of me.0.number entries
      → Allows Holds slots id me 0 (λ _. (ticket + 1) % 2 ^ 64) (λ _. Advances history_of me)
  advances_at slots id me ticket value entries holds unspent has within stands grown all =
      subst (λ (c : List (ℕ × Option S)). Allows Holds slots id (me.0, c) 0 (λ _. (ticket + 1) % 2 ^ 64) (λ _. Advances history_of (me.0, c))) (sym holds) (advances slots id me.0 ticket value entries unspent has within stands grown all)

  -- the pass 0 makes one more
  module _ (id : ℕ) (view : View E G) (unspent : view.is_spent ≡ false) (zeroth : view.number ≡ 0) (outside : view.is_inside ≡ false) (s : State (Option S) (View E G)) (k : Holds s) (at : get_elem? s.views id ≡ some view) (room : view.made + 1 < 2 ^ 32) where
    abbrev maker : View E G
    maker = view_after_split view

    abbrev newcomer : View E G
    newcomer = view_of_new view

    abbrev between_them : List (View E G)
    between_them = set s.views id maker

    abbrev all_now : List (View E G)
    all_now = between_them ++ newcomer ∷ []

    abbrev split_fit : Fits number_of own k.history k.turns (count_of_tickets s.views) id view
    split_fit = k.fits id view (at, unspent)

    here_zero : id ≡ 0
    here_zero = sym split_fit.number ∙ zeroth

    known_first : (view.is_spent ≡ false) × Counts number_of k.history s.views view
    known_first = k.first view (subst (λ (n : ℕ). get_elem? s.views n ≡ some view) here_zero at)

    length_same : length between_them ≡ length s.views
    length_same = length-set s.views id maker

    length_now : length all_now ≡ length s.views + 1
    length_now = let a = length-append between_them (newcomer ∷ []) in let b = length_same in omega arith

    waiting_same : count_of_tickets all_now ≡ count_of_tickets s.views
    waiting_same =
        let a : count_of_tickets all_now ≡ count_of_tickets between_them + 0 = sum_snoc (λ (u : View E G). one_if_some u.ticket) between_them newcomer in
        let b = waiting_set s.views id view maker at in omega arith

    spent_now : count_of_spent all_now ≡ count_of_spent s.views
    spent_now =
        let a : count_of_spent all_now ≡ count_of_spent between_them + 0 = sum_snoc (λ (u : View E G). one_if u.is_spent) between_them newcomer in
        let b = spent_set s.views id view maker at in omega arith

    seated_now : (seat : ℕ) (u : View E G) → IsSeated all_now seat u → IsSeated between_them seat u ⊎ ((seat ≡ length s.views) × (newcomer ≡ u))
    seated_now seat u h =
        ⊎_elim
        (λ (e : get_elem? between_them seat ≡ some u). inl (e, h.1))
        (λ (e : (seat ≡ length between_them) × (newcomer ≡ u)). inr (e.0 ∙ length_same, e.1))
        (at_end between_them newcomer u seat h.0)

    seated_on : (seat : ℕ) (u : View E G) → IsSeated between_them seat u → IsSeated all_now seat u
    seated_on seat u h = (at_longer between_them (newcomer ∷ []) seat u h.0, h.1)

    made_fit : Fits number_of own k.history k.turns (count_of_tickets all_now) (length s.views) newcomer
    made_fit = record {
      number = (known_first.1).made;
      stands = split_fit.stands;
      seen = split_fit.seen;
      met = (front_empty view.seen, front_empty view.seen);
      mine = k.unmade (length s.views) (omega arith);
      drawn = λ ticket e. absurd (some_none ticket (sym e));
      inside = λ e. absurd (off e);
    }

    maker_fit : Fits number_of own k.history k.turns (count_of_tickets s.views) id maker
    maker_fit = record {
      number = split_fit.number;
      stands = split_fit.stands;
      seen = split_fit.seen;
      met = split_fit.met;
      mine = split_fit.mine;
      drawn = split_fit.drawn;
      inside = split_fit.inside;
    }

    taken_in_back : (n : ℕ) → IsTakenIn all_now n → (n ≢ id) × IsTakenIn s.views n
    taken_in_back n t =
        ⊎_elim
        (λ (e : get_elem? between_them n ≡ some t.0). taken_back number_of k.history k.history s.views id view maker at unspent unspent (λ m apart. refl) n (t.0, e, t.2))
        (λ (e : (n ≡ length between_them) × (newcomer ≡ t.0)). absurd (off (ap (λ (x : View E G). x.is_spent) e.1 ∙ t.2)))
        (at_end between_them newcomer t.0 n t.1)

    taken_in_on : (n : ℕ) → IsTakenIn s.views n → IsTakenIn all_now n
    taken_in_on n t =
        let h = (taken_on number_of k.history k.history s.views id view maker at unspent unspent (λ m apart. refl) n t).1 in
        (h.0, at_longer between_them (newcomer ∷ []) n h.0 h.1, h.2)

    maker_counts : Counts number_of k.history all_now maker
    maker_counts =
        let old = known_first.1 in record {
          made = ap (λ (n : ℕ). n + 1) old.made ∙ sym length_now;
          taken = old.taken ∙ sym spent_now;
          kept = λ n entries has. let h = old.kept n entries has in (h.0, taken_in_on n h.1);
          found = λ n t. old.found n (taken_in_back n t).1;
        }

    between_apart : AreApart between_them
    between_apart = apart_after s.views id view maker at unspent (λ ticket e. e) k.apart

    no_ticket_made : (u : View E G) (ticket : ℕ) → newcomer ≡ u → u.ticket ≡ Some ticket → ⊥
    no_ticket_made u ticket same e = some_none ticket (sym (ap (λ (x : View E G). x.ticket) same ∙ e))

    split_holds : Holds (record { words = s.words; homes = s.homes; views = all_now })
    split_holds = record {
      turns = k.turns;
      history = k.history;
      words = k.words ∙ ap (λ (n : ℕ). k.turns % 2 ^ 64 ∷ (k.turns + n) % 2 ^ 64 ∷ []) (sym waiting_same);
      few = (let a = length_now in let m = (known_first.1).made in omega arith);
      fits = λ seat u h.
          ⊎_elim
          (λ (old : IsSeated between_them seat u). subst (λ (n : ℕ). Fits number_of own k.history k.turns n seat u) (sym waiting_same)
          (⊎_elim
          (λ (t : (seat ≡ id) × (maker ≡ u)). subst (λ (x : View E G). Fits number_of own k.history k.turns (count_of_tickets s.views) seat x) t.1 (subst (λ (n : ℕ). Fits number_of own k.history k.turns (count_of_tickets s.views) n maker) (sym t.0) maker_fit))
          (λ (t : (seat ≢ id) × IsSeated s.views seat u). k.fits seat u t.1)
          (seated_set s.views id maker seat u old)))
          (λ (new : (seat ≡ length s.views) × (newcomer ≡ u)). subst (λ (x : View E G). Fits number_of own k.history k.turns (count_of_tickets all_now) seat x) new.1 (subst (λ (n : ℕ). Fits number_of own k.history k.turns (count_of_tickets all_now) n newcomer) (sym new.0) made_fit))
          (seated_now seat u h);
      apart = λ seat other one two ticket h1 h2 e1 e2.
          ⊎_elim
          (λ (a : IsSeated between_them seat one).
          ⊎_elim
          (λ (b : IsSeated between_them other two). between_apart seat other one two ticket a b e1 e2)
          (λ (b : (other ≡ length s.views) × (newcomer ≡ two)). absurd (no_ticket_made two ticket b.1 e2))
          (seated_now other two h2))
          (λ (a : (seat ≡ length s.views) × (newcomer ≡ one)). absurd (no_ticket_made one ticket a.1 e1))
          (seated_now seat one h1);
      longest =
          let l = longest_after s.views id view maker at unspent k.history (λ e. e) k.longest in
          (l.0, l.1, seated_on l.0 l.1 l.2, l.3);
      first = λ u e.
          let here : get_elem? all_now 0 ≡ some maker = subst (λ (n : ℕ). get_elem? all_now n ≡ some maker) here_zero (seated_on id maker (seated_here s.views id view maker at unspent)).0 in
          subst (λ (x : View E G). (x.is_spent ≡ false) × Counts number_of k.history all_now x) (one_view all_now 0 maker u here e) (unspent, maker_counts);
      unmade = λ number le. k.unmade number (let a = length_now in omega arith);
      value =
          ⊎_elim
          (λ (home : IsHome history_of ground_of own k.history s). inl (
            home.0,
            home.1,
            home.2,
            home.3,
            λ seat u h.
                ⊎_elim
                (λ (old : IsSeated between_them seat u).
                ⊎_elim
                (λ (t : (seat ≡ id) × (maker ≡ u)). sym (ap (λ (x : View E G). x.is_inside) t.1) ∙ outside)
                (λ (t : (seat ≢ id) × IsSeated s.views seat u). home.4 seat u t.1)
                (seated_set s.views id maker seat u old))
                (λ (new : (seat ≡ length s.views) × (newcomer ≡ u)). sym (ap (λ (x : View E G). x.is_inside) new.1))
                (seated_now seat u h),
          ))
          (λ (out : IsOut s). inr (
            out.0,
            out.1,
            seated_on out.0 out.1 (seated_else s.views id maker out.0 out.1 (λ e. clash view.is_inside outside (sym (ap (λ (x : View E G). x.is_inside) (seated_same s.views out.0 id out.1 view out.2 at e)) ∙ out.3)) out.2),
            out.3,
            out.4,
          ))
          k.value;
    }

  pub makes : (id : ℕ) (view : View E G) → view.is_spent ≡ false → view.number ≡ 0 → view.is_inside ≡ false → view.made + 1 < 2 ^ 32 → Splits Holds id view (view_after_split view) (view_of_new view)
  makes id view unspent zeroth outside room s k at = split_holds id view unspent zeroth outside s k at room

  -- the pass 0 takes another in
  module _ (id : ℕ) (view : View E G) (other : ℕ) (w : View E G) (unspent : view.is_spent ≡ false) (zeroth : view.number ≡ 0) (idle : view.ticket ≡ None) (outside : view.is_inside ≡ false)
      (unspent' : w.is_spent ≡ false) (idle' : w.ticket ≡ None) (outside' : w.is_inside ≡ false)
      (s : State (Option S) (View E G)) (k : Holds s) (at : get_elem? s.views id ≡ some view) (apart : other ≢ id) (there : get_elem? (set s.views id (view_after_join view w)) other ≡ some w) where
    abbrev taker : View E G
    taker = view_after_join view w

    abbrev half : List (View E G)
    half = set s.views id taker

    abbrev joint_now : List (View E G)
    joint_now = set half other spent_view

    there_before : get_elem? s.views other ≡ some w
    there_before = sym (set_else s.views id other taker apart) ∙ there

    my_own : Fits number_of own k.history k.turns (count_of_tickets s.views) id view
    my_own = k.fits id view (at, unspent)

    theirs_own : Fits number_of own k.history k.turns (count_of_tickets s.views) other w
    theirs_own = k.fits other w (there_before, unspent')

    zero_here : id ≡ 0
    zero_here = sym my_own.number ∙ zeroth

    old_first : Counts number_of k.history s.views view
    old_first = (k.first view (subst (λ (n : ℕ). get_elem? s.views n ≡ some view) zero_here at)).1

    two_fronts : Longer view.seen w.seen k.history taker.seen
    two_fronts = longer_both view.seen w.seen k.history my_own.seen theirs_own.seen

    lengths : length joint_now ≡ length s.views
    lengths = length-set half other spent_view ∙ length-set s.views id taker

    waits_same : count_of_tickets joint_now ≡ count_of_tickets s.views
    waits_same =
        let a = waiting_set half other w spent_view there in
        let a' : one_if_some w.ticket ≡ 0 = ap one_if_some idle' in
        let b = waiting_set s.views id view taker at in omega arith

    spent_more : count_of_spent joint_now ≡ count_of_spent s.views + 1
    spent_more =
        let a = spent_set half other w spent_view there in
        let a' : one_if w.is_spent ≡ 0 = ap one_if unspent' in
        let b = spent_set s.views id view taker at in omega arith

    joint_seated : (seat : ℕ) (u : View E G) → IsSeated joint_now seat u → ((seat ≡ id) × (taker ≡ u)) ⊎ ((seat ≢ id) × (seat ≢ other) × IsSeated s.views seat u)
    joint_seated seat u h =
        ⊎_elim
        (λ (t : (seat ≡ other) × (spent_view ≡ u)). absurd (true≢false (ap (λ (x : View E G). x.is_spent) t.1 ∙ h.1)))
        (λ (t : (seat ≢ other) × IsSeated half seat u).
        ⊎_elim
        (λ (r : (seat ≡ id) × (taker ≡ u)). inl r)
        (λ (r : (seat ≢ id) × IsSeated s.views seat u). inr (r.0, t.0, r.1))
        (seated_set s.views id taker seat u t.1))
        (seated_set half other spent_view seat u h)

    joint_on : (seat : ℕ) (u : View E G) → seat ≢ id → seat ≢ other → IsSeated s.views seat u → IsSeated joint_now seat u
    joint_on seat u ne ne' h = seated_else half other spent_view seat u ne' (seated_else s.views id taker seat u ne h)

    taker_on : IsSeated joint_now id taker
    taker_on = seated_else half other spent_view id taker (λ e. apart (sym e)) (seated_here s.views id view taker at unspent)

    taker_fit : Fits number_of own k.history k.turns (count_of_tickets joint_now) id taker
    taker_fit = record {
      number = my_own.number;
      stands = my_own.stands;
      seen = two_fronts.in_whole;
      met = (two_fronts.one, two_fronts.other);
      mine = my_own.mine;
      drawn = λ ticket e. absurd (some_none ticket (sym e ∙ idle));
      inside = λ e. absurd (clash view.is_inside outside e);
    }

    all_taken_on : (n : ℕ) → IsTakenIn s.views n → IsTakenIn joint_now n
    all_taken_on n t =
        let ne : n ≢ id = λ e. clash view.is_spent unspent (ap (λ (x : View E G). x.is_spent) (one_view s.views id view t.0 at (subst (λ (m : ℕ). get_elem? s.views m ≡ some t.0) e t.1)) ∙ t.2) in
        let ne' : n ≢ other = λ e. clash w.is_spent unspent' (ap (λ (x : View E G). x.is_spent) (one_view s.views other w t.0 there_before (subst (λ (m : ℕ). get_elem? s.views m ≡ some t.0) e t.1)) ∙ t.2) in
        (t.0, set_else half other n spent_view ne' ∙ (set_else s.views id n taker ne ∙ t.1), t.2)

    all_taken_back : (n : ℕ) → IsTakenIn joint_now n → (n ≡ other) ⊎ IsTakenIn s.views n
    all_taken_back n t =
        ⊎_elim
        (λ (r : (n ≡ other) × (spent_view ≡ t.0)). inl r.0)
        (λ (r : (n ≢ other) × (get_elem? half n ≡ some t.0)).
        ⊎_elim
        (λ (q : (n ≡ id) × (taker ≡ t.0)). absurd (clash view.is_spent unspent (ap (λ (x : View E G). x.is_spent) q.1 ∙ t.2)))
        (λ (q : (n ≢ id) × (get_elem? s.views n ≡ some t.0)). inr (t.0, q.1, t.2))
        (at_set s.views id n taker t.0 r.1))
        (at_set half other n spent_view t.0 t.1)

    other_taken : IsTakenIn joint_now other
    other_taken = (spent_view, set_here half other spent_view (at_length half other w there), refl)

    pair_is : (n : ℕ) (entries : List E) → ◌≡◌ {A = ℕ × List E} (w.number, w.mine) (n, entries) → (n ≡ other) × (entries ≡ w.mine)
    pair_is n entries e = (sym (ap (λ (x : ℕ × List E). x.0) e) ∙ theirs_own.number, sym (ap (λ (x : ℕ × List E). x.1) e))

    taker_counts : Counts number_of k.history joint_now taker
    taker_counts = record {
      made = old_first.made ∙ sym lengths;
      taken = length-append view.joined ((w.number, w.mine) ∷ []) ∙ (ap (λ (n : ℕ). n + 1) old_first.taken ∙ sym spent_more);
      kept = λ n entries has.
          ⊎_elim
          (λ (h : Contains view.joined (n, entries)). let old = old_first.kept n entries h in (old.0, all_taken_on n old.1))
          (λ (e : (w.number, w.mine) ≡ (n, entries)).
          let p = pair_is n entries e in
          (ap (λ (m : ℕ). entries_of number_of m k.history) p.0 ∙ (theirs_own.mine ∙ sym p.1), subst (λ (m : ℕ). IsTakenIn joint_now m) (sym p.0) other_taken))
          (Contains-push_cases view.joined (w.number, w.mine) (n, entries) has);
      found = λ n t.
          ⊎_elim
          (λ (e : n ≡ other).
          subst
          (λ (x : ℕ × List E). Contains taker.joined x)
          (λ i. ((theirs_own.number ∙ sym e) i, (sym theirs_own.mine ∙ ap (λ (m : ℕ). entries_of number_of m k.history) (sym e)) i))
          (Contains-push view.joined (w.number, w.mine)))
          (λ (old : IsTakenIn s.views n). Contains-append_left view.joined ((w.number, w.mine) ∷ []) (n, entries_of number_of n k.history) (old_first.found n old))
          (all_taken_back n t);
    }

    joint_longest : (l : (seat : ℕ) × (u : View E G) × IsSeated s.views seat u × (u.seen ≡ k.history)) → Dec (l.0 ≡ id) → Dec (l.0 ≡ other) → (seat : ℕ) × (u : View E G) × IsSeated joint_now seat u × (u.seen ≡ k.history)
    joint_longest l (yes e) d = (id, taker, taker_on, two_fronts.whole_if_one (sym (ap (λ (x : View E G). x.seen) (seated_same s.views l.0 id l.1 view l.2 at e)) ∙ l.3))
    joint_longest l (no ne) (yes e) = (id, taker, taker_on, two_fronts.whole_if_other (sym (ap (λ (x : View E G). x.seen) (seated_same s.views l.0 other l.1 w l.2 there_before e)) ∙ l.3))
    joint_longest l (no ne) (no ne') = (l.0, l.1, joint_on l.0 l.1 ne ne' l.2, l.3)

    joint_holds : Holds (record { words = s.words; homes = s.homes; views = joint_now })
    joint_holds = record {
      turns = k.turns;
      history = k.history;
      words = k.words ∙ ap (λ (n : ℕ). k.turns % 2 ^ 64 ∷ (k.turns + n) % 2 ^ 64 ∷ []) (sym waits_same);
      few = (let f = k.few in let l = lengths in omega arith);
      fits = λ seat u h.
          ⊎_elim
          (λ (t : (seat ≡ id) × (taker ≡ u)). subst (λ (x : View E G). Fits number_of own k.history k.turns (count_of_tickets joint_now) seat x) t.1 (subst (λ (n : ℕ). Fits number_of own k.history k.turns (count_of_tickets joint_now) n taker) (sym t.0) taker_fit))
          (λ (t : (seat ≢ id) × (seat ≢ other) × IsSeated s.views seat u). subst (λ (n : ℕ). Fits number_of own k.history k.turns n seat u) (sym waits_same) (k.fits seat u t.2))
          (joint_seated seat u h);
      apart = λ seat seat' one two ticket h1 h2 e1 e2.
          ⊎_elim
          (λ (a : (seat ≡ id) × (taker ≡ one)). absurd (some_none ticket (sym (ap (λ (x : View E G). x.ticket) a.1 ∙ e1) ∙ idle)))
          (λ (a : (seat ≢ id) × (seat ≢ other) × IsSeated s.views seat one).
          ⊎_elim
          (λ (b : (seat' ≡ id) × (taker ≡ two)). absurd (some_none ticket (sym (ap (λ (x : View E G). x.ticket) b.1 ∙ e2) ∙ idle)))
          (λ (b : (seat' ≢ id) × (seat' ≢ other) × IsSeated s.views seat' two). k.apart seat seat' one two ticket a.2 b.2 e1 e2)
          (joint_seated seat' two h2))
          (joint_seated seat one h1);
      longest = joint_longest k.longest (ℕ_discrete (k.longest).0 id) (ℕ_discrete (k.longest).0 other);
      first = λ u e.
          let here : get_elem? joint_now 0 ≡ some taker = subst (λ (n : ℕ). get_elem? joint_now n ≡ some taker) zero_here taker_on.0 in
          subst (λ (x : View E G). (x.is_spent ≡ false) × Counts number_of k.history joint_now x) (one_view joint_now 0 taker u here e) (unspent, taker_counts);
      unmade = λ number le. k.unmade number (let l = lengths in omega arith);
      value =
          ⊎_elim
          (λ (home : IsHome history_of ground_of own k.history s). inl (
            home.0,
            home.1,
            home.2,
            home.3,
            λ seat u h.
                ⊎_elim
                (λ (t : (seat ≡ id) × (taker ≡ u)). sym (ap (λ (x : View E G). x.is_inside) t.1) ∙ outside)
                (λ (t : (seat ≢ id) × (seat ≢ other) × IsSeated s.views seat u). home.4 seat u t.2)
                (joint_seated seat u h),
          ))
          (λ (out : IsOut s). inr (
            out.0,
            out.1,
            joint_on out.0 out.1
                (λ e. clash view.is_inside outside (sym (ap (λ (x : View E G). x.is_inside) (seated_same s.views out.0 id out.1 view out.2 at e)) ∙ out.3))
                (λ e. clash w.is_inside outside' (sym (ap (λ (x : View E G). x.is_inside) (seated_same s.views out.0 other out.1 w out.2 there_before e)) ∙ out.3))
                out.2,
            out.3,
            out.4,
          ))
          k.value;
    }

  pub takes_in : (id : ℕ) (view : View E G) (other : ℕ) (w : View E G) → view.is_spent ≡ false → view.number ≡ 0 → view.ticket ≡ None → view.is_inside ≡ false → w.is_spent ≡ false → w.ticket ≡ None → w.is_inside ≡ false
      → Joins Holds id view other w (view_after_join view w) spent_view
  takes_in id view other w unspent zeroth idle outside unspent' idle' outside' s k at apart there = joint_holds id view other w unspent zeroth idle outside unspent' idle' outside' s k at apart there
