-- What is known of committed transactions as they were certified: their order, their edges, and what each leaves.
use Rattle.std.proofs.Common.{inl, inr, ◌≡◌, ℕ, ◌+◌, ◌<◌, ◌≤◌, Bool, true, false, List, [], ◌∷◌, length, map, refl, sym, ap, subst, ◌∙◌, arith}
use Rattle.std.specs.Prelude.{◌||◌}
use Rattle.std.proofs.lemmas.Bool.Decides.{nat_tests}
use Rattle.dw_model.specs.declared.objects.Object.{Object}
use Rattle.dw_model.specs.Databases.{Tables}
use Rattle.dw_model.specs.Objects.{is_among, same_object}
use Rattle.dw_model.proofs.ObjectSets.{objects_same}
use Rattle.dw_journal.specs.declared.Taken.{Taken}
use Rattle.dw_journal.specs.declared.World.{World}
use Rattle.dw_journal.specs.Transactions.{CommittedTransaction, taken_by}
use Rattle.dw_journal.specs.Contents.{states, state_at, effect_of, after_commit}
use Rattle.dw_journal.specs.Watermarks.{overlaps, low_over, high_over, counts_for_high}
use Rattle.dw_journal.specs.Legal.{certified_as}
use Rattle.dw_journal.proofs.Stand.{state_stands, state_newest}
use Rattle.dw_journal.proofs.EdgeLemmas.{low_over-le}
use Rattle.dw_serial.proofs.Sequence.{IsIn, Above, Descending}
use Rattle.dw_serial.proofs.Replay.{reads, writes}
use Rattle.dw_serial.proofs.LegalTransactions.{AreCommitted}

-- two lists with an object in common overlap
or_second : (a b : Bool) → b ≡ true → (a || b) ≡ true
or_second true b e = refl
or_second false b e = e

overlaps_by : (object other : Object) (rest second : List Object) (same : Bool) → same_object object other ≡ same → is_among object second ≡ true
    → (is_among object rest ≡ true → overlaps rest second ≡ true) → (same || is_among object rest) ≡ true → (is_among other second || overlaps rest second) ≡ true
overlaps_by object other rest second true is there further among =
    let here : is_among other second ≡ true = subst (λ (o : Object). is_among o second ≡ true) (objects_same object other is) there in
    rw here refl
overlaps_by object other rest second false is there further among = or_second (is_among other second) (overlaps rest second) (further among)

pub overlap : (object : Object) (first second : List Object) → is_among object first ≡ true → is_among object second ≡ true → overlaps first second ≡ true
overlap object [] second among there = cc
overlap object (other ∷ rest) second among there =
    overlaps_by object other rest second (same_object object other) refl there (λ further. overlap object rest second further there) among

-- the place of a transaction among the commits is its stamp
pub stamp_within : (world : World) (commits : List CommittedTransaction) → AreCommitted world commits → (x : CommittedTransaction) → IsIn x commits
    → (0 < x.stamp) × (x.stamp ≤ length commits) × (x.snapshot < x.stamp)
stamp_within world [] fit x is = absurd is
stamp_within world (y ∷ older) fit x (inl same) =
    subst (λ (z : CommittedTransaction). (0 < z.stamp) × (z.stamp ≤ length (y ∷ older)) × (z.snapshot < z.stamp)) (sym same)
    (omega (arith, fit.0), omega (arith, fit.0), omega (arith, fit.0, fit.1))
stamp_within world (y ∷ older) fit x (inr there) =
    let w = stamp_within world older fit.6 x there in
    (w.0, omega (arith, w.1), w.2)

above_all : (world : World) (x : CommittedTransaction) (commits : List CommittedTransaction) → ((y : CommittedTransaction) → IsIn y commits → y.stamp < x.stamp) → Above x commits
above_all world x [] below = tt
above_all world x (y ∷ older) below = (below y (inl refl), above_all world x older (λ z is. below z (inr is)))

pub descending : (world : World) (commits : List CommittedTransaction) → AreCommitted world commits → Descending commits
descending world [] fit = tt
descending world (x ∷ older) fit =
    (above_all world x older (λ y is. let w = stamp_within world older fit.6 y is in omega (arith, fit.0, w.1)), descending world older fit.6)

pub same_stamps : (world : World) (commits : List CommittedTransaction) → AreCommitted world commits → (x y : CommittedTransaction) → IsIn x commits → IsIn y commits → x.stamp ≡ y.stamp → x ≡ y
same_stamps world [] fit x y is_x is_y e = absurd is_x
same_stamps world (z ∷ older) fit x y (inl a) (inl b) e = a ∙ sym b
same_stamps world (z ∷ older) fit x y (inl a) (inr b) e =
    let w = stamp_within world older fit.6 y b in
    let s : x.stamp ≡ z.stamp = ap (λ (c : CommittedTransaction). c.stamp) a in
    absurd (omega (arith, fit.0, w.1, s, e))
same_stamps world (z ∷ older) fit x y (inr a) (inl b) e =
    let w = stamp_within world older fit.6 x a in
    let s : y.stamp ≡ z.stamp = ap (λ (c : CommittedTransaction). c.stamp) b in
    absurd (omega (arith, fit.0, w.1, s, e))
same_stamps world (z ∷ older) fit x y (inr a) (inr b) e = same_stamps world older fit.6 x y a b e

marks_length : (world : World) (commits : List CommittedTransaction) → length (map (certified_as world) commits) ≡ length commits
marks_length world [] = refl
marks_length world (x ∷ older) = omega (arith, marks_length world older)

-- a commit that counts is at most the high watermark
high_at : (world : World) (commits : List CommittedTransaction) → AreCommitted world commits → (x : CommittedTransaction) → IsIn x commits → (taken : Taken)
    → counts_for_high x.stamp taken (certified_as world x) ≡ true → x.stamp ≤ high_over taken (map (certified_as world) commits)
high_at world [] fit x is taken counts = absurd is
high_at world (y ∷ older) fit x (inl same) taken counts =
    let at : x.stamp ≡ length (map (certified_as world) (y ∷ older)) = ap (λ (c : CommittedTransaction). c.stamp) same ∙ omega (arith, fit.0, marks_length world older) in
    let here : counts_for_high (length (map (certified_as world) (y ∷ older))) taken (certified_as world y) ≡ true =
    subst (λ (n : ℕ). counts_for_high n taken (certified_as world y) ≡ true) at (subst (λ (c : CommittedTransaction). counts_for_high x.stamp taken (certified_as world c) ≡ true) same counts) in
    rw here (omega (arith, at))
high_at world (y ∷ older) fit x (inr there) taken counts =
    grind (arith, nat_tests, high_at world older fit.6 x there taken counts)

-- a low watermark is at most that of a commit after the snapshot that wrote what was read
low_at : (world : World) (commits : List CommittedTransaction) → AreCommitted world commits → (x : CommittedTransaction) → IsIn x commits → (stamp : ℕ) (taken : Taken)
    → taken.snapshot < x.stamp → overlaps (writes world x) taken.reads ≡ true → low_over stamp taken (map (certified_as world) commits) ≤ x.low
low_at world [] fit x is stamp taken after written = absurd is
low_at world (y ∷ older) fit x (inl same) stamp taken after written =
    let s : x.stamp ≡ y.stamp = ap (λ (c : CommittedTransaction). c.stamp) same in
    let l : x.low ≡ y.low = ap (λ (c : CommittedTransaction). c.low) same in
    let w : overlaps (writes world y) taken.reads ≡ true = subst (λ (c : CommittedTransaction). overlaps (writes world c) taken.reads ≡ true) same written in
    grind (arith, nat_tests, w, s, l, after, fit.0, marks_length world older)
low_at world (y ∷ older) fit x (inr there) stamp taken after written =
    grind (arith, nat_tests, low_at world older fit.6 x there stamp taken after written)

pub low_le : (world : World) (commits : List CommittedTransaction) → AreCommitted world commits → (x : CommittedTransaction) → IsIn x commits → x.low ≤ x.stamp
low_le world [] fit x is = absurd is
low_le world (y ∷ older) fit x (inl same) =
    let s : x.stamp ≡ y.stamp = ap (λ (c : CommittedTransaction). c.stamp) same in
    let l : x.low ≡ y.low = ap (λ (c : CommittedTransaction). c.low) same in
    omega (arith, s, l, fit.0, fit.2, marks_length world older, low_over-le (length (map (certified_as world) older) + 1) (taken_by world y) (map (certified_as world) older))
low_le world (y ∷ older) fit x (inr there) = low_le world older fit.6 x there

-- of two transactions the earlier commit counts for the later one's high watermark, so its low watermark is lower
pub forward : (world : World) (commits : List CommittedTransaction) → AreCommitted world commits → (x y : CommittedTransaction) → IsIn x commits → IsIn y commits → x.stamp < y.stamp
    → counts_for_high x.stamp (taken_by world y) (certified_as world x) ≡ true → x.low < y.low
forward world [] fit x y is_x is_y earlier counts = absurd is_x
forward world (z ∷ older) fit x y (inl a) (inl b) earlier counts =
    let s : x.stamp ≡ y.stamp = ap (λ (c : CommittedTransaction). c.stamp) (a ∙ sym b) in
    absurd (omega (arith, s, earlier))
forward world (z ∷ older) fit x y (inl a) (inr b) earlier counts =
    let w = stamp_within world older fit.6 y b in
    let s : x.stamp ≡ z.stamp = ap (λ (c : CommittedTransaction). c.stamp) a in
    absurd (omega (arith, s, earlier, w.1, fit.0))
forward world (z ∷ older) fit x y (inr a) (inl b) earlier counts =
    let here = subst (λ (c : CommittedTransaction). counts_for_high x.stamp (taken_by world c) (certified_as world x) ≡ true) b counts in
    let high = high_at world older fit.6 x a (taken_by world z) here in
    let l : y.low ≡ z.low = ap (λ (c : CommittedTransaction). c.low) b in
    omega (arith, high, fit.3, l, low_le world older fit.6 x a)
forward world (z ∷ older) fit x y (inr a) (inr b) earlier counts = forward world older fit.6 x y a b earlier counts

pub backward : (world : World) (commits : List CommittedTransaction) → AreCommitted world commits → (x y : CommittedTransaction) → IsIn x commits → IsIn y commits → x.stamp < y.stamp
    → y.snapshot < x.stamp → overlaps (writes world x) (reads world y) ≡ true → y.low ≤ x.low
backward world [] fit x y is_x is_y earlier after written = absurd is_x
backward world (z ∷ older) fit x y (inl a) (inl b) earlier after written =
    let s : x.stamp ≡ y.stamp = ap (λ (c : CommittedTransaction). c.stamp) (a ∙ sym b) in
    absurd (omega (arith, s, earlier))
backward world (z ∷ older) fit x y (inl a) (inr b) earlier after written =
    let w = stamp_within world older fit.6 y b in
    let s : x.stamp ≡ z.stamp = ap (λ (c : CommittedTransaction). c.stamp) a in
    absurd (omega (arith, s, earlier, w.1, fit.0))
backward world (z ∷ older) fit x y (inr a) (inl b) earlier after written =
    let there = subst (λ (c : CommittedTransaction). overlaps (writes world x) (reads world c) ≡ true) b written in
    let past = subst (λ (c : CommittedTransaction). c.snapshot < x.stamp) b after in
    let low = low_at world older fit.6 x a (length (map (certified_as world) older) + 1) (taken_by world z) past there in
    let l : y.low ≡ z.low = ap (λ (c : CommittedTransaction). c.low) b in
    omega (arith, low, fit.2, l)
backward world (z ∷ older) fit x y (inr a) (inr b) earlier after written = backward world older fit.6 x y a b earlier after written

-- a commit's database is made of its snapshot's and of the one before
pub state_made : (world : World) (x : CommittedTransaction) (older : List CommittedTransaction) → x.snapshot ≤ length older
    → state_at (states world (x ∷ older)) (length older + 1)
    ≡ after_commit (effect_of world x (state_at (states world (x ∷ older)) x.snapshot)) (state_at (states world (x ∷ older)) (length older))
state_made world x older seen =
    state_newest world (x ∷ older) (length older + 1) (omega arith)
    ∙ ap (λ (before : Tables). after_commit (effect_of world x (state_at (states world older) x.snapshot)) before)
    (sym (state_stands world x older (length older) (omega arith) ∙ state_newest world older (length older) (omega arith)))
    ∙ ap (λ (start : Tables). after_commit (effect_of world x start) (state_at (states world (x ∷ older)) (length older))) (sym (state_stands world x older x.snapshot seen))
