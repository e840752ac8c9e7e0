-- Items that aren't known yet: of the 256 bytes that may stand behind a front, fewer known items leave one.
use Rattle.std.proofs.Common.{◌≡◌, ◌≢◌, ℕ, zero, suc, ◌≤◌, ◌<◌, ◌⊎◌, inl, inr, Bool, true, false, cond, List, [], ◌∷◌, ◌++◌, length, take, drop, map, get_or, refl, sym, ap, ◌∙◌, append_assoc, subst, arith, length-append}
use Rattle.std.specs.Prelude.{All, nat_eq}
use Rattle.std.specs.List.{list_any, IsDistinct}
use Rattle.std.specs.Str.{bytes_eq}
use Rattle.std.proofs.lemmas.Bool.{cases_Bool, cases_lt, cases_eq, false≢true, eqb-true, eq-eqb}
use Rattle.std.proofs.lemmas.List.{append-nil, append_cancel_left, length-map, take_at, take-append-drop, map-append}
use Rattle.std.proofs.lemmas.List.Elements.{All-nil, All-cons, All-head, All-tail, All-push, All-weaker}
use Rattle.std.specs.Cmp.{nat_eq_equiv}
use Rattle.std.proofs.lemmas.Map.Keys.{IsDistinct-push}
use Rattle.std.proofs.lemmas.Map.Steps.{length-le_from_distinct_below, le-length_from_below}
use Rattle.dw_codec_plain.proofs.Naturals.{AreBytes}
use Rattle.dw_codec_runs.specs.Dictionary.{is_known}
use Rattle.dw_codec_runs.specs.DictionaryParts.{AreNew}
use Rattle.dw_codec_runs.proofs.DictionaryItems.{same_item, item_itself}
use Rattle.dw_codec_runs.proofs.DictionaryShapes.{HasTurns, tail_bytes}

search_below : (p : ℕ → Bool) (n : ℕ) → ((q : ℕ) → q < n → p q ≡ true) ⊎ ((q : ℕ) × (q < n) × (p q ≡ false))
search_below p zero = inl (λ q lt. absurd (omega arith))
search_below p (suc n) = elim (cases_Bool (p n)) [
  | inl here ↦ elim (search_below p n) [
    | inl all ↦ inl (λ q lt. elim (cases_eq q n) [ inl e ↦ ap p e ∙ here | inr other ↦ all q (omega arith) ])
    | inr r ↦ inr (r.0, let lt : r.0 < n = r.1 in omega arith, r.2)
  ]
  | inr out ↦ inr (n, omega arith, out)
]

-- some number below n isn't among fewer than n
missing : (xs : List ℕ) (n : ℕ) → length xs < n → (q : ℕ) × (q < n) × (list_any (nat_eq q) xs ≡ false)
missing xs n lt = elim (search_below (λ q. list_any (nat_eq q) xs) n) [
  | inl all ↦ absurd (let le : n ≤ length xs = le-length_from_below xs n all in omega arith)
  | inr r ↦ r
]

-- a fact of all known items holds of each
pub of_known : (P : List ℕ → Type 0) (known : List (List ℕ)) (u : List ℕ) → All P known → is_known known u ≡ true → P u
of_known P [] u each here = absurd (false≢true here)
of_known P (k ∷ known) u each here = elim (cases_Bool (bytes_eq u k)) [
  | inl same ↦ subst P (sym (same_item u k same)) (All-head P k known each)
  | inr out ↦ let rest : is_known known u ≡ true = rw out at here in of_known P known u (All-tail P k known each) rest
]

next_byte : (f x : List ℕ) → get_or (f ++ x) (length f) 0 ≡ get_or x 0 0
next_byte [] x = refl
next_byte (y ∷ f) x = next_byte f x

-- the bytes of the known items at a place
abbrev bytes_at : ℕ → List (List ℕ) → List ℕ
bytes_at k known = map (λ u. get_or u k 0) known

same_byte : (q : ℕ) → nat_eq q q ≡ true
same_byte q = eq-eqb q q refl

byte_there : (k : ℕ) (known : List (List ℕ)) (u : List ℕ) → is_known known u ≡ true → list_any (nat_eq (get_or u k 0)) (bytes_at k known) ≡ true
byte_there k [] u here = absurd (false≢true here)
byte_there k (other ∷ known) u here = elim (cases_Bool (bytes_eq u other)) [
  | inl same ↦
      let e : nat_eq (get_or u k 0) (get_or other k 0) ≡ true = ap (λ (v : List ℕ). nat_eq (get_or u k 0) (get_or v k 0)) (sym (same_item u other same)) ∙ same_byte (get_or u k 0) in
      rw e refl
  | inr out ↦
      let rest : is_known known u ≡ true = rw out at here in
      let there : list_any (nat_eq (get_or u k 0)) (bytes_at k known) ≡ true = byte_there k known u rest in
      elim (cases_Bool (nat_eq (get_or u k 0) (get_or other k 0))) [ inl e ↦ rw e refl | inr e ↦ rw e there ]
]

-- the bytes behind a front of those items that begin with it
abbrev behind : List ℕ → List (List ℕ) → List ℕ
behind f [] = []
behind f (u ∷ known) = cond (bytes_eq f (take (length f) u)) (get_or u (length f) 0 ∷ behind f known) (behind f known)

behind_most : (f : List ℕ) (known : List (List ℕ)) → length (behind f known) ≤ length known
behind_most f [] = omega arith
behind_most f (u ∷ known) = let le : length (behind f known) ≤ length known = behind_most f known in elim (cases_Bool (bytes_eq f (take (length f) u))) [
  | inl here ↦ rw here (omega arith)
  | inr out ↦ rw out (omega arith)
]

behind_all : (f : List ℕ) (known : List (List ℕ)) → length known ≤ length (behind f known) → All (λ u. (rest : List ℕ) × (u ≡ f ++ rest)) known
behind_all f [] le = All-nil (λ u. (rest : List ℕ) × (u ≡ f ++ rest))
behind_all f (u ∷ known) le = elim (cases_Bool (bytes_eq f (take (length f) u))) [
  | inl here ↦
      let le' : length known ≤ length (behind f known) = let e : length (behind f (u ∷ known)) ≡ suc (length (behind f known)) = rw here refl in omega arith in
      let e : f ≡ take (length f) u = same_item f (take (length f) u) here in
      All-cons (λ u. (rest : List ℕ) × (u ≡ f ++ rest)) u known
      (drop (length f) u, sym (take-append-drop (length f) u) ∙ ap (λ (t : List ℕ). t ++ drop (length f) u) (sym e))
      (behind_all f known le')
  | inr out ↦
      let e : length (behind f (u ∷ known)) ≡ length (behind f known) = rw out refl in
      absurd (omega (arith, e, behind_most f known))
]

behind_there : (f x : List ℕ) (known : List (List ℕ)) → is_known known (f ++ x) ≡ true → list_any (nat_eq (get_or x 0 0)) (behind f known) ≡ true
behind_there f x [] here = absurd (false≢true here)
behind_there f x (u ∷ known) here = elim (cases_Bool (bytes_eq (f ++ x) u)) [
  | inl same ↦
      let is : f ++ x ≡ u = same_item (f ++ x) u same in
      let begins : bytes_eq f (take (length f) u) ≡ true =
      ap (λ (v : List ℕ). bytes_eq f (take (length f) v)) (sym is) ∙ (ap (bytes_eq f) (take_at f x (length f) refl) ∙ item_itself f) in
      let byte : get_or u (length f) 0 ≡ get_or x 0 0 = ap (λ (v : List ℕ). get_or v (length f) 0) (sym is) ∙ next_byte f x in
      let e : nat_eq (get_or x 0 0) (get_or u (length f) 0) ≡ true = ap (nat_eq (get_or x 0 0)) byte ∙ same_byte (get_or x 0 0) in
      rw begins (rw e refl)
  | inr out ↦
      let rest : is_known known (f ++ x) ≡ true = rw out at here in
      let there : list_any (nat_eq (get_or x 0 0)) (behind f known) ≡ true = behind_there f x known rest in
      elim (cases_Bool (bytes_eq f (take (length f) u))) [
        | inl begins ↦ rw begins (elim (cases_Bool (nat_eq (get_or x 0 0) (get_or u (length f) 0))) [ inl e ↦ rw e refl | inr e ↦ rw e there ])
        | inr begins ↦ rw begins there
      ]
]

-- the items known are told apart by the byte behind the front
byte_known : (f : List ℕ) (known : List (List ℕ)) (q : ℕ) → All (λ u. u ≡ f ++ get_or u (length f) 0 ∷ []) known → list_any (nat_eq q) (bytes_at (length f) known) ≡ true → is_known known (f ++ q ∷ []) ≡ true
byte_known f [] q each there = absurd (false≢true there)
byte_known f (k ∷ known) q each there = elim (cases_Bool (nat_eq q (get_or k (length f) 0))) [
  | inl same ↦
      let e : q ≡ get_or k (length f) 0 = eqb-true q (get_or k (length f) 0) same in
      let is : k ≡ f ++ q ∷ [] = All-head (λ u. u ≡ f ++ get_or u (length f) 0 ∷ []) k known each ∙ ap (λ (b : ℕ). f ++ b ∷ []) (sym e) in
      let here : bytes_eq (f ++ q ∷ []) k ≡ true = ap (bytes_eq (f ++ q ∷ [])) is ∙ item_itself (f ++ q ∷ []) in
      rw here refl
  | inr out ↦
      let rest : list_any (nat_eq q) (bytes_at (length f) known) ≡ true = rw out at there in
      let here : is_known known (f ++ q ∷ []) ≡ true = byte_known f known q (All-tail (λ u. u ≡ f ++ get_or u (length f) 0 ∷ []) k known each) rest in
      elim (cases_Bool (bytes_eq (f ++ q ∷ []) k)) [ inl e ↦ rw e refl | inr e ↦ rw e here ]
]

distinct_bytes : (f : List ℕ) (known more : List (List ℕ)) → All (λ u. u ≡ f ++ get_or u (length f) 0 ∷ []) known → All (λ u. u ≡ f ++ get_or u (length f) 0 ∷ []) more → AreNew known more
    → IsDistinct nat_eq (bytes_at (length f) known) → IsDistinct nat_eq (bytes_at (length f) (known ++ more))
distinct_bytes f known [] each each' new so_far = subst (λ k. IsDistinct nat_eq (bytes_at (length f) k)) (sym (append-nil known)) so_far
distinct_bytes f known (item ∷ more) each each' new so_far =
    let P : List ℕ → Type 0 = λ u. u ≡ f ++ get_or u (length f) 0 ∷ [] in
    let one : P item = All-head P item more each' in
    let byte : ℕ = get_or item (length f) 0 in
    let out : list_any (nat_eq byte) (bytes_at (length f) known) ≡ false = elim (cases_Bool (list_any (nat_eq byte) (bytes_at (length f) known))) [
      | inl there ↦
          let here : is_known known item ≡ true = ap (is_known known) one ∙ byte_known f known byte each there in
          absurd (false≢true (sym new.0 ∙ here))
      | inr e ↦ e
    ] in
    let pushed : IsDistinct nat_eq (bytes_at (length f) (known ++ item ∷ [])) =
    subst (λ bs. IsDistinct nat_eq bs) (sym (map-append (λ u. get_or u (length f) 0) known (item ∷ [])))
    (IsDistinct-push nat_eq_equiv (bytes_at (length f) known) byte so_far out) in
    subst (λ k. IsDistinct nat_eq (bytes_at (length f) k)) (append_assoc known (item ∷ []) more)
    (distinct_bytes f (known ++ item ∷ []) more (All-push P known item each one) (All-tail P item more each') new.1 pushed)

distinct_none : IsDistinct nat_eq []
unfolding IsDistinct
distinct_none = tt

below_any : (n : ℕ) (xs : List ℕ) (q : ℕ) → All (λ x. x < n) xs → list_any (nat_eq q) xs ≡ true → q < n
below_any n [] q each there = absurd (false≢true there)
below_any n (x ∷ xs) q each there = elim (cases_Bool (nat_eq q x)) [
  | inl same ↦ let e : q ≡ x = eqb-true q x same in let lt : x < n = All-head (λ x. x < n) x xs each in omega arith
  | inr out ↦ let rest : list_any (nat_eq q) xs ≡ true = rw out at there in below_any n xs q (All-tail (λ x. x < n) x xs each) rest
]

bytes_below : (k : ℕ) (known : List (List ℕ)) → All AreBytes known → All (λ b. b < 256) (bytes_at k known)
bytes_below k [] each = All-nil (λ b. b < 256)
bytes_below k (u ∷ known) each = All-cons (λ b. b < 256) (get_or u k 0) (bytes_at k known) (All-head AreBytes u known each k) (bytes_below k known (All-tail AreBytes u known each))

-- items that a byte behind a front tells apart
module _ (f : List ℕ) (known : List (List ℕ)) (new : AreNew [] known) (bytes : All AreBytes known) (each : All (λ u. u ≡ f ++ get_or u (length f) 0 ∷ []) known) where
  distinct_all : IsDistinct nat_eq (bytes_at (length f) known)
  distinct_all = distinct_bytes f [] known (All-nil (λ u. u ≡ f ++ get_or u (length f) 0 ∷ [])) each new distinct_none

  pub at_most : length known ≤ 256
  at_most =
      let xs : List ℕ = bytes_at (length f) known in
      let below : All (λ b. b < 256) xs = bytes_below (length f) known bytes in
      let le : length xs ≤ 256 = length-le_from_distinct_below xs 256 distinct_all (λ q there. below_any 256 xs q below there) in
      omega (arith, le, length-map known (λ (u : List ℕ). get_or u (length f) 0))

  pub all_known : 256 ≤ length known → (q : ℕ) → q < 256 → is_known known (f ++ q ∷ []) ≡ true
  all_known full q lt =
      let xs : List ℕ = bytes_at (length f) known in
      let below : All (λ b. b < 256) xs = bytes_below (length f) known bytes in
      elim (cases_Bool (list_any (nat_eq q) xs)) [
        | inl there ↦ byte_known f known q each there
        | inr out ↦
            let more : IsDistinct nat_eq (xs ++ q ∷ []) = IsDistinct-push nat_eq_equiv xs q distinct_all out in
            let below' : All (λ b. b < 256) (xs ++ q ∷ []) = All-push (λ b. b < 256) xs q below lt in
            let le : length (xs ++ q ∷ []) ≤ 256 = length-le_from_distinct_below (xs ++ q ∷ []) 256 more (λ r there. below_any 256 (xs ++ q ∷ []) r below' there) in
            absurd (omega (arith, le, length-append xs (q ∷ []), length-map known (λ (u : List ℕ). get_or u (length f) 0)))
      ]

one_left : (x : List ℕ) → length x ≡ 1 → x ≡ get_or x 0 0 ∷ []
one_left [] e = absurd (omega arith)
one_left (q ∷ []) e = refl
one_left (q ∷ r ∷ x) e = absurd (omega arith)

module _ (Is : List ℕ → Type 0) (head : ℕ) (turns : HasTurns Is head) where
  -- an unknown item that begins with a front, where the bytes behind it in known ones are fewer than 256
  fresh_by : (known : List (List ℕ)) (f : List ℕ) (b : ℕ) (g : List ℕ) → Is (f ++ b ∷ g) → (xs : List ℕ) → length xs < 256
      → ((x : List ℕ) → is_known known (f ++ x) ≡ true → list_any (nat_eq (get_or x 0 0)) xs ≡ true) → (h : List ℕ) × Is (f ++ h) × (is_known known (f ++ h) ≡ false)
  fresh_by known f b g is xs lt there =
      let m = missing xs 256 lt in
      let t = turns.turn f b m.0 g is m.1 in
      elim (cases_Bool (is_known known (f ++ m.0 ∷ t.0))) [
        | inl here ↦ absurd (false≢true (sym m.2 ∙ there (m.0 ∷ t.0) here))
        | inr out ↦ (m.0 ∷ t.0, t.1, out)
      ]

  -- the same, where fewer than 256 are known
  pub fresh_front : (known : List (List ℕ)) (f : List ℕ) (b : ℕ) (g : List ℕ) → Is (f ++ b ∷ g) → length known < 256 → (h : List ℕ) × Is (f ++ h) × (is_known known (f ++ h) ≡ false)
  fresh_front known f b g is lt =
      fresh_by known f b g is (bytes_at (length f) known) (omega (arith, lt, length-map known (λ (u : List ℕ). get_or u (length f) 0)))
      (λ x here. subst (λ (q : ℕ). list_any (nat_eq q) (bytes_at (length f) known) ≡ true) (next_byte f x) (byte_there (length f) known (f ++ x) here))

  -- the same, where not all that are known begin so
  fresh_some : (known : List (List ℕ)) (f : List ℕ) (b : ℕ) (g : List ℕ) → Is (f ++ b ∷ g) → length known ≤ 256 → ¬ All (λ u. (rest : List ℕ) × (u ≡ f ++ rest)) known
      → (h : List ℕ) × Is (f ++ h) × (is_known known (f ++ h) ≡ false)
  fresh_some known f b g is le not_all =
      let lt : length (behind f known) < 256 = elim (cases_lt (length (behind f known)) (length known)) [
        | inl lt ↦ omega arith
        | inr most ↦ absurd (not_all (behind_all f known most))
      ] in
      fresh_by known f b g is (behind f known) lt (λ x here. behind_there f x known here)

  -- the same, where more than one byte of an item is left
  other_byte : (q : ℕ) → (c : ℕ) × (0 < c) × (c < 256) × (q ≢ c)
  other_byte q = elim (cases_eq q 1) [
    | inl one ↦ (2, omega arith, omega arith, λ e. omega arith)
    | inr other ↦ (1, omega arith, omega arith, other)
  ]

  pub fresh_deep : (known : List (List ℕ)) (f : List ℕ) (b : ℕ) (g : List ℕ) → Is (f ++ b ∷ g) → ((0 < length g) ⊎ (length f < head)) → length known ≤ 256
      → (h : List ℕ) × Is (f ++ h) × (is_known known (f ++ h) ≡ false)
  fresh_deep [] f b g is deep le = fresh_front [] f b g is (omega arith)
  fresh_deep (u ∷ known) f b g is deep le =
      let c = other_byte (get_or u (length f) 0) in
      let d = turns.deep f b c.0 g is deep c.1 c.2 in
      let f' : List ℕ = f ++ c.0 ∷ [] in
      let joined : (t : List ℕ) → f' ++ t ≡ f ++ c.0 ∷ t = λ t. append_assoc f (c.0 ∷ []) t in
      let is' : Is (f' ++ d.0 ∷ d.1) = subst Is (sym (joined (d.0 ∷ d.1))) d.2 in
      let r = fresh_by (u ∷ known) f' d.0 d.1 is' (bytes_at (length f') known) (omega (arith, le, length-map known (λ (v : List ℕ). get_or v (length f') 0)))
      (λ x here. elim (cases_Bool (bytes_eq (f' ++ x) u)) [
        | inl same ↦
            let e : get_or u (length f) 0 ≡ c.0 =
            ap (λ (v : List ℕ). get_or v (length f) 0) (sym (same_item (f' ++ x) u same) ∙ joined x) ∙ next_byte f (c.0 ∷ x) in
            absurd (c.3 e)
        | inr out ↦
            let rest : is_known known (f' ++ x) ≡ true = rw out at here in
            subst (λ (q : ℕ). list_any (nat_eq q) (bytes_at (length f') known) ≡ true) (next_byte f' x) (byte_there (length f') known (f' ++ x) rest)
      ]) in
      (c.0 ∷ r.0, subst Is (joined r.0) r.1, subst (λ (t : List ℕ). is_known (u ∷ known) t ≡ false) (joined r.0) r.2)

  -- An unknown item that begins with a front of an item, unless all that begin so are known.
  pub fresh_unless : (known : List (List ℕ)) (f : List ℕ) (b : ℕ) (g : List ℕ) → Is (f ++ b ∷ g) → length known ≤ 256
      → ¬ ((256 ≤ length known) × (length g ≡ 0) × (head ≤ length f) × All (λ u. (rest : List ℕ) × (u ≡ f ++ rest)) known)
      → (h : List ℕ) × Is (f ++ h) × (is_known known (f ++ h) ≡ false)
  fresh_unless known f b g is le unless = elim (cases_lt (length known) 256) [
    | inl few ↦ fresh_front known f b g is few
    | inr full ↦ elim (cases_lt 0 (length g)) [
      | inl more ↦ fresh_deep known f b g is (inl more) le
      | inr last ↦ elim (cases_lt (length f) head) [
        | inl cut ↦ fresh_deep known f b g is (inr cut) le
        | inr told ↦ fresh_some known f b g is le (λ all. unless (full, omega arith, told, all))
      ]
    ]
  ]

  module _ (known : List (List ℕ)) (f : List ℕ) (b : ℕ) (is : Is (f ++ b ∷ [])) (told : head ≤ length f) (full : 256 ≤ length known) (new : AreNew [] known) (each : All Is known)
      (all : All (λ u. (rest : List ℕ) × (u ≡ f ++ rest)) known) where
    -- all items that begin with the front are known
    pub exhausted : (x : List ℕ) → Is (f ++ x) → is_known known (f ++ x) ≡ true
    exhausted x is' =
        let P : List ℕ → Type 0 = λ u. u ≡ f ++ get_or u (length f) 0 ∷ [] in
        let long : (y : List ℕ) → Is (f ++ y) → y ≡ get_or y 0 0 ∷ [] = λ y i. one_left y (turns.last f y (b ∷ []) i is told) in
        let by_byte : All P known = λ k d lt.
        let r = all k d lt in
        let y : List ℕ = r.0 in
        let u : List ℕ = get_or known k d in
        let i : Is (f ++ y) = subst Is r.1 (each k d lt) in
        let byte : get_or u (length f) 0 ≡ get_or y 0 0 = ap (λ (v : List ℕ). get_or v (length f) 0) r.1 ∙ next_byte f y in
        r.1 ∙ (ap (λ (z : List ℕ). f ++ z) (long y i) ∙ ap (λ (q : ℕ). f ++ q ∷ []) (sym byte)) in
        let bytes : All AreBytes known = All-weaker Is AreBytes turns.bytes known each in
        let small : get_or x 0 0 < 256 = tail_bytes f x (turns.bytes (f ++ x) is') 0 in
        let here : is_known known (f ++ get_or x 0 0 ∷ []) ≡ true = all_known f known new bytes by_byte full (get_or x 0 0) small in
        subst (λ (z : List ℕ). is_known known (f ++ z) ≡ true) (sym (long x is')) here

    -- but of those that begin with one byte less not all are
    pub fresh_before : (f' : List ℕ) (y : ℕ) → f ≡ f' ++ y ∷ [] → (h : List ℕ) × Is (f' ++ h) × (is_known known (f' ++ h) ≡ false)
    fresh_before f' y split =
        let c = other_byte y in
        let joined : f ++ b ∷ [] ≡ f' ++ y ∷ b ∷ [] = ap (λ (t : List ℕ). t ++ b ∷ []) split ∙ append_assoc f' (y ∷ []) (b ∷ []) in
        let t = turns.turn f' y c.0 (b ∷ []) (subst Is joined is) c.2 in
        let item : List ℕ = f' ++ c.0 ∷ t.0 in
        elim (cases_Bool (is_known known item)) [
          | inl here ↦
              let r = of_known (λ u. (rest : List ℕ) × (u ≡ f ++ rest)) known item all here in
              let same : f' ++ c.0 ∷ t.0 ≡ f' ++ y ∷ r.0 = r.1 ∙ (ap (λ (u : List ℕ). u ++ r.0) split ∙ append_assoc f' (y ∷ []) r.0) in
              let tails : c.0 ∷ t.0 ≡ y ∷ r.0 = append_cancel_left f' (c.0 ∷ t.0) (y ∷ r.0) same in
              absurd (c.3 cc)
          | inr out ↦ (c.0 ∷ t.0, t.1, out)
        ]
