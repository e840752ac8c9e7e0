-- How lists begin.
use Rattle.std.proofs.Common.{◌≡◌, ℕ, ◌≤◌, List, [], ◌∷◌, ◌++◌, length, take, drop, refl, sym, ap, ◌∙◌, append_assoc, arith}
use Rattle.std.proofs.lemmas.List.{take-append-drop, take-take, take_at, drop_at}
use Rattle.dw_codec_plain.specs.Spelling.{Begins}

-- of two lists that begin one list, the longer begins with the shorter
pub overlap : (a x b y : List ℕ) → a ++ x ≡ b ++ y → length b ≤ length a → (z : List ℕ) × (a ≡ b ++ z) × (z ++ x ≡ y)
overlap a x [] y same le = (a, refl, same)
overlap [] x (c ∷ b) y same le = absurd (omega arith)
overlap (d ∷ a) x (c ∷ b) y same le =
    let heads : d ≡ c = cc in
    let tails : a ++ x ≡ b ++ y = cc in
    let shorter : length b ≤ length a = omega arith in
    let r = overlap a x b y tails shorter in
    (r.0, rw heads (ap (λ (t : List ℕ). c ∷ t) r.1), r.2)

-- the same where they are equally long
pub same_front : (a x b y : List ℕ) → a ++ x ≡ b ++ y → length a ≡ length b → (a ≡ b) × (x ≡ y)
same_front a x b y same long =
    let at_a : take (length a) (a ++ x) ≡ a = take_at a x (length a) refl in
    let at_b : take (length a) (b ++ y) ≡ b = take_at b y (length a) (sym long) in
    let fronts : a ≡ b = sym at_a ∙ (ap (take (length a)) same ∙ at_b) in
    let of_a : drop (length a) (a ++ x) ≡ x = drop_at a x (length a) refl in
    let of_b : drop (length a) (b ++ y) ≡ y = drop_at b y (length a) (sym long) in
    (fronts, sym of_a ∙ (ap (drop (length a)) same ∙ of_b))

-- a text that begins with a list begins with the front of that list
pub begins_less : (IsText : List ℕ → Type 0) (bytes : List ℕ) (less more : ℕ) → less ≤ more → more ≤ length bytes → Begins IsText (take more bytes) → Begins IsText (take less bytes)
begins_less IsText bytes less more le within b =
    let whole : take less bytes ++ drop less (take more bytes) ≡ take more bytes =
    ap (λ (t : List ℕ). t ++ drop less (take more bytes)) (sym (take-take less more bytes le)) ∙ take-append-drop less (take more bytes) in
    record {
      text = b.text;
      is = b.is;
      rest = drop less (take more bytes) ++ b.rest;
      begins = b.begins ∙ (ap (λ (t : List ℕ). t ++ b.rest) (sym whole) ∙ append_assoc (take less bytes) (drop less (take more bytes)) b.rest);
    }
