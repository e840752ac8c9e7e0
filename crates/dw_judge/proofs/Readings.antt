-- What is read off the sessions that are kept is what the history says.
use Rattle.std.proofs.Common.{◌≡◌, ℕ, ◌+◌, ◌<◌, List, [], ◌∷◌, ◌++◌, length, get_or, take, refl, sym, ap, ◌∙◌}
use Rattle.std.specs.Prelude.{Option, None}
use Rattle.std.specs.List.{cons_option, filter_map, fold}
use Rattle.std.proofs.lemmas.List.{take_more}
use Rattle.std.proofs.lemmas.List.Elements.{filter_map-append}
use Rattle.dw_journal.specs.Transactions.{least_of, least_with}

fold_append : {A B : Type 0} (f : B → A → B) (a : B) (xs ys : List A) → fold f a (xs ++ ys) ≡ fold f (fold f a xs) ys
fold_append f a [] ys = refl
fold_append f a (x ∷ xs) ys = fold_append f (f a x) xs ys

-- the least of one more
pub least_more : {X : Type 0} (number : X → Option ℕ) (xs : List X) (i : ℕ) (x : X) (least : Option ℕ) → i < length xs → x ≡ get_or xs i x
    → least ≡ least_of (filter_map number (take i xs))
    → fold least_with least (cons_option (number x) []) ≡ least_of (filter_map number (take (i + 1) xs))
least_more number xs i x least within is before =
    let front = filter_map number (take i xs) in
    let more : filter_map number (take (i + 1) xs) ≡ front ++ cons_option (number x) [] =
    ap (filter_map number) (take_more xs i x within ∙ ap (λ y. take i xs ++ y ∷ []) (sym is)) ∙ filter_map-append number (take i xs) (x ∷ []) in
    ap (λ l. fold least_with l (cons_option (number x) [])) before
    ∙ sym (fold_append least_with None front (cons_option (number x) [])) ∙ ap (fold least_with None) (sym more)
