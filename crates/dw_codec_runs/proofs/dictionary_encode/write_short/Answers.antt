use Rattle.std.proofs.Common.{◌≡◌, ◌≤◌, ◌+◌, suc, ◌++◌, ◌∷◌, [], ℕ, List, length, take, get_or, sym, ap, ◌∙◌, append_assoc, arith}
use Rattle.std.specs.List.{concat}
use Rattle.std.proofs.lemmas.List.{append-nil, take_more}
use Rattle.std.proofs.lemmas.List.Folds.{concat-append}
use Rattle.dw_codec_plain.specs.Numbers.{low_bytes}
use Rattle.dw_codec_runs.proofs.dictionary_encode.write_short.Goals as goal

more_items : (known : List (List ℕ)) (i : ℕ) (head old new : List ℕ) → suc i ≤ length known → old ≡ head ++ concat (take i known) → new ≡ old ++ get_or known i [] → new ≡ head ++ concat (take (i + 1) known)
more_items known i head old new lt so_far is =
    let got : List ℕ = get_or known i [] in
    let one : concat (take i known ++ got ∷ []) ≡ concat (take i known) ++ got = concat-append (take i known) (got ∷ []) ∙ ap (λ (t : List ℕ). concat (take i known) ++ t) (append-nil got) in
    is ∙ (ap (λ (t : List ℕ). t ++ got) so_far ∙ (append_assoc head (concat (take i known)) got ∙ (ap (λ (t : List ℕ). head ++ t) (sym one) ∙ ap (λ k. head ++ concat k) (sym (take_more known i [] lt)))))

pub loop-place-preserved : goal.loop-place-preserved
loop-place-preserved c =
    more_items c.args.known.now c.loop-place.place (low_bytes 2 (length c.args.known.now)) c.loop-place.bytes.items c.extend_from_slice-in-loop-place.new.self.items (omega arith) c.loop-place.invariant
    (c.in_ok-extend_from_slice-2.ensures.items ∙ ap (λ (t : List ℕ). c.loop-place.bytes.items ++ t) c.get.ensures)
