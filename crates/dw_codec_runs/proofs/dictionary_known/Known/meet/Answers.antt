use Rattle.std.proofs.Common.{◌≡◌, true, Vec, Global, ℕ, ap, sym, ◌∙◌, List, map}
use Rattle.std.specs.Str.{bytes_eq}
use Rattle.dw_codec_runs.specs.Dictionary.{is_known, met, place_among}
use Rattle.dw_codec_runs.proofs.DictionaryItems.{met_known, place_met}
use Rattle.dw_codec_runs.proofs.DictionaryKnown.{known_keys, place_keys, insert_keys, position_found}
use Rattle.dw_codec_runs.proofs.dictionary_known.Known.meet.Goals as goal

pub returns-in-Some-clause-known : goal.returns-in-Some-clause-known
returns-in-Some-clause-known c =
    let here : is_known c.args.self.now c.args.item.now ≡ true =
    ap (λ known. is_known known c.args.item.now) (sym c.self.view_is) ∙ (sym (known_keys (λ (k : Vec ℕ Global). k.items) c.args.item.now c.self.inside.items.keys) ∙ sym c.in-Some.ensures.found) in
    sym (met_known c.args.self.now c.args.item.now here)

pub returns-in-Some-clause-place : goal.returns-in-Some-clause-place
returns-in-Some-clause-place c =
    position_found (λ (k : Vec ℕ Global). bytes_eq c.args.item.now k.items) c.self.inside.items.keys c.in-Some.place (sym c.in-Some.ensures.index)
    ∙ (place_keys (λ (k : Vec ℕ Global). k.items) c.args.item.now c.self.inside.items.keys ∙ ap (λ known. place_among known c.args.item.now) c.self.view_is)

pub returns-clause-known : goal.returns-clause-known
returns-clause-known c =
    ap (λ (keys : List (Vec ℕ Global)). map (λ k. k.items) keys) c.in_ok-place.ensures.keys
    ∙ (insert_keys (λ (k : Vec ℕ Global). k.items) c.in_ok-from_slice.field-0 c.args.item.now c.self.inside.items.keys c.in_ok-from_slice.ensures.items
    ∙ ap (λ known. met known c.args.item.now) c.self.view_is)

pub returns-clause-place : goal.returns-clause-place
returns-clause-place c =
    let known : List (List ℕ) = map (λ k. k.items) c.insert_full.new.self.keys in
    let is : known ≡ met c.args.self.now c.args.item.now = returns-clause-known c in
    let at : c.in_ok-place.place ≡ place_among c.args.self.now c.args.item.now =
    c.in_ok-place.ensures.index ∙ (place_keys (λ (k : Vec ℕ Global). k.items) c.in_ok-from_slice.field-0.items c.self.inside.items.keys
    ∙ (ap (place_among (map (λ k. k.items) c.self.inside.items.keys)) c.in_ok-from_slice.ensures.items ∙ ap (λ known. place_among known c.args.item.now) c.self.view_is)) in
    at ∙ (sym (place_met c.args.self.now c.args.item.now) ∙ ap (λ known. place_among known c.args.item.now) (sym is))
