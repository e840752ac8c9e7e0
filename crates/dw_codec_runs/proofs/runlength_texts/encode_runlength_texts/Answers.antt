use Rattle.std.proofs.Common.{◌≡◌, ◌≤◌, ◌++◌, ◌∷◌, ℕ, List, Some, length, take, drop, arith, sym, ap, ◌∙◌, subst}
use Rattle.std.specs.Prelude.{All, replicate}
use Rattle.std.specs.Str.{bytes_eq}
use Rattle.std.proofs.lemmas.List.Elements.{All-tail, All-drop}
use Rattle.dw_codec_plain.specs.Encodings.{IsText, raw_text}
use Rattle.dw_codec_runs.specs.Runs.{runlength_texts, StartsOther}
use Rattle.dw_codec_runs.proofs.RunsEncoding.{encoding_goes_on}
use Rattle.dw_codec_runs.proofs.RunsTexts.{text_code}
use Rattle.dw_codec_runs.proofs.runlength_texts.encode_runlength_texts.Goals as goal

pub loop-text-preserved : goal.loop-text-preserved
loop-text-preserved c =
    let text : List ℕ = c.in-Some.text.now in
    let others : List (List ℕ) = c.in-Some.others.now in
    let is : c.loop-text.rest.now ≡ text ∷ others = c.in-Some.ensures.cases.0 in
    let all : All (λ t. length t ≤ 65535) (text ∷ others) = subst (λ ts. All (λ t. length t ≤ 65535) ts) is c.loop-text.invariant.short in
    let read : c.as_slice.result.now ≡ text = c.as_slice.ensures in
    let n : ℕ = c.equal_len-equal.result in
    let equal : take n others ≡ replicate n text = c.equal_len-equal.ensures.equal ∙ ap (replicate n) read in
    let back : c.split_at.result.1.now ≡ drop n others = c.split_at.ensures.back in
    let stops : StartsOther (Some text) c.split_at.result.1.now =
    subst (λ ts. StartsOther (Some text) ts) (sym back) (subst (λ t. StartsOther (Some t) (drop n others)) read c.equal_len-equal.ensures.stops) in
    let so_far : c.loop-text.bytes.items ++ runlength_texts (text ∷ others) ≡ runlength_texts c.args.values.now =
    ap (λ (ts : List (List ℕ)). c.loop-text.bytes.items ++ runlength_texts ts) (sym is) ∙ c.loop-text.invariant.written in
    record {
      written = encoding_goes_on bytes_eq raw_text IsText text_code text others c.split_at.result.1.now n c.loop-text.bytes.items c.push_run.new.out.items (runlength_texts c.args.values.now)
          equal back stops so_far c.in_ok-push_run.ensures.ok;
      count = omega (arith, c.in-Some.ensures.cases.1, c.split_at.ensures.back_len, c.loop-text.invariant.count);
      short = subst (λ ts. All (λ t. length t ≤ 65535) ts) (sym back) (All-drop (λ t. length t ≤ 65535) n others (All-tail (λ t. length t ≤ 65535) text others all));
    }
