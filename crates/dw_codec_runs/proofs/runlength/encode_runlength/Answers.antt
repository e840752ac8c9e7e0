use Rattle.std.proofs.Common.{◌≡◌, ◌+◌, ◌++◌, ◌∷◌, ℕ, ℤ, List, Some, take, drop, to_z, of_z, arith, sym, ap, ◌∙◌, subst}
use Rattle.std.specs.Prelude.{All, replicate}
use Rattle.std.specs.Int.{w128}
use Rattle.std.specs.Ordering.{int_eq}
use Rattle.std.proofs.lemmas.List.Elements.{All-head, All-tail, All-drop}
use Rattle.dw_codec_plain.specs.Numbers.{FitsWidth, number}
use Rattle.dw_codec_plain.proofs.Signed.{same_bits}
use Rattle.dw_codec_runs.specs.Runs.{run_bytes, runlength, StartsOther}
use Rattle.dw_codec_runs.proofs.RunsEncoding.{encoding_goes_on}
use Rattle.dw_codec_runs.proofs.RunsNumbers.{number_code}
use Rattle.dw_codec_runs.proofs.runlength.encode_runlength.Goals as goal

pub overflow_cast-equal : goal.overflow_cast-equal
overflow_cast-equal c = omega (arith, c.in-Some.ensures.cases.1, c.equal_len-equal.ensures.within)

pub loop-value-preserved : goal.loop-value-preserved
loop-value-preserved c =
    let value : ℤ = c.in-Some.value.now in
    let others : List ℤ = c.in-Some.others.now in
    let is : c.loop-value.rest.now ≡ value ∷ others = c.in-Some.ensures.cases.0 in
    let all : All (FitsWidth c.args.width) (value ∷ others) = subst (All (FitsWidth c.args.width)) is c.loop-value.invariant.fit in
    let bits : to_z w128 (of_z w128 value) ≡ value = same_bits c.args.width c.requires.width value (All-head (FitsWidth c.args.width) value others all) in
    let n : ℕ = c.equal_len-equal.result in
    let equal : take n others ≡ replicate n value = c.equal_len-equal.ensures.equal ∙ ap (replicate n) bits in
    let back : c.split_at.result.1.now ≡ drop n others = c.split_at.ensures.back in
    let stops : StartsOther (Some value) c.split_at.result.1.now =
    subst (λ t. StartsOther (Some value) t) (sym back) (subst (λ z. StartsOther (Some z) (drop n others)) bits c.equal_len-equal.ensures.stops) in
    let so_far : c.loop-value.bytes.items ++ runlength c.args.width (value ∷ others) ≡ runlength c.args.width c.args.values.now =
    ap (λ (t : List ℤ). c.loop-value.bytes.items ++ runlength c.args.width t) (sym is) ∙ c.loop-value.invariant.written in
    let written : c.push_run.new.out.items ≡ c.loop-value.bytes.items ++ run_bytes (number c.args.width) (record { times = 1 + n; value = value }) =
    c.in_ok-push_run.ensures.ok ∙ ap (λ (z : ℤ). c.loop-value.bytes.items ++ run_bytes (number c.args.width) (record { times = 1 + n; value = z })) bits in
    record {
      written = encoding_goes_on int_eq (number c.args.width) (FitsWidth c.args.width) (number_code c.args.width c.requires.width) value others c.split_at.result.1.now n
          c.loop-value.bytes.items c.push_run.new.out.items (runlength c.args.width c.args.values.now) equal back stops so_far written;
      count = omega (arith, c.in-Some.ensures.cases.1, c.split_at.ensures.back_len, c.loop-value.invariant.count);
      fit = subst (All (FitsWidth c.args.width)) (sym back) (All-drop (FitsWidth c.args.width) n others (All-tail (FitsWidth c.args.width) value others all));
    }
