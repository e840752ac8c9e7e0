use Rattle.std.proofs.Common.{◌≡◌, pos, to_z, arith}
use Rattle.std.specs.Int.{w128}
use Rattle.std.proofs.lemmas.Int.{ints}
use Rattle.dw_codec_runs.proofs.RunsNumbers.{times_front_is}
use Rattle.dw_codec_runs.proofs.runlength_times.times_front.Goals as goal

pub returns : goal.returns
returns c =
    let high : to_z w128 c.args.left ≡ pos c.args.left = omega (arith, ints) in
    times_front_is c.args.left c.longest_front.result (to_z w128 c.args.left) c.args.bytes.now c.requires.most high c.longest_front.ensures
