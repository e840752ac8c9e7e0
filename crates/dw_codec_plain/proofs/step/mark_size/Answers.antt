use Rattle.std.proofs.Common.{◌≤◌, ◌^◌, arith}
use Rattle.std.proofs.lemmas.Int.{ints}
use Rattle.dw_codec_plain.specs.Numbers.{half}
use Rattle.dw_codec_plain.proofs.Forms.{step_room}
use Rattle.dw_codec_plain.proofs.step.mark_size.Goals as goal

pub overflow_cast-result : goal.overflow_cast-result
overflow_cast-result c = omega (arith, ints, step_room c.args.step c.requires, c.half_range.ensures.value)

pub returns : goal.returns
returns c =
    let room : half c.args.step ≤ 2 ^ 31 = step_room c.args.step c.requires in
    let value = c.half_range.ensures.value in
    record {
      value = omega (arith, ints, room, value);
      least = omega (arith, ints, room, value, c.half_range.ensures.least);
      greatest = omega (arith, ints, room, value);
    }
