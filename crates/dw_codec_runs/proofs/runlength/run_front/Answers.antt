use Rattle.std.proofs.Common.{arith}
use Rattle.std.specs.Ordering.{int_eq}
use Rattle.dw_codec_plain.specs.Numbers.{FitsWidth, number}
use Rattle.dw_codec_runs.proofs.RunsValues.{times_stop, times_go}
use Rattle.dw_codec_runs.proofs.RunsNumbers.{number_code}
use Rattle.dw_codec_runs.proofs.runlength.run_front.Goals as goal

pub returns-in-Some : goal.returns-in-Some
returns-in-Some c =
    times_go int_eq (number c.args.width) (FitsWidth c.args.width) (number_code c.args.width c.requires.width) c.args.before c.args.left c.other_front.result c.in-Some.field-0-0 c.args.bytes.now c.in-Some.behind.now
    (omega (arith, c.requires.most)) c.in-Some.ensures.times c.in-Some.ensures.spells c.other_front.ensures

pub returns-in-None : goal.returns-in-None
returns-in-None c =
    times_stop int_eq (number c.args.width) (FitsWidth c.args.width) (number_code c.args.width c.requires.width) c.args.before c.args.left c.times_front.result c.args.bytes.now
    c.in-None.ensures.none c.times_front.ensures
