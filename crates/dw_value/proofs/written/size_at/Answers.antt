use Rattle.std.proofs.Common.{◌++◌, length, arith}
use Rattle.std.proofs.lemmas.Int.{ints}
use Rattle.dw_value.specs.Texts.{number_of}
use Rattle.dw_value.proofs.WrittenNumbers.{grown}
use Rattle.dw_value.proofs.written.size_at.Goals as goal

pub returns-in-None : goal.returns-in-None
returns-in-None c = λ fits.
    let more = grown (length c.args.fraction.now) c.args.scale (number_of (c.args.whole.now ++ c.args.fraction.now)) (omega arith) in
    c.in-None.ensures (omega (arith, ints, more, fits))
