use Rattle.std.proofs.Common.{arith}
use Rattle.std.proofs.lemmas.Int.{ints}
use Rattle.dw_codec_plain.proofs.Signed.{sized}
use Rattle.dw_codec_plain.proofs.numbers.fits_width.Goals as goal

pub returns-then-least_number-value : goal.returns-then-least_number-value
returns-then-least_number-value c =
    let size = sized c.args.width c.requires in
    (λ le. record { least = grind (arith, ints); greatest = grind (arith, ints, size.full) }, λ fits. grind (arith, ints, fits.greatest, size.full))
