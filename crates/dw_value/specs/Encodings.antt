-- Which encodings a kind may have. The encodings are those of the Amazon Redshift guide (compression encodings); which
-- kinds take them is this project's own.
use Rattle.std.specs.Prelude.{ℕ, nat_le, nat_lt, Bool, true, false, ◌&&◌, if◌then◌else◌}
use Rattle.dw_value.specs.declared.kinds.Kind.{Kind}
use Rattle.dw_value.specs.declared.kinds.Kind.TheVariants.{Small, Int, Big, Decimal, Date, Bool as Boolean}
use Rattle.dw_value.specs.declared.kinds.Encoding.{Encoding}
use Rattle.dw_value.specs.declared.kinds.Encoding.TheVariants.{Raw, Bytedict, Delta, Delta32k, Mostly8, Mostly16, Mostly32, Runlength}
use Rattle.dw_value.specs.Values.{takes_numbers}

-- how many bytes the numbers of a kind take: those of the guide, and one for a truth
abbrev pub width : Kind → ℕ
width Small = 2
width Int = 4
width Big = 8
width (Decimal precision scale) = if nat_le precision 18 then 8 else 16
width Date = 4
width kind = 1

-- whether a kind's numbers may be spelled by their differences
abbrev pub has_steps : Kind → Bool
has_steps Date = true
has_steps kind = takes_numbers kind

-- whether a column of this kind may have the encoding: RAW and RUNLENGTH for all, BYTEDICT for all but truths, the
-- others where their short forms are shorter than the kind's numbers
abbrev pub allows : Encoding → Kind → Bool
allows Raw kind = true
allows Bytedict Boolean = false
allows Bytedict kind = true
allows Delta kind = has_steps kind
allows Delta32k kind = has_steps kind && nat_lt 2 (width kind)
allows Mostly8 kind = takes_numbers kind
allows Mostly16 kind = takes_numbers kind && nat_lt 2 (width kind)
allows Mostly32 kind = takes_numbers kind && nat_lt 4 (width kind)
allows Runlength kind = true
