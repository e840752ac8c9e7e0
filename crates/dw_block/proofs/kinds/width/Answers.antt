use Rattle.std.specs.Prelude.{nat_le, if◌then◌else◌}
use Rattle.std.proofs.Common.{Bool, true, false, rules, sym, subst}
use Rattle.dw_value.specs.declared.kinds.Kind.{Kind}
use Rattle.dw_value.specs.declared.kinds.Kind.TheVariants.{Small, Int, Big, Decimal, Char, Varchar, Date, Bool as Boolean}
use Rattle.dw_value.specs.Encodings.{width}
use Rattle.dw_codec_plain.specs.Numbers.{IsWidth}
use Rattle.dw_block.proofs.kinds.width.Goals as goal

decimal_width : (t : Bool) → IsWidth (if t then 8 else 16)
decimal_width true = search rules
decimal_width false = search rules

is_width : (kind : Kind) → IsWidth (width kind)
is_width Small = search rules
is_width Int = search rules
is_width Big = search rules
is_width (Decimal precision scale) = decimal_width (nat_le precision 18)
is_width (Char limit) = search rules
is_width (Varchar limit) = search rules
is_width Date = search rules
is_width Boolean = search rules

pub returns-clause-is : goal.returns-clause-is
returns-clause-is c = subst IsWidth (sym c.width.ensures) (is_width c.args.kind)
