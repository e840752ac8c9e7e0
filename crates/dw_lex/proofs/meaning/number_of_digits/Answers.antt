use Rattle.std.proofs.Common.{sym, ◌∙◌}
use Rattle.dw_lex.proofs.MeaningLemmas.{parsed_digits}
use Rattle.dw_lex.proofs.meaning.number_of_digits.Goals as goal

pub returns-then-is_all_digits : goal.returns-then-is_all_digits
returns-then-is_all_digits c =
    c.ok.ensures.value ∙ parsed_digits c.args.text.now c.parse.result c.parse.ensures.value.0 (rw (← c.as_bytes.ensures.value) (sym c.if-is_all_digits.ensures))
