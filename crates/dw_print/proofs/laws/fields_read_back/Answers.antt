use Rattle.std.proofs.Common.{◌∙◌, ap, sym}
use Rattle.dw_print.specs.Fields.{text_of_field}
use Rattle.dw_print.proofs.ReadBack.{field_reads_back}
use Rattle.dw_print.proofs.laws.fields_read_back.Goals as goal

pub returns : goal.returns
returns c = record {
  reads_back = field_reads_back;
  injective = λ a b same. sym (field_reads_back a) ∙ ap text_of_field same ∙ field_reads_back b;
}
