-- Whether two fields, answers or refusals are the same, as tests.
use Rattle.std.specs.Prelude.{Bool, true, false, ◌&&◌, nat_eq}
use Rattle.std.specs.Cmp.Lexicographic.{pointwise}
use Rattle.dw_value.specs.declared.values.Field.{Field}
use Rattle.dw_value.specs.declared.values.Field.TheVariants.{Null, Shown}
use Rattle.dw_model.specs.declared.answers.Answer.{Answer as Reply}
use Rattle.dw_model.specs.declared.answers.Answer.TheVariants as answers
use Rattle.dw_model.specs.declared.refusals.Refusal.{Refusal}
use Rattle.dw_model.specs.declared.refusals.Refusal.TheVariants as refusals
use Rattle.dw_model.specs.Binding.{same_name}
use Rattle.dw_judge.specs.Dues.{same_word}

abbrev pub same_field : Field → Field → Bool
same_field Null Null = true
same_field Null (Shown b) = false
same_field (Shown a) Null = false
same_field (Shown a) (Shown b) = same_name a b

abbrev pub same_answer : Reply → Reply → Bool
same_answer (answers.Rows a names rows) (answers.Rows b named found) =
    (same_word a b && pointwise same_name names named) && pointwise (pointwise same_field) rows found
same_answer (answers.Rows a names rows) other = false
same_answer (answers.Count a count) (answers.Count b counted) = same_word a b && nat_eq count counted
same_answer (answers.Count a count) other = false
same_answer (answers.Plain a) (answers.Plain b) = same_word a b
same_answer (answers.Plain a) other = false

abbrev pub same_refusal : Refusal → Refusal → Bool
same_refusal (refusals.Syntax a) (refusals.Syntax b) = nat_eq a b
same_refusal (refusals.Syntax a) other = false
same_refusal (refusals.Unknown a) (refusals.Unknown b) = same_name a b
same_refusal (refusals.Unknown a) other = false
same_refusal (refusals.Exists a) (refusals.Exists b) = same_name a b
same_refusal (refusals.Exists a) other = false
same_refusal (refusals.NullIn a) (refusals.NullIn b) = same_name a b
same_refusal (refusals.NullIn a) other = false
same_refusal (refusals.Deadlock a) (refusals.Deadlock b) = same_name a b
same_refusal (refusals.Deadlock a) other = false
same_refusal (refusals.Vacuuming a) (refusals.Vacuuming b) = nat_eq a b
same_refusal (refusals.Vacuuming a) other = false
same_refusal (refusals.Limit a) (refusals.Limit b) = nat_eq a b
same_refusal (refusals.Limit a) other = false
same_refusal refusals.Clash refusals.Clash = true
same_refusal refusals.Clash other = false
same_refusal refusals.Range refusals.Range = true
same_refusal refusals.Range other = false
same_refusal refusals.Aborted refusals.Aborted = true
same_refusal refusals.Aborted other = false
same_refusal refusals.InBlock refusals.InBlock = true
same_refusal refusals.InBlock other = false
same_refusal refusals.Memory refusals.Memory = true
same_refusal refusals.Memory other = false
