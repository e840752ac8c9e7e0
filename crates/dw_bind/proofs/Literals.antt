-- Literals that are read as dates.
use Rattle.std.proofs.Common.{◌≡◌, ℕ, List, Option, Some, None, refl, ap, sym, option_map}
use Rattle.dw_value.specs.Dates.{day_in}
use Rattle.dw_value.specs.declared.values.Value.{Value}
use Rattle.dw_value.specs.declared.values.Value.TheVariants as values
use Rattle.dw_value.specs.declared.kinds.Kind.{Kind}
use Rattle.dw_expr.specs.BoundTree.{BoundTree, literal}
use Rattle.dw_expr.specs.declared.typed.Typed.TheVariants.{Decided}
use Rattle.dw_expr.specs.Binding.{as_date, literal_as_date, read_day, standing_once, settled}
use Rattle.dw_bind.specs.Parts.{literal_in, words_in, text_of}

abbrev value_found : Value → Option (Value × Kind) → Value
value_found value None = value
value_found value (Some found) = found.0

abbrev kind_found : Kind → Option (Value × Kind) → Kind
kind_found kind None = kind
kind_found kind (Some found) = found.1

pub words_of_literal : (a : BoundTree) (value : Value) (kind : Kind) → literal_in a ≡ Some (value, kind) → words_in a ≡ text_of value
words_of_literal (literal value kind) other its p = ap (λ (found : Option (Value × Kind)). text_of (value_found value found)) p
words_of_literal a other its p = cc

pub words_of_others : (a : BoundTree) → literal_in a ≡ None → words_in a ≡ None
words_of_others (literal value kind) p = cc
words_of_others a p = refl

pub literal_found : (a : BoundTree) (value : Value) (kind : Kind) → literal_in a ≡ Some (value, kind) → (Decided (literal value kind) ≡ Decided a) × (standing_once (Decided a) ≡ None)
literal_found (literal value kind) other its p = (
  sym (ap (λ (found : Option (Value × Kind)). Decided (literal (value_found value found) (kind_found kind found))) p),
  refl,
)
literal_found a other its p = (cc, cc)

pub no_literal : (a : BoundTree) → literal_in a ≡ None → standing_once (Decided a) ≡ Some (settled (Decided a))
no_literal (literal value kind) p = cc
no_literal a p = refl

literal_of_others : (value : Value) (kind : Kind) → text_of value ≡ None → literal_as_date value kind ≡ Some (literal value kind)
literal_of_others (values.Words text) kind p = cc
literal_of_others value kind p = refl

literal_of_words : (value : Value) (kind : Kind) (text : List ℕ) → text_of value ≡ Some text → literal_as_date value kind ≡ option_map read_day (day_in text)
literal_of_words (values.Words words) kind text p = cc
literal_of_words value kind text p = cc

pub as_date_of_others : (a : BoundTree) → words_in a ≡ None → as_date a ≡ Some a
as_date_of_others (literal value kind) p = literal_of_others value kind p
as_date_of_others a p = refl

pub as_date_of_words : (a : BoundTree) (text : List ℕ) → words_in a ≡ Some text → as_date a ≡ option_map read_day (day_in text)
as_date_of_words (literal value kind) text p = literal_of_words value kind text p
as_date_of_words a text p = cc
