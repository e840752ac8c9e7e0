-- DATE before a text, beside columns of each kind.
use Rattle.std.proofs.Common.{◌≡◌, ◌≢◌, ℕ, ℤ, false, List, Option, Some, None, option_map, is_some, refl, ap, ◌∙◌}
use Rattle.dw_value.specs.declared.kinds.Kind.{Kind}
use Rattle.dw_value.specs.declared.kinds.Kind.TheVariants as kinds
use Rattle.dw_value.specs.declared.values.Value.TheVariants.{Day}
use Rattle.dw_value.specs.Dates.{day_in}
use Rattle.dw_model.specs.declared.statements.Literal.TheVariants.{Date}
use Rattle.dw_model.specs.Literals.{compared_with, has_assignable, is_assignable, literal_goes_with, of_class}

-- no column takes DATE before a text that is no date
pub no_date_goes : (kind : Kind) (text : List ℕ) → None ≡ day_in text → false ≡ literal_goes_with kind (Date text)
no_date_goes kind text e = ap (λ (o : Option ℤ). has_assignable kind (option_map (λ (day : ℤ). Day day) o)) e

other_assigned : (kind : Kind) (day : ℤ) → kind ≢ kinds.Date → false ≡ is_assignable kind (Day day)
other_assigned kinds.Small day n = refl
other_assigned kinds.Int day n = refl
other_assigned kinds.Big day n = refl
other_assigned (kinds.Decimal p s) day n = refl
other_assigned (kinds.Char l) day n = refl
other_assigned (kinds.Varchar l) day n = refl
other_assigned kinds.Date day n = absurd (n refl)
other_assigned kinds.Bool day n = refl

-- no column of another kind takes a day, or is compared with one
pub other_goes : (kind : Kind) (text : List ℕ) (day : ℤ) → kind ≢ kinds.Date → Some day ≡ day_in text → false ≡ literal_goes_with kind (Date text)
other_goes kind text day n e = other_assigned kind day n ∙ ap (λ (o : Option ℤ). has_assignable kind (option_map (λ (day : ℤ). Day day) o)) e

class_at : (kind : Kind) (text : List ℕ) (day : ℤ) → Some day ≡ day_in text → is_some (of_class kind (Some (Day day))) ≡ is_some (of_class kind (option_map (λ (day : ℤ). Day day) (day_in text)))
class_at kind text day e = ap (λ (o : Option ℤ). is_some (of_class kind (option_map (λ (day : ℤ). Day day) o))) e

pub other_compares : (kind : Kind) (text : List ℕ) (day : ℤ) → kind ≢ kinds.Date → Some day ≡ day_in text → false ≡ is_some (compared_with kind (Date text))
other_compares kinds.Small text day n e = class_at kinds.Small text day e
other_compares kinds.Int text day n e = class_at kinds.Int text day e
other_compares kinds.Big text day n e = class_at kinds.Big text day e
other_compares (kinds.Decimal p s) text day n e = class_at (kinds.Decimal p s) text day e
other_compares (kinds.Char l) text day n e = class_at (kinds.Char l) text day e
other_compares (kinds.Varchar l) text day n e = class_at (kinds.Varchar l) text day e
other_compares kinds.Bool text day n e = class_at kinds.Bool text day e
other_compares kinds.Date text day n e = absurd (n refl)
