-- Which kinds go together, and the kinds that branches, sums and texts come to. The rules are this project's own, after
-- the data types of the Amazon Redshift guide and the assignments and casts of the SQL standard.
use Rattle.std.specs.Prelude.{max, Bool, true, false, ◌&&◌, ◌||◌, Option, Some, None, if◌then◌else◌}
use Rattle.dw_value.specs.declared.kinds.Kind.{Kind}
use Rattle.dw_value.specs.declared.kinds.Kind.TheVariants.{Small, Int, Big, Decimal, Varchar, Date, Bool as Boolean}
use Rattle.dw_value.specs.Values.{takes_numbers, takes_texts}
use Rattle.dw_value.specs.Kinds.{scale_of, is_whole, wider}

-- the kind of every text that is computed: the longest one
abbrev pub computed_text : Kind
computed_text = Varchar 65535

abbrev pub is_date : Kind → Bool
is_date Date = true
is_date kind = false

abbrev pub is_truth : Kind → Bool
is_truth Boolean = true
is_truth kind = false

-- whether values of two kinds are of one class: both numbers, texts, dates or truths
abbrev pub same_class : Kind → Kind → Bool
same_class a b =
    (takes_numbers a && takes_numbers b) || (takes_texts a && takes_texts b) || (is_date a && is_date b)
    || (is_truth a && is_truth b)

-- The kind that two branches of CASE or COALESCE have together, where they are of one class: the wider one of whole
-- numbers, a decimal of the greater scale where one is a decimal, the longest text, a date or a truth.
abbrev pub branch_kind : Kind → Kind → Option Kind
branch_kind a b =
    if is_whole a && is_whole b then Some (wider a b)
    else if takes_numbers a && takes_numbers b then Some (Decimal 38 (max (scale_of a) (scale_of b)))
    else if takes_texts a && takes_texts b then Some computed_text
    else if same_class a b then Some a
    else None

-- the kind of a sum of such numbers: BIGINT for SMALLINT and INTEGER, else the longest decimal of the same scale
abbrev pub sum_kind : Kind → Option Kind
sum_kind Small = Some Big
sum_kind Int = Some Big
sum_kind kind = if takes_numbers kind then Some (Decimal 38 (scale_of kind)) else None

-- whether a column of the kind `to` takes values of the kind `from`: those of its class, and a date also texts
abbrev pub is_assignable : (to from : Kind) → Bool
is_assignable to from = same_class to from || (is_date to && takes_texts from)

-- whether CAST brings values of the kind `from` to the kind `to`: what an assignment does, any kind to a text, and a
-- text to a number
abbrev pub is_castable : (to from : Kind) → Bool
is_castable to from = is_assignable to from || takes_texts to || (takes_numbers to && takes_texts from)
