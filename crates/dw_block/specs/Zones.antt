-- The zone of a block's values, when a value passes a test, and when a block may hold one that does. The rules are this
-- project's own; a comparison with NULL passes nothing, after the SQL standard.
use Rattle.std.specs.Prelude.{ℕ, ◌≤◌, nat_lt, Bool, false, not, ◌&&◌, Option, None, Some, List, if◌then◌else◌}
use Rattle.std.specs.List.{fold, count_by}
use Rattle.std.specs.Option.{is_some}
use Rattle.std.specs.Ordering.{is_eq, is_lt, is_le, is_gt, is_ge, flip_args}
use Rattle.std.specs.declared.cmp.Ordering.{Ordering}
use Rattle.dw_value.specs.declared.kinds.Comparison.{Comparison}
use Rattle.dw_value.specs.declared.kinds.Comparison.TheVariants as test
use Rattle.dw_value.specs.declared.values.Value.{Value}
use Rattle.dw_value.specs.Values.{value_cmp, scaled_cmp, is_null, passes}
use Rattle.dw_block.specs.declared.zone.Zone.{Zone}
use Rattle.dw_block.specs.declared.zone.Test.{Test}
use Rattle.dw_block.specs.declared.zone.Test.TheVariants.{Compare, IsNull, NotNull}

-- of the first value in an order and one more that isn't NULL, the first in this order
abbrev pub earlier_of : (Value → Value → Ordering) → Option Value → Value → Option Value
earlier_of order None value = Some value
earlier_of order (Some first) value = if is_lt (order value first) then Some value else Some first

-- the same of one more value, where NULL is passed over
abbrev pub earlier : (Value → Value → Ordering) → Option Value → Value → Option Value
earlier order first value = if is_null value then first else earlier_of order first value

-- the least of the values that aren't NULL
abbrev pub least_of : List Value → Option Value
least_of values = fold (earlier value_cmp) None values

-- the greatest of the values that aren't NULL
abbrev pub greatest_of : List Value → Option Value
greatest_of values = fold (earlier (flip_args value_cmp)) None values

-- the zone of a block's values
abbrev pub zone_of : List Value → Zone
zone_of values = record { least = least_of values; greatest = greatest_of values; nulls = count_by is_null values }

-- whether a comparison with a value may hold of values between two bounds, which stand so to it
abbrev pub may_hold : Comparison → Ordering → Ordering → Bool
may_hold test.Equal low high = is_le low && is_ge high
may_hold test.Unequal low high = not (is_eq low && is_eq high)
may_hold test.Less low high = is_lt low
may_hold test.AtMost low high = is_le low
may_hold test.Greater low high = is_gt high
may_hold test.AtLeast low high = is_ge high

-- the same of a zone's bounds at a scale, and a value at its own; without bounds nothing holds
abbrev pub bounds_may_hold : Comparison → Option Value → Option Value → ℕ → Value → ℕ → Bool
bounds_may_hold comparison (Some least) (Some greatest) zone_scale value scale =
    may_hold comparison (scaled_cmp least zone_scale value scale) (scaled_cmp greatest zone_scale value scale)
bounds_may_hold comparison least greatest zone_scale value scale = false

-- whether some value of a block may pass the test, by its zone
abbrev pub may_match : Zone → ℕ → Test → Bool
may_match zone zone_scale (Compare comparison value scale) =
    not (is_null value) && bounds_may_hold comparison zone.least zone.greatest zone_scale value scale
may_match zone zone_scale IsNull = nat_lt 0 zone.nulls
may_match zone zone_scale NotNull = is_some zone.least

-- whether a value of a column of this scale passes the test
abbrev pub passes_test : ℕ → Test → Value → Bool
passes_test column_scale (Compare comparison value scale) found =
    not (is_null found) && not (is_null value) && passes comparison (scaled_cmp found column_scale value scale)
passes_test column_scale IsNull found = is_null found
passes_test column_scale NotNull found = not (is_null found)

-- the value of the test is of a scale that a column may have
abbrev pub HasScale : Test → Type 0
HasScale (Compare comparison value scale) = scale ≤ 37
HasScale IsNull = Unit {0}
HasScale NotNull = Unit {0}
