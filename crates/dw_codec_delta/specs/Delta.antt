-- How DELTA and DELTA32K spell values. The encodings are those of the Amazon Redshift guide (compression
-- encodings); the layout of their bytes is this project's own.
use Rattle.std.specs.Prelude.{◌≡◌, ◌⊎◌, ℕ, Option, None, Some, List, ℤ, ◌-ℤ◌}
use Rattle.dw_codec_plain.specs.Numbers.{number}
use Rattle.dw_codec_plain.specs.Spelling.{spelled}
use Rattle.dw_codec_plain.specs.Encodings.{short_or_full}

-- The first value in full width. Another by its difference from the value before where that is short, and else
-- behind the mark in full width.
abbrev pub delta_item : ℕ → ℕ → Option ℤ → ℤ → List ℕ
delta_item width step None value = number width value
delta_item width step (Some before) value = short_or_full width step (value -ℤ before) value

-- DELTA and DELTA32K, with steps of 1 and 2. So 1, 5, 50, 200, 185, 220, 221 in four bytes by DELTA is
-- 01 00 00 00 04 2d 80 c8 00 00 00 f1 23 01, and 0, 40000, 39999 by DELTA32K is 00 00 00 00 00 80 40 9c 00 00 ff ff.
abbrev pub delta : ℕ → ℕ → List ℤ → List ℕ
delta width step = spelled (delta_item width step) None

-- how many bytes a short difference may take
abbrev pub IsDeltaStep : ℕ → Type 0
IsDeltaStep step = (step ≡ 1) ⊎ (step ≡ 2)
