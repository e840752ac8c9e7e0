-- What a block's bytes are the spelling of.
use Rattle.std.specs.Prelude.{◌≡◌, ℕ, ◌≤◌, false, true, List, length, All}
use Rattle.dw_value.specs.declared.kinds.Kind.{Kind}
use Rattle.dw_value.specs.declared.kinds.Encoding.{Encoding}
use Rattle.dw_value.specs.declared.values.Value.{Value}
use Rattle.dw_value.specs.Values.{takes_texts}
use Rattle.dw_codec_plain.specs.Numbers.{FitsWidth}
use Rattle.dw_block.specs.declared.zone.Zone.{Zone}
use Rattle.dw_block.specs.Zones.{zone_of}
use Rattle.dw_block.specs.Nulls.{null_bits}
use Rattle.dw_value.specs.Encodings.{width}
use Rattle.dw_block.specs.Blocks.{IsValueOf, IsBlockText, numbers_of, texts_of, block_bytes}

-- what a block keeps of its values: numbers of the kind's width, or texts
pub record IsSpelled (kind : Kind) (values : List Value) : Type 0 where
  pub numbers : takes_texts kind ≡ false → All (FitsWidth (width kind)) (numbers_of values)
  pub texts : takes_texts kind ≡ true → All IsBlockText (texts_of values)

-- the values of a block, which these bytes and this zone belong to
pub record Spells
    (encoding : Encoding) (kind : Kind) (count : ℕ) (bytes : List ℕ) (zone : Zone) (values : List Value) : Type 0 where
  pub counted : length values ≡ count
  pub few : count ≤ 4096
  pub each : All (IsValueOf kind) values
  pub spelled : IsSpelled kind values
  pub bytes_are : bytes ≡ block_bytes encoding kind values
  pub zone_is : zone ≡ zone_of values

-- there are such values, and no others
pub record IsContent
    (encoding : Encoding) (kind : Kind) (count : ℕ) (bytes : List ℕ) (zone : Zone) (values : List Value) : Type 0 where
  pub spells : ∥ Spells encoding kind count bytes zone values ∥₁
  pub only : (others : List Value) → Spells encoding kind count bytes zone others → others ≡ values

abbrev pub Content : Encoding → Kind → ℕ → List ℕ → Zone → Type 0
Content encoding kind count bytes zone = (values : List Value) × IsContent encoding kind count bytes zone values

-- these null bits and these items, numbers or texts, are those of so many values of the kind
pub record IsPlaced {X : Type 0} (items_of : List Value → List X) (kind : Kind)
    (nulls : List ℕ) (items : List X) (count : ℕ) (values : List Value) : Type 0 where
  pub counted : length values ≡ count
  pub each : All (IsValueOf kind) values
  pub nulls_are : nulls ≡ null_bits values
  pub items_are : items ≡ items_of values
