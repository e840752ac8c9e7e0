-- What packed rows show: their columns, and the rows that the blocks hold.
use Rattle.std.specs.Prelude.{◌≡◌, ℕ, ◌≤◌, List, map, length, All}
use Rattle.dw_value.specs.declared.values.Value.{Value}
use Rattle.dw_value.specs.declared.values.Row.{Row}
use Rattle.dw_block.specs.Blocks.{BlockView}
use Rattle.dw_slice.specs.declared.packed.Storage.{Storage}
use Rattle.dw_slice.specs.Columns.{IsStorage, FitsColumns}
use Rattle.dw_slice.specs.Grid.{first_rows}

pub record PackedView : Type 0 where
  pub columns : List Storage
  pub rows : List Row

-- the column that a block is of
abbrev pub storage_in : BlockView → Storage
storage_in block = record { kind = block.kind; encoding = block.encoding }

abbrev pub storages_in : List BlockView → List Storage
storages_in blocks = map storage_in blocks

abbrev pub values_in : List BlockView → List (List Value)
values_in blocks = map (λ (block : BlockView). block.values) blocks

abbrev pub packed_view : ℕ → List BlockView → PackedView
packed_view count blocks = record { columns = storages_in blocks; rows = first_rows (values_in blocks) count }

-- each block has so many values, and the rows fit the columns
pub record IsPacked (count : ℕ) (blocks : List BlockView) : Type 0 where
  pub few : count ≤ 4096
  pub full : All (λ (block : BlockView). length block.values ≡ count) blocks
  pub columns : All IsStorage (storages_in blocks)
  pub fit : All (FitsColumns (storages_in blocks)) (first_rows (values_in blocks) count)
