-- What is known of a buffer's item that was decoded.
use Rattle.std.specs.Prelude.{◌≡◌, ◌^◌, ◌<◌, true, length}
use Rattle.xn_changes.specs.Items.{are_within, cover, pieces_in}
use Rattle.xn_changes.specs.declared.item.BufferItem.{BufferItem}

-- its map is no longer than its first region can say, its regions cover the pieces of the map, and all of these lie in the buffer
pub record IsCovered (item : BufferItem) : Type 0 where
  pub words : length item.map < 2 ^ 32
  pub covered : cover item.regions (pieces_in item.map) ≡ true
  pub within : are_within item.length (pieces_in item.map) ≡ true
