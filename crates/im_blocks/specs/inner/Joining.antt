-- Rows that are copied into one block, piece by piece.
use Rattle.std.specs.Prelude.{◌≡◌, ℕ, ◌+◌, ◌*◌, ◌^◌, ◌≤◌, List, ◌++◌, length}
use Rattle.im_history.specs.declared.change.Change.{Change}
use Rattle.im_history.specs.Puts.{put_from}
use Rattle.im_values.specs.declared.content.Content.{Content as Value}
use Rattle.im_values.specs.Stretches.{cut}
use Rattle.im_blocks.specs.declared.joining.Joint.{Joint}

-- the changes that put the rows
abbrev pub changes_of : Joint → List Change
changes_of joint = put_from joint.table joint.first (cut joint.count joint.width joint.values.items)

-- the block has the values of so many rows, at numbers of 64 bits
pub record IsWhole (joint : Joint) : Type 0 where
  pub long : length joint.values.items ≡ joint.count * joint.width
  pub within : joint.first + joint.count ≤ 2 ^ 63

-- rows of so many values each were put behind other values
pub record AreLaid (width : ℕ) (old : List Value) (rows : List (List Value)) (new : List Value) : Type 0 where
  pub laid : List Value
  pub behind : new ≡ old ++ laid
  pub long : length laid ≡ length rows * width
  pub are : cut (length rows) width laid ≡ rows
