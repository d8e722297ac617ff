-- How much of the area the column units take.
use Rattle.std.specs.Prelude.{ℕ, sum_by, Option, Some, None}
use Rattle.im_history.specs.declared.task.Task.{Task}
use Rattle.im_history.specs.Contents.{unit_bytes}
use Rattle.im_history.specs.Extents.{Extent, all_extents}
use Rattle.im_history.specs.History.{History}
use Rattle.im_history.specs.Units.{Content, task_content, unit_content}

-- the bytes that a unit counts for, and none where there is no unit
abbrev pub content_bytes : Option Content → ℕ
content_bytes None = 0
content_bytes (Some content) = unit_bytes content

-- the bytes that the current unit of an extent counts for
abbrev pub extent_bytes : History → Extent → ℕ
extent_bytes history extent = content_bytes (unit_content history extent.table extent.number)

-- the bytes that all current units count for together
unfoldable pub used : History → ℕ
used history = sum_by (extent_bytes history) (all_extents history)

-- the bytes that the unit of a build counts for
abbrev pub task_bytes : History → Task → ℕ
task_bytes history task = unit_bytes (task_content history task)
