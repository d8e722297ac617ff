-- What is stale of an extent's unit for a cursor.
use Rattle.std.specs.Prelude.{ℕ, ◌==◌, List, map, Option, Some, None, if◌then◌else◌}
use Rattle.im_history.specs.History.{History}
use Rattle.im_history.specs.Rows.{Row, rows}
use Rattle.im_history.specs.Units.{Content, stale}

-- the row numbers of an extent that are stale at an SCN beside a unit, each with the row committed at that SCN, in order
abbrev pub stale_in : History → ℕ → ℕ → ℕ → ℕ → List (ℕ × Option Row)
stale_in history table extent scn unit_scn = map (λ rid. (rid, rows history table scn rid)) (stale history table extent unit_scn scn)

-- what a unit holds, unless it has another number of columns
abbrev pub content_as_wide : ℕ → Option Content → Option Content
content_as_wide columns None = None
content_as_wide columns (Some content) = if content.columns == columns then Some content else None
