-- How a scan is served an extent, as a history tells of it.
use Rattle.std.specs.Prelude.{ℕ, Bool, List, length, map, Option, Some, None, if◌then◌else◌}
use Rattle.im_values.specs.declared.content.Content.{Content as Value}
use Rattle.im_syntax.specs.Condition.{CondOf}
use Rattle.im_history.specs.declared.view.View.{View}
use Rattle.im_history.specs.History.{History}
use Rattle.im_history.specs.Serving.{rows_in, serving}
use Rattle.im_history.specs.Contents.{columns_of}
use Rattle.im_history.specs.Units.{Content, content_at, stale}
use Rattle.im_index.specs.declared.bounds.Bounds.{Bounds}
use Rattle.im_index.specs.Bounds.{bounds_of}
use Rattle.im_index.specs.Excludes.{excludes_where}
use Rattle.im_replies.specs.declared.served.How.{How}
use Rattle.im_replies.specs.declared.served.How.TheVariants.{Unit as ByUnit, Pruned, Blocks}

-- the storage index of a unit: the bounds of its columns
abbrev pub edges_of : Content → List Bounds
edges_of content = map bounds_of (columns_of content)

-- the storage index of a unit excludes a condition: no row that the unit holds meets it
abbrev pub is_pruned : Content → Option (CondOf ℕ Value) → Bool
is_pruned content filter = excludes_where filter (edges_of content)

-- by a unit of this SCN, of which so many rows are stale: by its rows, or pruned
abbrev pub by_unit : Bool → ℕ → ℕ → How
by_unit pruned unit_scn stale = if pruned then Pruned unit_scn stale else ByUnit unit_scn stale

-- by the unit of this SCN, or by what is left where that is pruned, and by the blocks for what is stale of it; or by the blocks alone
abbrev pub mix_by : History → View → ℕ → Option (CondOf ℕ Value) → Option ℕ → How
mix_by history view extent filter None = Blocks
mix_by history view extent filter (Some unit_scn) =
    by_unit (is_pruned (content_at history view.table extent unit_scn) filter) unit_scn
    (length (stale history view.table extent unit_scn view.scn))

-- how a scan with a condition is served an extent of its view: by the unit that serves the view, pruned where that excludes the condition
abbrev pub mix : History → View → ℕ → Option (CondOf ℕ Value) → How
mix history view extent filter = mix_by history view extent filter (serving history view extent)

-- how many rows are read from the blocks for an extent that is served so
abbrev pub reads : View → ℕ → How → ℕ
reads view extent (ByUnit scn stale) = stale
reads view extent (Pruned scn stale) = stale
reads view extent Blocks = rows_in view extent
