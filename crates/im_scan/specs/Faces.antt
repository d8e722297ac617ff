-- What a scan reads of an extent's column unit, and how it was served the extent.
use Rattle.std.specs.Prelude.{◌≡◌, ℕ, true, false, List, length, Option, Some, None}
use Rattle.im_values.specs.declared.content.Content.{Content as Value}
use Rattle.im_syntax.specs.Condition.{CondOf}
use Rattle.im_syntax.specs.declared.bound.Bound.{Bound}
use Rattle.im_history.specs.Rows.{Row}
use Rattle.im_history.specs.Units.{Content}
use Rattle.im_replies.specs.Mixes.{by_unit, edges_of, is_pruned}
use Rattle.im_scan.specs.declared.faces.Face.{Face}
use Rattle.im_scan.specs.declared.faces.Face.TheVariants.{Whole, Edges, Bare}
use Rattle.im_replies.specs.declared.served.How.{How}
use Rattle.im_replies.specs.declared.served.How.TheVariants.{Blocks}

-- the unit whose rows a face shows
abbrev pub unit_of : Face → Option Content
unit_of (Whole unit) = Some unit.now
unit_of (Edges edges) = None
unit_of Bare = None

-- a face shows what a scan for a query is to read of this unit, if there is one: all of it, or, where the unit is pruned, the bounds of
-- its columns alone
abbrev pub Shows : Face → Option Content → Bound → Type 0
Shows (Whole whole) (Some content) bound = (whole.now ≡ content) × (is_pruned content bound.filter ≡ false)
Shows (Whole whole) None bound = ⊥
Shows (Edges edges) (Some content) bound = (edges.now ≡ edges_of content) × (is_pruned content bound.filter ≡ true)
Shows (Edges edges) None bound = ⊥
Shows Bare (Some content) bound = ⊥
Shows Bare None bound = Unit {0}

-- how a scan is served: by the unit at its SCN, pruned or not, and by the blocks for so many rows, or by the blocks alone
abbrev pub how_of : Option Content → List (ℕ × Option Row) → Option (CondOf ℕ Value) → How
how_of None fetched filter = Blocks
how_of (Some content) fetched filter = by_unit (is_pruned content filter) content.scn (length fetched)
