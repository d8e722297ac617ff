use Rattle.std.proofs.Common.{◌≡◌, map, take}
use Rattle.im_names.specs.Definitions.{column_of}
use Rattle.im_names.proofs.definitions.schema_of.Given as goal

abbrev pub invariant-loop-part : goal.invariant-loop-part
invariant-loop-part l = l.columns.items ≡ map column_of (take l.part-index l.parts)
