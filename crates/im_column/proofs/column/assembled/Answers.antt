use Rattle.std.proofs.lemmas.Int.{to_z-of_z}
use mir.Syntax.{w128}
use mir.Val.{of_z, to_z}
use Rattle.im_column.specs.inner.Sized.{values_of}
use Rattle.im_column.proofs.ColumnLemmas.{assembled}
use Rattle.im_column.proofs.column.assembled.Goals as goal

pub invariant_of-result : goal.invariant_of-result
invariant_of-result c =
    let kept =
    assembled (values_of c.args.counted.kept) c.args.counted.kept c.args.counted.bytes c.args.bounds c.args.sum (to_z w128 (of_z w128 c.args.sum))
    c.requires.counted c.requires.bounds c.requires.sum (to_z-of_z w128 c.args.sum c.ranges.sum) c.requires.few in
    (kept.0, kept.1, kept.2, c.null.ensures)
