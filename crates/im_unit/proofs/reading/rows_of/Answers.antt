use Rattle.std.proofs.Common.{◌*◌, ◌<◌, ◌∙◌, map, refl, arith}
use Rattle.std.specs.Arc.{arc_value}
use Rattle.im_unit.proofs.PieceLemmas.{piece-more}
use Rattle.im_unit.proofs.reading.rows_of.Goals as goal

pub loop-i-preserved : goal.loop-i-preserved
loop-i-preserved c =
    let inside : c.loop-i.i * 64 < c.args.count = omega (arith, c.loop-i-test.true, c.div_ceil-i-end.ensures) in
    record {
      rows =
          c.in_ok-append.ensures.items
          ∙ piece-more (map arc_value c.args.columns.now) c.loop-i.i c.args.count (c.loop-i.i * 64) c.min-many.result c.loop-i.rows.items
          c.in_ok-rows_at.field-0.items inside refl c.min-many.ensures c.loop-i.invariant.rows c.in_ok-rows_at.ensures.rows;
      many = c.rows_at.ensures.many;
    }
