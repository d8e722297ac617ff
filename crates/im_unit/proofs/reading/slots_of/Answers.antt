use Rattle.std.proofs.Common.{◌≡◌, ◌*◌, ◌<◌, ◌∙◌, map, ap, length, refl, arith}
use Rattle.std.specs.Prelude.{vec_len}
use Rattle.std.specs.Arc.{arc_value}
use Rattle.std.proofs.lemmas.List.FromFn.{length-map-range_with_len}
use Rattle.im_unit.specs.inner.Kept.{row_across}
use Rattle.im_unit.proofs.PieceLemmas.{slots-more}
use Rattle.im_unit.proofs.reading.slots_of.Goals as goal

pub put_rows-requires : goal.put_rows-requires
put_rows-requires c =
    let columns = map arc_value c.args.columns.now in
    let inside : c.loop-i.i * 64 < c.args.count = omega (arith, c.loop-i-test.true, c.div_ceil-i-end.ensures) in
    let rows = c.in_ok-rows.rows in
    let long : vec_len rows ≡ c.min-many.result =
    rows.ok.0 ∙ (ap length c.in_ok-rows.ensures.rows ∙ length-map-range_with_len (row_across columns) (c.loop-i.i * 64) c.min-many.result) in
    omega (arith, inside, long, c.min-many.ensures, c.loop-i.invariant.len, c.loop-i.invariant.room)

pub loop-i-preserved : goal.loop-i-preserved
loop-i-preserved c =
    let columns = map arc_value c.args.columns.now in
    let inside : c.loop-i.i * 64 < c.args.count = omega (arith, c.loop-i-test.true, c.div_ceil-i-end.ensures) in
    let rows = c.in_ok-rows.rows in
    let long : vec_len rows ≡ c.min-many.result =
    rows.ok.0 ∙ (ap length c.in_ok-rows.ensures.rows ∙ length-map-range_with_len (row_across columns) (c.loop-i.i * 64) c.min-many.result) in
    record {
      slots =
          slots-more columns c.loop-i.i c.args.count (c.loop-i.i * 64) c.min-many.result c.loop-i.slots.items c.put_rows.new.slots.items rows.items inside
          refl c.min-many.ensures c.loop-i.invariant.slots c.in_ok-rows.ensures.rows c.put_rows.ensures.items;
      many = c.rows_at.ensures.many;
      len = omega (arith, inside, long, c.min-many.ensures, c.loop-i.invariant.len, c.put_rows.ensures.len);
      room = omega (arith, c.loop-i.invariant.room, c.put_rows.ensures.capacity);
    }
