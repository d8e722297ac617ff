use Rattle.std.proofs.Common.{◌<◌, length, arith}
use Rattle.std.specs.Vec.Iter.{into_iter_items}
use Rattle.im_unit.proofs.ReadLemmas.{spread-more, spread-all}
use Rattle.im_unit.proofs.reading.spread_rows.Goals as goal

pub loop-place-preserved : goal.loop-place-preserved
loop-place-preserved c =
    let inside : c.loop-place.place < length c.args.presence.now = omega (arith, c.loop-place-test.true, c.len-place-end.ensures.len) in
    spread-more c.args.presence.now c.loop-place.place c.is_present.result c.args.rows.items (into_iter_items c.loop-place.rows)
    (into_iter_items c.next_where.new.rows) c.next_where.result c.loop-place.slots.items c.push.new.self.items inside c.is_present.ensures
    c.next_where.ensures c.in_ok-push.ensures.items c.loop-place.invariant

pub returns : goal.returns
returns c =
    spread-all c.args.presence.now c.loop-place.place c.args.rows.items (into_iter_items c.loop-place.rows) c.loop-place.slots.items
    (omega (arith, c.loop-place-test.false, c.len-place-end.ensures.len)) c.loop-place.invariant
