use Rattle.std.proofs.Common.{Some, ap, arith, ◌∙◌}
use Rattle.std.specs.Option.{option_copied}
use Rattle.std.proofs.lemmas.List.{map_push}
use Rattle.im_history.proofs.FetchedLaws.{put-next}
use Rattle.im_unit.specs.Holding.{lent_slots}
use Rattle.im_worker.proofs.rows.put_run.Goals as goal

pub loop-at-preserved : goal.loop-at-preserved
loop-at-preserved c = record {
  rows = put-next (lent_slots c.args.slots.now.items) (lent_slots c.loop-at.slots.items) (lent_slots c.push_reserved.new.self.items) c.args.run.now c.loop-at.at
      c.values.result.now c.values.ensures c.loop-at.invariant.rows
      (ap lent_slots c.push_reserved.ensures.items ∙ map_push option_copied c.loop-at.slots.items (Some c.values.result));
  long = omega (arith, c.push_reserved.ensures.len, c.loop-at.invariant.long);
  room = omega (arith, c.push_reserved.ensures.capacity, c.loop-at.invariant.room);
}
