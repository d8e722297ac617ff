use Rattle.std.proofs.Common.{sym, ap, arith, ◌∙◌}
use Rattle.std.specs.Option.{option_copied}
use Rattle.std.proofs.lemmas.List.{get_or-map, length-map}
use Rattle.im_unit.specs.Holding.{lent_slots}
use Rattle.im_unit.specs.inner.Kept.{lent}
use Rattle.im_unit.proofs.BuildLemmas.{present-more}
use Rattle.im_unit.proofs.building.rows_present.Goals as goal

pub loop-i-preserved : goal.loop-i-preserved
loop-i-preserved c =
    let rows = c.args.rows.now in
    let row = option_copied c.index-rows-i.result in
    record {
      rows = present-more (lent_slots rows) c.loop-i.i row (lent c.loop-i.present.items) (lent c.put_present.new.present.items)
          (omega (arith, length-map rows option_copied, c.loop-i-test.true))
          (sym (get_or-map option_copied rows c.loop-i.i c.index-rows-i.result row c.loop-i-test.true ∙ ap option_copied (sym c.index-rows-i.is)))
          c.loop-i.invariant.rows c.put_present.ensures.rows;
      few = omega (arith, c.put_present.ensures.few, c.loop-i.invariant.few);
      room = c.put_present.ensures.room ∙ c.loop-i.invariant.room;
    }
