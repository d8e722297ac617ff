use Rattle.std.proofs.Common.{refl}
use Rattle.im_syntax.specs.declared.item.ItemOf.TheVariants as item
use Rattle.im_names.proofs.MapLemmas.{range_goes}
use Rattle.im_names.proofs.queries.all_columns.Goals as goal

pub loop-number-preserved : goal.loop-number-preserved
loop-number-preserved c =
    range_goes item.Column c.loop-number.number c.loop-number.items.items c.push.new.self.items
    (item.Column c.loop-number.number) refl c.in_ok-push.ensures.items c.loop-number.invariant
