use Rattle.im_column.proofs.PickLemmas.{unpacked-more}
use Rattle.im_column.proofs.picking.unpacked.Goals as goal

pub loop-place-preserved : goal.loop-place-preserved
loop-place-preserved c = record {
  codes = unpacked-more c.args.bits.now.codes c.loop-place.codes.items c.extend_from_slice.new.self.items c.share_of.result.now c.loop-place.place
      c.loop-place.invariant.codes c.share_of.ensures c.in_ok-extend_from_slice.ensures.items;
  held = c.turn_to-held.ensures.held;
}
