use Rattle.std.proofs.Common.{◌+◌, refl}
use Rattle.im_blocks.proofs.PickedLemmas.{Picks-put}
use Rattle.im_blocks.proofs.picking.Picking.put.Goals as goal

pub returns : goal.returns
returns c =
    let old = c.args.self.now in
    Picks-put old record old { rids = c.push.new.self; places = c.push-2.new.self; values = c.put_values.new.values; more = old.more + 1 } c.args.shown.now
    c.args.rid c.in_ok-place.place c.args.row.now c.requires.picked c.requires.wide c.in_ok-place.ensures refl refl refl c.in_ok-put_values.ensures
    c.in_ok-push.ensures.items c.in_ok-push-2.ensures.items
