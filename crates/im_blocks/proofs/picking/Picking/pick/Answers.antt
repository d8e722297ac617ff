use Rattle.std.proofs.Common.{refl}
use Rattle.im_blocks.proofs.PickedLemmas.{Picks-pick}
use Rattle.im_blocks.proofs.picking.Picking.pick.Goals as goal

pub returns : goal.returns
returns c =
    let old = c.args.self.now in
    Picks-pick old record old { rids = c.push.new.self; places = c.push-2.new.self } c.args.shown.now c.args.rid c.args.place c.requires.picked c.requires.there
    refl refl refl refl c.in_ok-push.ensures.items c.in_ok-push-2.ensures.items
