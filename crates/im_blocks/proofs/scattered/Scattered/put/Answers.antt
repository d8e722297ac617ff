use Rattle.std.proofs.Common.{refl}
use Rattle.im_blocks.proofs.ScatterLemmas.{Scatters-put}
use Rattle.im_blocks.proofs.scattered.Scattered.put.Goals as goal

pub returns : goal.returns
returns c =
    let old = c.args.self.now in
    Scatters-put old record old { rids = c.push.new.self; values = c.put_values.new.values } c.args.rid c.args.row.now c.requires.whole c.requires.width
    refl refl c.in_ok-push.ensures.items c.in_ok-put_values.ensures
