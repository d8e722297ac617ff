use Rattle.std.proofs.Common.{◌+◌, refl}
use Rattle.im_blocks.proofs.GatherLemmas.{Gathers-put}
use Rattle.im_blocks.proofs.gathered.Gathered.put.Goals as goal

pub returns : goal.returns
returns c =
    let old = c.args.self.now in
    Gathers-put old record old { count = old.count + 1; values = c.put_values.new.values } c.args.row.now c.requires.whole c.requires.width c.requires.number
    refl refl refl refl c.in_ok-put_values.ensures
