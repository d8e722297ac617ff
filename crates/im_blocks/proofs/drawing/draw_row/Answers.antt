use Rattle.std.proofs.Common.{refl}
use Rattle.im_blocks.proofs.ImageLemmas.{DrawsRow-put}
use Rattle.im_blocks.proofs.drawing.draw_row.Goals as goal

pub returns : goal.returns
returns c =
    let old = c.args.draft.now in
    DrawsRow-put old record old { values = c.put_values.new.values; fresh = c.push.new.self } c.args.row.now c.args.fresh c.requires.whole c.requires.wide refl
    c.in_ok-put_values.ensures c.in_ok-push.ensures.items
