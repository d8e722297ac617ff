use Rattle.std.proofs.Common.{arith}
use Rattle.im_turn.proofs.HoldSteps.{adds_at}
use Rattle.im_turn.proofs.hold.count.Goals as goal

pub store-requires : goal.store-requires
store-requires g c =
    let v = g.V.Logged in
    let words = c.requires.sized.0 in (
      c.requires.seat,
      omega arith,
      adds_at v.log v.who v.fixed _ _ _ c.args.value.now.value c.args.entries c.requires.filled
          c.requires.all c.requires.own,
    )
