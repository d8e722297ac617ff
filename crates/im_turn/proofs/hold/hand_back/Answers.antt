use Rattle.std.proofs.Common.{arith}
use Rattle.im_turn.proofs.HoldSteps.{gives_at}
use Rattle.im_turn.proofs.hold.hand_back.Goals as goal

pub store-requires : goal.store-requires
store-requires g c =
    let v = g.V.Logged in
    let words = c.requires.sized.0 in (
      c.requires.seat,
      omega arith,
      gives_at v.log v.who v.fixed _ _ _ c.args.value.now.value c.requires.filled c.requires.counted
          c.requires.fixed,
    )
