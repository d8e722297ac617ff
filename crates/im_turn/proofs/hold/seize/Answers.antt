use Rattle.std.proofs.Common.{◌∙◌, sym, subst, arith}
use Rattle.im_turn.specs.inner.Steps.{IsFree}
use Rattle.im_turn.proofs.HoldSteps.{takes_allowed}
use Rattle.im_turn.proofs.hold.seize.Goals as goal

pub compare_exchange-found-requires : goal.compare_exchange-found-requires
compare_exchange-found-requires g c =
    let kept = c.loop.invariant in
    let words = c.requires.sized.0 in
    let v = g.V.Logged in (
      kept.turn ∙ c.requires.seat,
      omega arith,
      takes_allowed v.log v.who v.fixed c.args.shared.now.table_id.slots c.loop.seat.id c.loop.seat.me (subst (IsFree v.who) (sym kept.me) c.requires.free),
    )
