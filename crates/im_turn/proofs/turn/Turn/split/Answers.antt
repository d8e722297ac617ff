use Rattle.std.proofs.Common.{◌∙◌, ap, arith, rules}
use Rattle.im_turn.specs.inner.Steps.{SeatState}
use Rattle.im_turn.proofs.ShareSteps.{recalls_allowed}
use Rattle.im_turn.proofs.turn.Turn.split.Goals as goal

pub load-requires : goal.load-requires
load-requires g c =
    let v = g.V.Logged in
    let slots = c.self.inside.table.shared.table_id.slots in
    let words = c.self.invariant.0 in
    let seat = c.cut-seat.result in
    let made = c.cut-seat.ensures.made.1 in (
      search rules,
      omega arith,
      recalls_allowed v.log v.who v.fixed slots seat.id seat.me
          (ap (λ (m : SeatState g.row.V.Denot g.row.V-Item.Denot). m.0.live) made ∙ c.pass.invariant.live),
    )
