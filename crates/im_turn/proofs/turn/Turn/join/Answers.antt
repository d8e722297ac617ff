use Rattle.std.proofs.Common.{◌∙◌, ap, arith, rules}
use Rattle.im_turn.specs.Passes.{PassState}
use Rattle.im_turn.specs.inner.Steps.{SeatState}
use Rattle.im_turn.proofs.ShareSteps.{joins_allowed, compares_allowed}
use Rattle.im_turn.proofs.SettledLemmas.{free_where_idle}
use Rattle.im_turn.proofs.turn.Turn.join.Goals as goal

pub join_seat-requires : goal.join_seat-requires
join_seat-requires g c =
    let v = g.V.Logged in
    let words = c.self.invariant.0 in
    let seat = c.pass.inside.seat in
    let other = c.other.inside.seat in
    let free = free_where_idle v.who seat.me c.pass.invariant (ap (λ (p : PassState g.row.V-Item.Denot). p.holding) c.pass.view_is ∙ c.requires.idle) in
    let other_free = free_where_idle v.who other.me c.other.invariant
    (ap (λ (p : PassState g.row.V-Item.Denot). p.holding) c.other.view_is ∙ c.requires.other_idle) in
    let first = ap (λ (p : PassState g.row.V-Item.Denot). p.who) c.pass.view_is ∙ c.requires.first in (
      search rules,
      search rules,
      other_free.carries,
      omega arith,
      joins_allowed v.log v.who v.fixed seat.id seat.me.0 other.id other.me.0 free.live first free.idle other_free.live other_free.idle,
    )

pub load-requires : goal.load-requires
load-requires g c =
    let v = g.V.Logged in
    let words = c.self.invariant.0 in
    let slots = c.self.inside.table.shared.table_id.slots in
    let seat = c.pass.inside.seat in
    let joined = c.join_seat.new.seat in
    let free = free_where_idle v.who seat.me c.pass.invariant (ap (λ (p : PassState g.row.V-Item.Denot). p.holding) c.pass.view_is ∙ c.requires.idle) in
    let me = c.join_seat.ensures.2 in (
      search rules,
      omega arith,
      compares_allowed v.log v.who v.fixed slots joined.id joined.me
          (ap (λ (m : SeatState g.row.V.Denot g.row.V-Item.Denot). m.0.live) me
          ∙ free.live) (ap (λ (m : SeatState g.row.V.Denot g.row.V-Item.Denot). m.0.phase) me ∙ free.idle),
    )
