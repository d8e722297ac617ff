use Rattle.std.proofs.Common.{◌≡◌, ◌∙◌, ◌∷◌, [], None, ap, arith, rules}
use Rattle.im_turn.specs.Logs.{GrewByOthers}
use Rattle.im_turn.specs.inner.Steps.{SeatState}
use Rattle.im_turn.specs.inner.Views.{taken, loaded}
use Rattle.im_turn.proofs.HoldSteps.{loads_allowed, seen_all, slot_is, holder_after}
use Rattle.im_turn.proofs.hold.fetch.Goals as goal

pub load-requires : goal.load-requires
load-requires g c =
    let v = g.V.Logged in
    let words = c.requires.sized.0 in
    let free = c.requires.free in
    let seat = c.seize.new.seat in
    let took = c.seize.ensures.took in (
      search rules,
      omega arith,
      loads_allowed v.log v.who v.fixed c.args.shared.now.table_id.slots seat.id seat.me
          (ap (λ (m : SeatState g.row.V.Denot g.row.V-Item.Denot). m.0.live) took.is
          ∙ free.live) (ap (λ (m : SeatState g.row.V.Denot g.row.V-Item.Denot). m.0.phase) took.is),
    )

pub exchange-requires : goal.exchange-requires
exchange-requires g c =
    let v = g.V.Logged in
    let took = c.seize.ensures.took in
    let me = c.load.new.seat.me in
    let is = seen_all v.log v.who v.fixed c.args.seat.now.me c.seize.new.seat.me me took c.load.ensures.2 in
    (search rules, slot_is v.log v.who v.fixed me (loaded (taken (v.log took.value) c.args.seat.now.me.0)) took.value is)

pub returns-clause-holder : goal.returns-clause-holder
returns-clause-holder g c =
    let v = g.V.Logged in
    let before = c.args.seat.now.me in
    let value = c.unwrap.result in
    let others : GrewByOthers v.who before.0.who before.0.seen (v.log value) = search rules in
    let is : c.exchange.new.seat.me ≡ (loaded (taken (v.log value) before.0), (0, None) ∷ []) = search rules in
    holder_after v.log v.who v.fixed before c.exchange.new.seat.me value c.requires.free others is
