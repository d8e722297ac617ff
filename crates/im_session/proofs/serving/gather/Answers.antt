use Rattle.std.proofs.Common.{ℕ, List, sym, subst}
use Rattle.im_core.specs.declared.answers.Pin.{Pin}
use Rattle.im_history.specs.Units.{Content}
use Rattle.im_plan.specs.Plan.{Plan}
use Rattle.im_replies.specs.declared.served.Served.{Served}
use Rattle.im_session.specs.inner.Pins.{HasLeft, HasWanted}
use Rattle.im_session.specs.inner.Scans.{Stops}
use Rattle.im_session.proofs.PinLemmas.{asked-kept, has-left, wanted-all}
use Rattle.im_session.proofs.ServingLemmas.{err-always}
use Rattle.im_session.proofs.serving.gather.Goals as goal
use Rattle.im_statements.specs.Outcomes.{Outcome}
use Rattle.im_statements.specs.Scans.{serve_from}

pub wanted_part-made-requires-clause-asked : goal.wanted_part-made-requires-clause-asked
wanted_part-made-requires-clause-asked g c κs within =
    asked-kept c.args.context.now.who c.args.cursor.now (g.H.Reach.known c.args.reach.now) c.requires.kept

pub wanted_part-made-requires-clause-left : goal.wanted_part-made-requires-clause-left
wanted_part-made-requires-clause-left g c κs within =
    subst (λ (pins : List (Pin Content)). HasLeft c.args.wanted c.args.cursor.now pins) (sym c.as_slice.ensures.value)
    (has-left c.args.wanted c.args.cursor.now (g.H.Reach.known c.args.reach.now).log c.in_ok-served.served.pins.items c.requires.kept.sound.part
    c.in_ok-served.ensures.pins)

pub returns-in_err-part-clause-err : goal.returns-in_err-part-clause-err
returns-in_err-part-clause-err g c =
    let stops : (k : ℕ) (on : List Served → Plan Outcome)
    → Stops c.args.context.now.who k (g.H.Reach.known c.args.reach.now)
    (serve_from c.args.cursor.now.view c.args.cursor.now.bound.filter c.args.cursor.now.next on) (g.H.Reach.known c.serve_all.new.reach) =
    λ k on. record { later = on c.in_ok-served.served.marks.items; comes = c.in_ok-served.ensures.marks k on } in
    err-always _ _ (λ error. stops)

pub returns-clause-part : goal.returns-clause-part
returns-clause-part g c =
    wanted-all c.args.wanted c.args.context.now.who c.args.cursor.now (g.H.Reach.known c.args.reach.now) c.in_ok-served.served.pins.items
    c.in_ok-part.part c.requires.kept c.in_ok-served.ensures.pins
    (subst (λ (pins : List (Pin Content)). HasWanted c.args.wanted c.args.cursor.now pins c.in_ok-part.part) c.as_slice.ensures.value c.in_ok-part.ensures)
