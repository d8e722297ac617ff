use Rattle.std.proofs.Common.{◌≡◌, ◌+◌, ◌-◌, ◌∙◌, [], ◌∷◌, ◌++◌, List, ap, sym, subst, arith, rules}
use Rattle.im_replies.specs.declared.served.Served.{Served}
use Rattle.im_session.specs.inner.Pins.{HasPins}
use Rattle.im_session.specs.inner.Scans.{Comes}
use Rattle.im_session.proofs.CursorLemmas.{agrees-went}
use Rattle.im_session.proofs.PinLemmas.{pin-went, pins-done, pins-next, pins-none}
use Rattle.im_session.proofs.ReadsLemmas.{rows-next}
use Rattle.im_session.proofs.ScanLemmas.{comes-last, comes-next, went-on}
use Rattle.im_session.proofs.ServingLemmas.{has-served, read-served, stops-served}
use Rattle.im_session.proofs.serving.serve_all.Goals as goal
use Rattle.im_statements.specs.Scans.{serve, serve_from}

pub served_pin-requires-clause-kept : goal.served_pin-requires-clause-kept
served_pin-requires-clause-kept g c =
    agrees-went c.args.context.now.who c.args.cursor.now (g.H.Reach.known c.args.reach.now) (g.H.Reach.known c.loop-extent.reach) c.requires.speaks
    c.loop-extent.invariant.went c.requires.kept

pub returns-in_default-clause-went : goal.returns-in_default-clause-went
returns-in_default-clause-went g c =
    went-on (g.H.Reach.known c.args.reach.now) (g.H.Reach.known c.loop-extent.reach) (g.H.Reach.known c.served_pin.new.reach)
    c.loop-extent.invariant.went c.in_default.ensures.went

pub returns-in_default-clause-err : goal.returns-in_default-clause-err
returns-in_default-clause-err g c = λ k on.
    stops-served c.args.context.now.who c.args.cursor.now c.loop-extent.extent
    (g.H.Reach.known c.args.reach.now) (g.H.Reach.known c.loop-extent.reach) (g.H.Reach.known c.served_pin.new.reach)
    c.in_default.ensures.went k on c.loop-extent.all.marks.items (c.loop-extent.invariant.comes k on)

pub returns-in_default-take-clause-went : goal.returns-in_default-take-clause-went
returns-in_default-take-clause-went g c =
    went-on (g.H.Reach.known c.args.reach.now) (g.H.Reach.known c.loop-extent.reach) (g.H.Reach.known c.served_pin.new.reach)
    c.loop-extent.invariant.went c.in-Ok.ensures.went

pub returns-in_default-take-clause-err : goal.returns-in_default-take-clause-err
returns-in_default-take-clause-err g c = λ k on.
    stops-served c.args.context.now.who c.args.cursor.now c.loop-extent.extent
    (g.H.Reach.known c.args.reach.now) (g.H.Reach.known c.loop-extent.reach) (g.H.Reach.known c.served_pin.new.reach)
    c.in-Ok.ensures.went k on c.loop-extent.all.marks.items (c.loop-extent.invariant.comes k on)

pub loop-extent-init : goal.loop-extent-init
loop-extent-init g c =
    let none : c.new-2.result.items ≡ [] = search rules in
    record {
      went = search rules;
      pins =
          subst (HasPins c.args.wanted c.args.cursor.now.bound c.args.cursor.now.view (g.H.Reach.known c.args.reach.now).log c.args.cursor.now.next
          c.args.cursor.now.next) (sym none)
          (pins-none c.args.wanted c.args.cursor.now.bound c.args.cursor.now.view (g.H.Reach.known c.args.reach.now).log c.args.cursor.now.next);
      comes = search rules;
      read = search rules;
      rows = search rules;
    }

pub loop-extent-preserved : goal.loop-extent-preserved
loop-extent-preserved g c = record {
  went = went-on (g.H.Reach.known c.args.reach.now) (g.H.Reach.known c.loop-extent.reach) (g.H.Reach.known c.served_pin.new.reach)
      c.loop-extent.invariant.went c.in-Ok.ensures.went;
  pins =
      pins-next c.args.wanted c.args.cursor.now.bound c.args.cursor.now.view (g.H.Reach.known c.args.reach.now).log c.args.cursor.now.next
      c.loop-extent.extent c.loop-extent.all.pins.items _ c.in-Ok.served.pin c.in-Ok-take.ensures.pins
      (pin-went c.args.cursor.now.bound c.args.cursor.now.view c.loop-extent.extent c.in-Ok.served.pin
      (g.H.Reach.known c.args.reach.now) (g.H.Reach.known c.loop-extent.reach) c.requires.kept.scan.sees.known c.loop-extent.invariant.went
      c.in-Ok.ensures.pin)
      c.loop-extent.invariant.pins;
  comes = λ k on.
      subst (λ (marks : List Served).
      Comes c.args.context.now.who k (g.H.Reach.known c.args.reach.now)
      (serve_from c.args.cursor.now.view c.args.cursor.now.bound.filter c.args.cursor.now.next on)
      (g.H.Reach.known c.served_pin.new.reach)
      (serve c.args.cursor.now.view c.args.cursor.now.bound.filter
      (c.args.cursor.now.view.extents - (c.loop-extent.extent + 1)) (c.loop-extent.extent + 1) marks on))
      (sym (c.in-Ok-take.ensures.marks ∙ ap (λ (mark : Served). c.loop-extent.all.marks.items ++ mark ∷ []) c.in-Ok.ensures.mark))
      (comes-next c.args.context.now.who k (g.H.Reach.known c.args.reach.now) (g.H.Reach.known c.loop-extent.reach) (g.H.Reach.known c.served_pin.new.reach)
      (serve_from c.args.cursor.now.view c.args.cursor.now.bound.filter c.args.cursor.now.next on)
      c.args.cursor.now.view c.args.cursor.now.bound.filter c.loop-extent.extent
      c.loop-extent.all.marks.items on c.loop-extent-test.true c.in-Ok.ensures.went (c.loop-extent.invariant.comes k on));
  read =
      read-served c.args.context.now.who c.args.cursor.now c.loop-extent.extent
      (g.H.Reach.known c.args.reach.now) (g.H.Reach.known c.loop-extent.reach) (g.H.Reach.known c.served_pin.new.reach)
      c.in-Ok.ensures.went c.args.steps.now c.loop-extent.steps c.served_pin.new.steps
      c.loop-extent.invariant.went c.loop-extent.invariant.read c.in-Ok.ensures.ticks;
  rows =
      rows-next c.args.cursor.now.view c.loop-extent.extent c.args.steps.now c.loop-extent.steps c.served_pin.new.steps
      c.loop-extent.all.marks.items _ c.in-Ok.served.mark (ap (λ (mark : Served). mark.extent) c.in-Ok.ensures.mark)
      c.in-Ok-take.ensures.marks c.loop-extent.invariant.rows c.in-Ok.ensures.rows;
}

pub returns-clause-pins : goal.returns-clause-pins
returns-clause-pins g c =
    let past = c.loop-extent-test.false in
    let end = c.loop-extent.auto.extent-end c.requires.kept.sound.next in
    pins-done c.args.wanted c.args.cursor.now.bound c.args.cursor.now.view (g.H.Reach.known c.args.reach.now).log c.args.cursor.now.next
    c.loop-extent.extent c.loop-extent.all.pins.items (omega (arith, past, end)) c.loop-extent.invariant.pins

pub returns-clause-marks : goal.returns-clause-marks
returns-clause-marks g c = λ k on.
    comes-last c.args.context.now.who k (g.H.Reach.known c.args.reach.now) (g.H.Reach.known c.loop-extent.reach)
    (serve_from c.args.cursor.now.view c.args.cursor.now.bound.filter c.args.cursor.now.next on)
    c.args.cursor.now.view c.args.cursor.now.bound.filter c.loop-extent.extent
    c.loop-extent.all.marks.items on c.loop-extent-test.false (c.loop-extent.invariant.comes k on)

pub returns-in_default-clause-ticks : goal.returns-in_default-clause-ticks
returns-in_default-clause-ticks g c =
    has-served c.args.context.now.who c.args.cursor.now c.loop-extent.extent
    (g.H.Reach.known c.args.reach.now) (g.H.Reach.known c.loop-extent.reach) (g.H.Reach.known c.served_pin.new.reach)
    c.in_default.ensures.went c.args.steps.now c.loop-extent.steps c.served_pin.new.steps
    c.loop-extent.invariant.went c.loop-extent.invariant.read c.in_default.ensures.ticks c.loop-extent-test.true

pub returns-in_default-take-clause-ticks : goal.returns-in_default-take-clause-ticks
returns-in_default-take-clause-ticks g c =
    has-served c.args.context.now.who c.args.cursor.now c.loop-extent.extent
    (g.H.Reach.known c.args.reach.now) (g.H.Reach.known c.loop-extent.reach) (g.H.Reach.known c.served_pin.new.reach)
    c.in-Ok.ensures.went c.args.steps.now c.loop-extent.steps c.served_pin.new.steps
    c.loop-extent.invariant.went c.loop-extent.invariant.read c.in-Ok.ensures.ticks c.loop-extent-test.true

pub returns-clause-ticks : goal.returns-clause-ticks
returns-clause-ticks g c =
    let end = c.loop-extent.auto.extent-end c.requires.kept.sound.next in
    record { upto = c.loop-extent.extent; within = omega (arith, end); read = c.loop-extent.invariant.read }
