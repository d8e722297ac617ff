use Rattle.std.proofs.Common.{◌-◌}
use Rattle.std.proofs.lemmas.Result.{err_from_is_err_and}
use Rattle.im_readers.proofs.Steps.{goes_on, halts, is_over, is_full}
use Rattle.im_readers.proofs.lists.with_more.Goals as goal
use Rattle.im_readers.proofs.lists.with_more.Goals.{else-loop-test, then-loop-test+in_default}

pub returns-in_err-value : goal.returns-in_err-value
returns-in_err-value g c =
    let p = err_from_is_err_and c.from_residual-in_err-value.result c.from_residual-in_err-value.ensures.1 in
    rw (p.1, p.2)
    (halts g.P.Part.marks (g.P.Part.reads c.args.part.now) _ c.in_err-value.field-0.0 c.loop.values.items c.args.most c.loop.counter
    c.loop.rest.now c.in-Some.behind.now c.loop-test.true c.in-Some.ensures c.in_err-value.ensures c.loop.invariant)

pub loop-preserved : goal.loop-preserved
loop-preserved g c =
    rw c.in_ok-push-2.ensures.items
    (goes_on g.P.Part.marks (g.P.Part.reads c.args.part.now) _ c.loop.values.items c.args.most c.loop.counter
    c.loop.rest.now c.in-Some.behind.now c.in_ok-value.value c.in_ok-value.behind.now c.loop-test.true
    c.in-Some.ensures c.in_ok-value.ensures c.loop.invariant)

pub returns : goal.returns
returns g c =
    elim c.loop-test.branch [
      | else-loop-test w ↦
          is_full g.P.Part.marks (g.P.Part.reads c.args.part.now) _ c.loop.values.items c.args.most c.loop.counter
          c.loop.rest.now w.loop-test.false c.loop.invariant
      | then-loop-test+in_default w ↦
          is_over g.P.Part.marks (g.P.Part.reads c.args.part.now) _ c.loop.values.items (c.args.most - c.loop.counter)
          c.loop.rest.now w.in_default.ensures c.loop.invariant
    ]
