use Rattle.std.proofs.Common.{sym, ◌∙◌, arith}
use Rattle.im_history.specs.Puts.{lent_change}
use Rattle.im_history.specs.Refusals.{touch_after}
use Rattle.im_core.proofs.RefusalLemmas.{first_cause-here, first_cause-later}
use Rattle.im_core.proofs.store.Core.serialize.Goals as goal

pub returns-then-is_some : goal.returns-then-is_some
returns-then-is_some g c =
    first_cause-here (touch_after c.args.self.now.log c.args.scn) c.args.changes.now c.loop-place.place (lent_change c.at.result) c.touch_after-cause.result _
    c.at.ensures (omega arith) c.touch_after-cause.ensures (sym c.is_some.ensures ∙ c.if-is_some.true) c.loop-place.invariant

pub loop-place-preserved : goal.loop-place-preserved
loop-place-preserved g c =
    first_cause-later (touch_after c.args.self.now.log c.args.scn) c.args.changes.now c.loop-place.place (lent_change c.at.result) c.touch_after-cause.result _
    c.at.ensures (omega arith) c.touch_after-cause.ensures (sym c.is_some.ensures ∙ c.if-is_some.false) c.loop-place.invariant
