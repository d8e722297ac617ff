use Rattle.std.proofs.Common.{sym, ◌∙◌, arith}
use Rattle.im_history.specs.Puts.{lent_change}
use Rattle.im_history.specs.Refusals.{lock_on}
use Rattle.im_core.proofs.RefusalLemmas.{first_cause-here, first_cause-later}
use Rattle.im_core.proofs.store.Core.row_locked.Goals as goal

pub returns-then-is_some : goal.returns-then-is_some
returns-then-is_some g c =
    first_cause-here (lock_on c.args.self.now.log c.args.who) c.args.changes.now c.loop-place.place (lent_change c.at.result) c.lock_on-cause.result _
    c.at.ensures (omega arith) c.lock_on-cause.ensures (sym c.is_some.ensures ∙ c.if-is_some.true) c.loop-place.invariant

pub loop-place-preserved : goal.loop-place-preserved
loop-place-preserved g c =
    first_cause-later (lock_on c.args.self.now.log c.args.who) c.args.changes.now c.loop-place.place (lent_change c.at.result) c.lock_on-cause.result _
    c.at.ensures (omega arith) c.lock_on-cause.ensures (sym c.is_some.ensures ∙ c.if-is_some.false) c.loop-place.invariant
