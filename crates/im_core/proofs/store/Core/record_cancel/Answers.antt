use Rattle.std.proofs.Common.{sym, subst, ◌∙◌}
use Rattle.im_history.specs.Legal.{MayCancel}
use Rattle.im_history.specs.Units.{IsOwn}
use Rattle.im_core.specs.Seen.{Seen}
use Rattle.im_core.proofs.HoldsLemmas.{is-number}
use Rattle.im_core.proofs.UnitLemmas.{Holds-cancel}
use Rattle.im_core.proofs.store.Core.record_cancel.Goals as goal

pub invariant_of-self : goal.invariant_of-self
invariant_of-self g c =
    let own = subst (λ (s : Seen). IsOwn s.log c.args.who c.args.task) (sym c.self.view_is) c.requires.own in
    let cause = subst (λ (s : Seen). MayCancel s.limits s.log c.args.who c.args.task.id c.args.full) (sym c.self.view_is) c.requires.cause in
    let kept = c.self.invariant.units.held c.args.task.id ∙ own.is in
    let numbered = c.self.invariant.units.sound.numbered c.args.task.id own.held kept in
    Holds-cancel _ _ c.self.inside.history _ _ c.args.who c.args.task.id c.args.full own.held _ c.self.invariant
    (is-number _ _ c.number.ensures.same c.number.ensures.few) own.is numbered cause
    (rw c.number.ensures.same at c.append.ensures.added) (c.cancel.ensures own.held kept)
