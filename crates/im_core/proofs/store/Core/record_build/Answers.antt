use Rattle.std.proofs.Common.{◌≡◌, Some, refl, sym, subst, ap, ◌∙◌}
use Rattle.im_history.specs.declared.task.Task.{Task}
use Rattle.im_history.specs.Queue.{next, task_of}
use Rattle.im_history.specs.Tables.{given}
use Rattle.im_history.proofs.NextLaws.{next-is}
use Rattle.im_core.specs.Seen.{Seen}
use Rattle.im_core.proofs.HoldsLemmas.{is-number, grew-reserved, grew-who, Holds-reserved, Holds-told}
use Rattle.im_core.proofs.UnitLemmas.{Holds-build}
use Rattle.im_core.proofs.store.Core.record_build.Goals as goal

pub invariant_of-self-in_err-begin : goal.invariant_of-self-in_err-begin
invariant_of-self-in_err-begin g c =
    Holds-told _ _ c.reserve.new.self _ _
    (Holds-reserved _ _ c.self.inside.history _ c.reserve.new.self _ c.self.invariant c.in_ok-reserve.ensures.ok) c.in_err-begin.ensures.err

pub invariant_of-self-2 : goal.invariant_of-self-2
invariant_of-self-2 g c =
    let comes = subst (λ (s : Seen). next s.log ≡ Some c.args.choice) (sym c.self.view_is) c.requires.comes in
    let is = ap (λ (s : Seen). task_of s.log c.args.choice) (sym c.self.view_is) in
    let given_is = c.given_of-given.ensures.given ∙ ap (λ (s : Seen). given s.log c.args.choice.table) (sym c.self.view_is) in
    let id_is = ap (λ (t : Task). t.id) (c.task_of-task.ensures ∙ is) in
    Holds-build _ _ c.self.inside.history _ _ c.args.who c.args.choice _ _ c.self.invariant
    (is-number _ _ c.number.ensures.same c.number.ensures.few) comes
    (rw (c.number.ensures.same, c.task_of-held.ensures ∙ is, given_is) refl)
    (rw id_is at
    (grew-who _ _ _ _ _ _ c.number-2.ensures.same
    (grew-reserved c.self.inside.history c.reserve.new.self _ _ _ (rw c.owed.ensures.owed at c.in_ok-reserve.ensures.ok) c.append.ensures.added)))
    c.in_ok-begin.ensures.ok

pub given_of-given-requires : goal.given_of-given-requires
given_of-given-requires g c = (next-is _ c.args.choice c.requires.comes).exists

pub task_of-task-requires : goal.task_of-task-requires
task_of-task-requires g c = record { exists = (next-is _ c.args.choice c.requires.comes).exists }

pub task_of-held-requires : goal.task_of-held-requires
task_of-held-requires g c = record { exists = (next-is _ c.args.choice c.requires.comes).exists }

pub begin-requires-clause-free : goal.begin-requires-clause-free
begin-requires-clause-free g c =
    let comes = subst (λ (s : Seen). next s.log ≡ Some c.args.choice) (sym c.self.view_is) c.requires.comes in
    rw c.task_of-held.ensures
    (c.self.invariant.units.living c.args.choice.table c.args.choice.extent
    ∙ (next-is c.self.inside.history.entries c.args.choice comes).alone)

pub append-requires-clause-paid : goal.append-requires-clause-paid
append-requires-clause-paid g c =
    let comes = subst (λ (s : Seen). next s.log ≡ Some c.args.choice) (sym c.self.view_is) c.requires.comes in
    rw c.in_ok-reserve.ensures.ok (next-is c.self.inside.history.entries c.args.choice comes).paid
