use Rattle.std.proofs.Common.{◌≡◌, ◌+◌, ◌^◌, ◌<◌, ◌≤◌, None, sym, subst, ap, ◌∙◌}
use Rattle.std.specs.Option.{option_map}
use Rattle.im_history.specs.declared.task.Task.{Task}
use Rattle.im_history.specs.Area.{task_bytes, used}
use Rattle.im_history.specs.Units.{IsOwn, held_at, task_content, unit_content}
use Rattle.im_history.proofs.HeldLaws.{task_content-is}
use Rattle.im_core.specs.Answers.{killed_of}
use Rattle.im_core.specs.Seen.{Seen}
use Rattle.im_core.proofs.HoldsLemmas.{is-number}
use Rattle.im_core.proofs.UnitLemmas.{Holds-switch, option_map-both, unit_content-by, used-is}
use Rattle.im_core.proofs.store.Core.record_switch.Goals as goal

pub invariant_of-self : goal.invariant_of-self
invariant_of-self g c =
    let own = subst (λ (s : Seen). IsOwn s.log c.args.who c.args.task) (sym c.self.view_is) c.requires.own in
    let kept = c.self.invariant.units.held c.args.task.id ∙ own.is in
    let numbered = c.self.invariant.units.sound.numbered c.args.task.id own.held kept in
    let h = c.self.inside.history.entries in
    let lives = subst (λ (s : Seen). killed_of (held_at s.log c.args.task.id) ≡ None) (sym c.self.view_is) c.requires.lives in
    let holds = subst (λ (s : Seen). g.U.UnitLike.content c.args.unit.value ≡ task_content s.log c.args.task) (sym c.self.view_is) c.requires.holds in
    let fits = subst (λ (s : Seen). used s.log + task_bytes s.log c.args.task ≤ s.limits.area) (sym c.self.view_is) c.requires.fits in
    Holds-switch _ _ c.self.inside.history _ _ c.args.who c.args.task.id own.held c.args.unit.value _ c.self.invariant
    (is-number _ _ c.number.ensures.same c.number.ensures.few) own.is own.mine (sym (ap killed_of own.is) ∙ lives) numbered
    (holds ∙ (ap (task_content h) (sym own.same) ∙ task_content-is _ h c.args.task.id own.held c.self.invariant.legal own.is))
    (subst (λ (t : Task). used h + task_bytes h t ≤ c.self.inside.limits.area) (sym own.same) fits)
    (rw c.number.ensures.same at c.append.ensures.added) (c.switch-old.ensures.switched own.held kept)

pub returns-clause-was : goal.returns-clause-was
returns-clause-was g c =
    let content = g.U.UnitLike.content in
    let h = c.self.inside.history.entries in
    let own = subst (λ (s : Seen). IsOwn s.log c.args.who c.args.task) (sym c.self.view_is) c.requires.own in
    let kept = c.self.invariant.units.held c.args.task.id ∙ own.is in
    let was =
    option_map-both content (λ unit. unit.value) c.switch-old.result
    ∙ (ap (option_map content) (c.switch-old.ensures.before own.held kept)
    ∙ (unit_content-by content h c.self.inside.directory own.held.task.table own.held.task.extent c.self.invariant.units
    ∙ ap (λ (t : Task). unit_content h t.table t.extent) own.same)) in
    was ∙ ap (λ (s : Seen). unit_content s.log c.args.task.table c.args.task.extent) c.self.view_is

pub switch-old-requires-clause-room : goal.switch-old-requires-clause-room
switch-old-requires-clause-room g c =
    let content = g.U.UnitLike.content in
    let h = c.self.inside.history.entries in
    let room = subst (λ (s : Seen). used s.log + task_bytes s.log c.args.task < 2 ^ 64) (sym c.self.view_is) c.requires.room in
    let holds = subst (λ (s : Seen). content c.args.unit.value ≡ task_content s.log c.args.task) (sym c.self.view_is) c.requires.holds in
    rw (used-is content _ c.self.inside.history _ c.self.invariant, holds) room
