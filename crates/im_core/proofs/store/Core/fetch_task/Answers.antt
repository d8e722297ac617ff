use Rattle.std.proofs.Common.{sym, ap, ◌∙◌, arith}
use Rattle.std.specs.Option.{option_copied}
use Rattle.im_core.proofs.HorizonLemmas.{task-old}
use Rattle.im_core.proofs.SeenLemmas.{Holds-seen}
use Rattle.im_core.proofs.TaskLemmas.{has_task, task_fetched_is, task_rows_are}
use Rattle.im_core.proofs.store.Core.fetch_task.Goals as goal

pub overflow_mul-first : goal.overflow_mul-first
overflow_mul-first g c =
    let has = has_task c.args.task.now c.unwrap.result.now (Holds-seen c.self.invariant c.self.view_is) c.requires.held
    (sym c.build.ensures ∙ ap option_copied c.unwrap.ensures) in
    omega (arith, has.first, has.few)

pub overflow_sub-given : goal.overflow_sub-given
overflow_sub-given g c =
    let has = has_task c.args.task.now c.unwrap.result.now (Holds-seen c.self.invariant c.self.view_is) c.requires.held
    (sym c.build.ensures ∙ ap option_copied c.unwrap.ensures) in
    omega (arith, has.first)

pub extent_rows-requires : goal.extent_rows-requires
extent_rows-requires g c =
    let has = has_task c.args.task.now c.unwrap.result.now (Holds-seen c.self.invariant c.self.view_is) c.requires.held
    (sym c.build.ensures ∙ ap option_copied c.unwrap.ensures) in
    omega (arith, has.first, has.few, c.min-count.ensures)

pub returns-clause-fetched : goal.returns-clause-fetched
returns-clause-fetched g c =
    let has = has_task c.args.task.now c.unwrap.result.now (Holds-seen c.self.invariant c.self.view_is) c.requires.held
    (sym c.build.ensures ∙ ap option_copied c.unwrap.ensures) in
    c.in_ok-fetched.ensures.rows ∙ task_fetched_is _ _ c.args.task.now _ _ (Holds-seen c.self.invariant c.self.view_is).rows
    (task-old _ _ c.args.task.now (Holds-seen c.self.invariant c.self.view_is).legal c.requires.held) has c.min-count.ensures

pub returns-clause-steps : goal.returns-clause-steps
returns-clause-steps g c =
    let has = has_task c.args.task.now c.unwrap.result.now (Holds-seen c.self.invariant c.self.view_is) c.requires.held
    (sym c.build.ensures ∙ ap option_copied c.unwrap.ensures) in
    rw (task_rows_are _ c.args.task.now _ _ has c.min-count.ensures) at c.extent_rows.ensures.few
