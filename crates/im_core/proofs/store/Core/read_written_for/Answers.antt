use Rattle.std.proofs.Common.{◌∙◌}
use Rattle.im_core.proofs.TaskLemmas.{task_all, task_stale}
use Rattle.im_core.proofs.store.Core.read_written_for.Goals as goal

pub returns-in_ok-fetch_beside-in-Some-clause-unit : goal.returns-in_ok-fetch_beside-in-Some-clause-unit
returns-in_ok-fetch_beside-in-Some-clause-unit g c = rw c.in-Some.is at c.in_ok-unit.ensures

pub returns-in_ok-fetch_beside-in-Some-clause-fetched : goal.returns-in_ok-fetch_beside-in-Some-clause-fetched
returns-in_ok-fetch_beside-in-Some-clause-fetched g c =
    let stale = task_stale c.args.self.now.log c.args.task.now _ (rw c.in-Some.is at c.in_ok-unit.ensures) in
    c.in_ok-fetch_beside-in-Some.ensures.fetched stale.at stale.is ∙ stale.rows

pub returns-in_ok-fetch_task-in-None-clause-unit : goal.returns-in_ok-fetch_task-in-None-clause-unit
returns-in_ok-fetch_task-in-None-clause-unit g c = rw c.in-None.is at c.in_ok-unit.ensures

pub returns-in_ok-fetch_task-in-None-clause-fetched : goal.returns-in_ok-fetch_task-in-None-clause-fetched
returns-in_ok-fetch_task-in-None-clause-fetched g c =
    let all = task_all c.args.self.now.log c.args.task.now (rw c.in-None.is at c.in_ok-unit.ensures) in
    c.in_ok-fetch_task-in-None.ensures.fetched ∙ all.rows

pub returns-in_err-fetch_beside-in-Some-clause-steps : goal.returns-in_err-fetch_beside-in-Some-clause-steps
returns-in_err-fetch_beside-in-Some-clause-steps g c =
    let stale = task_stale c.args.self.now.log c.args.task.now _ (rw c.in-Some.is at c.in_ok-unit.ensures) in
    rw stale.rows at (c.fetch_beside.ensures.steps stale.at stale.is)

pub returns-in_err-fetch_task-in-None-clause-steps : goal.returns-in_err-fetch_task-in-None-clause-steps
returns-in_err-fetch_task-in-None-clause-steps g c =
    let all = task_all c.args.self.now.log c.args.task.now (rw c.in-None.is at c.in_ok-unit.ensures) in
    rw all.long at c.fetch_task.ensures.steps

pub returns-in_ok-fetch_beside-in-Some-clause-steps : goal.returns-in_ok-fetch_beside-in-Some-clause-steps
returns-in_ok-fetch_beside-in-Some-clause-steps g c =
    let stale = task_stale c.args.self.now.log c.args.task.now _ (rw c.in-Some.is at c.in_ok-unit.ensures) in
    rw stale.rows at (c.fetch_beside.ensures.steps stale.at stale.is)

pub returns-in_ok-fetch_task-in-None-clause-steps : goal.returns-in_ok-fetch_task-in-None-clause-steps
returns-in_ok-fetch_task-in-None-clause-steps g c =
    let all = task_all c.args.self.now.log c.args.task.now (rw c.in-None.is at c.in_ok-unit.ensures) in
    rw all.long at c.fetch_task.ensures.steps
