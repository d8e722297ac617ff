use Rattle.std.proofs.Common.{refl, ◌∙◌}
use Rattle.im_core.proofs.TaskLemmas.{fetched-wide, is_task, length-read}
use Rattle.im_core.proofs.store.Core.read_for.Goals as goal

pub shown-requires : goal.shown-requires
shown-requires g c = (is_task _ _ c.args.task.now c.known.ensures.legal c.requires.held).exists

pub returns-clause-fetched : goal.returns-clause-fetched
returns-clause-fetched g c =
    let task = is_task _ _ c.args.task.now c.known.ensures.legal c.requires.held in
    c.in_ok-fetched.ensures ∙ fetched-wide _ c.args.task.now _ _ task.columns refl c.in_ok-read.ensures.fetched

pub returns-clause-steps : goal.returns-clause-steps
returns-clause-steps g c =
    let task = is_task _ _ c.args.task.now c.known.ensures.legal c.requires.held in
    rw (length-read _ c.args.task.now task.columns) at c.read_written_for.ensures.steps
