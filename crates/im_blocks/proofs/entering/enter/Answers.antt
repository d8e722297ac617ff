use Rattle.im_blocks.proofs.EnterLemmas.{HasEntered-table}
use Rattle.im_blocks.proofs.entering.enter.Goals as goal

pub returns : goal.returns
returns c =
    HasEntered-table c.args.all_runs.now c.args.all_chains.now c.args.number c.args.run.now c.args.slots.now c.of_table_mut.result.now
    c.enter_cells.new.cells c.requires.table c.of_table_mut.ensures.value c.enter_cells.ensures
