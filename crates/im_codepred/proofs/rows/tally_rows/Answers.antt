use Rattle.im_codepred.specs.Tallies.{chosen}
use Rattle.im_codepred.specs.inner.Slabs.{column_of}
use Rattle.im_codepred.proofs.TallyLemmas.{values-tally}
use Rattle.im_codepred.proofs.rows.tally_rows.Goals as goal

pub returns : goal.returns
returns c =
    values-tally (chosen c.args.mask.now (column_of c.args.rows.now c.args.column)) c.gathered_rows-gathered.result c.tally.result
    c.gathered_rows-gathered.ensures c.tally.ensures
