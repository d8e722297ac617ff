use Rattle.im_blocks.proofs.ExtentLemmas.{AreRead-run}
use Rattle.im_blocks.proofs.version_table.VersionTable.fetch_rows.Goals as goal

pub returns-clause-next : goal.returns-clause-next
returns-clause-next g c =
    AreRead-run c.args.self.now c.args.asked c.args.rid c.args.number c.args.lent.first c.end_in-next.result c.args.lent.rows.now c.args.read.now
    c.take.new.self c.requires.lent c.end_in-next.ensures c.in_ok-take.ensures
