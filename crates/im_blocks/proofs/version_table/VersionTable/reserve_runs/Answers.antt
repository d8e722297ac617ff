use Rattle.std.proofs.Common.{arith}
use Rattle.std.proofs.lemmas.Bool.Decides.{nat_tests}
use Rattle.im_blocks.proofs.StoreLemmas.{SameVersions-room}
use Rattle.im_blocks.proofs.version_table.VersionTable.reserve_runs.Goals as goal

pub returns-clause-same : goal.returns-clause-same
returns-clause-same c =
    let more = c.if-count-self.false in
    rw (← c.self.view_is)
    (SameVersions-room _ c.reserve.new.self.items c.args.count c.reserve.ensures.items (grind (arith, nat_tests, more)))
