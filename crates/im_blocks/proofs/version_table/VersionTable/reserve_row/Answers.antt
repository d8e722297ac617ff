use Rattle.im_blocks.proofs.RoomLemmas.{SameVersions-trans}
use Rattle.im_blocks.proofs.StoreLemmas.{SameVersions-grown}
use Rattle.im_blocks.proofs.version_table.VersionTable.reserve_row.Goals as goal

pub returns-in_err-reserve-clause-same : goal.returns-in_err-reserve-clause-same
returns-in_err-reserve-clause-same c = rw (← c.self.view_is) (SameVersions-grown _ c.reserve.new.self c.reserve.ensures.same)

pub returns-clause-same : goal.returns-clause-same
returns-clause-same c =
    rw (← c.self.view_is)
    (SameVersions-trans _ _ _ (SameVersions-grown _ c.reserve.new.self c.reserve.ensures.same) c.make_ready.ensures.same)
