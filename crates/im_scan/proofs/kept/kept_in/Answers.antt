use Rattle.std.proofs.Common.{ap}
use Rattle.im_scan.specs.Faces.{unit_of}
use Rattle.im_scan.proofs.KeptPlaces.{filter-fits}
use Rattle.im_scan.proofs.kept.kept_in.Goals as goal

pub kept_places-requires : goal.kept_places-requires
kept_places-requires c =
    filter-fits c.args.bound.now c.in-Whole.unit.now.rows (c.requires c.in-Whole.unit.now (ap unit_of c.in-Whole.is))
