use Rattle.std.proofs.Common.{[]}
use Rattle.im_scan.proofs.in_place.part_of_pieces.Goals as goal

pub returns : goal.returns
returns c = c.in_ok-take_pieces.ensures.goes [] c.in_ok-part.ensures
