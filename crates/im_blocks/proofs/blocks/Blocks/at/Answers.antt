use Rattle.std.proofs.Common.{sym}
use Rattle.im_blocks.proofs.blocks.Blocks.at.Goals as goal

pub returns-in-Some-clause-row : goal.returns-in-Some-clause-row
returns-in-Some-clause-row g c = sym c.in-Some.ensures
