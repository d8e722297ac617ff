use Rattle.std.proofs.Common.{refl}
use Rattle.im_column.proofs.column.as_plain.Goals as goal

pub returns : goal.returns
returns c = record { stands = refl; kept = (c.requires.shape, refl); least = c.requires.plain }
