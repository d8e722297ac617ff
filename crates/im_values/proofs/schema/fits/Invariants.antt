use Rattle.std.proofs.Common.{◌≡◌, drop}
use Rattle.im_values.specs.Fits.{fits}
use Rattle.im_values.proofs.schema.fits.Given as goal

-- the row fits exactly where the values left fit the columns left
abbrev pub invariant-loop-value : goal.invariant-loop-value
invariant-loop-value l = fits l.row l.schema ≡ fits (drop l.value-index l.value-items) l.columns
