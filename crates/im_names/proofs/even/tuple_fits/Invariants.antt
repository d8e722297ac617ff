use Rattle.std.proofs.Common.{◌≡◌, drop}
use Rattle.im_values.specs.Fits.{fits}
use Rattle.im_names.proofs.even.tuple_fits.Given as goal

-- the tuple fits exactly where the values left fit the columns left
abbrev pub invariant-loop-value : goal.invariant-loop-value
invariant-loop-value l = fits l.values l.columns ≡ fits (drop l.value-index l.values) l.left
