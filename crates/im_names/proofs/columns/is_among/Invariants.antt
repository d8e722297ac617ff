use Rattle.std.proofs.Common.{map}
use Rattle.im_names.specs.Lookups.{is_among}
use Rattle.im_names.proofs.FaultLemmas.{From}
use Rattle.im_names.proofs.columns.is_among.Given as goal

abbrev pub invariant-loop-other : goal.invariant-loop-other
invariant-loop-other g l = From (λ i others. is_among (map g.T.Named.named others) l.name) l.others l.other-index
