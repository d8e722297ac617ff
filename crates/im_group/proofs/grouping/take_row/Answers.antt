use Rattle.std.proofs.Common.{◌<◌, length, sym, subst}
use Rattle.std.specs.List.{AllByRecursion}
use Rattle.im_group.proofs.AskedLemmas.{asked_fit}
use Rattle.im_group.proofs.grouping.take_row.Goals as goal

pub take_grouped-requires-clause-fits : goal.take_grouped-requires-clause-fits
take_grouped-requires-clause-fits c =
    subst (AllByRecursion (λ a. a.column < length c.args.row.now)) (sym c.requires.asked) (asked_fit c.args.row.now c.args.bound.now c.requires.fits)
