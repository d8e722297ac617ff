use Rattle.std.proofs.Common.{◌/◌, ap, refl}
use Rattle.im_history.specs.Puts.{lent_change}
use Rattle.im_directory.proofs.RangeLemmas.{IsRange-of}
use Rattle.im_directory.proofs.range.range_of.Goals as goal

pub returns-clause-range : goal.returns-clause-range
returns-clause-range c =
    IsRange-of c.args.tables.now (lent_change c.args.change) _ refl (ap (λ k. c.args.change.rid / k) c.row_numbers-count.ensures.per)
    c.row_numbers-count.ensures.per refl c.row_numbers-count.ensures.some
