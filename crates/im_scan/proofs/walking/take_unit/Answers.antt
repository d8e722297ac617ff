use Rattle.std.proofs.Common.{◌-◌, sym, subst}
use Rattle.im_history.specs.Rows.{present}
use Rattle.im_scan.specs.Parts.{row_in_unit}
use Rattle.im_scan.specs.inner.Steps.{GoesOnBy}
use Rattle.im_scan.specs.inner.Walk.{unit_in}
use Rattle.im_scan.proofs.WalkLemmas.{goes-none, nothing-there}
use Rattle.im_scan.proofs.walking.take_unit.Goals as goal

pub returns-in-None : goal.returns-in-None
returns-in-None c =
    let bound = c.args.asking.now in
    let part = c.args.part.now in
    let n = c.args.end - c.args.from in
    subst (λ kept. GoesOnBy bound part (present (row_in_unit (unit_in kept)) c.args.from n) part) (sym c.in-None.is)
    (subst (λ rows. GoesOnBy bound part rows part) (sym (nothing-there c.args.from n)) (goes-none bound part))
