use Rattle.im_values.proofs.PickLemmas.{part-in}
use Rattle.im_values.proofs.rows.part_first.Goals as goal

pub returns-in-Picked-clause-rows : goal.returns-in-Picked-clause-rows
returns-in-Picked-clause-rows c =
    let a = c.args in
    part-in a.form.now c.in-Picked.field-0 a.first a.width a.count a.from a.many c.in-Picked.is c.requires.inside c.requires.within
