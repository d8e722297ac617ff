use Rattle.std.proofs.Common.{◌+◌, ◌∙◌, refl, sym, subst}
use Rattle.im_group.specs.Partials.{keeps}
use Rattle.im_scan.specs.inner.Left.{AreBetween, is_left, spots_where}
use Rattle.im_scan.proofs.LeftPart.{left-room, left-whole}
use Rattle.im_scan.proofs.SummedLemmas.{some-inj}
use Rattle.im_scan.proofs.by_columns.left_part.Goals as goal

pub take_beside-requires-clause-few : goal.take_beside-requires-clause-few
take_beside-requires-clause-few c =
    let bound = c.args.asking.now in
    let unit = c.args.unit.now in
    let beside = c.args.beside.rows.now in
    let spots = spots_where (is_left (unit.first + c.args.count) beside) (keeps bound.filter) unit.first unit.rows in
    left-room bound unit beside c.args.count spots c.in-Some.part
    (subst (λ n. AreBetween n (n + c.args.count) beside) c.first-first.ensures c.if-not-are_between.ensures) c.requires.within refl
    (c.in_ok-part.ensures c.in-Some.part c.in-Some.is)

pub returns : goal.returns
returns c found is =
    let bound = c.args.asking.now in
    let unit = c.args.unit.now in
    let beside = c.args.beside.rows.now in
    let spots = spots_where (is_left (unit.first + c.args.count) beside) (keeps bound.filter) unit.first unit.rows in
    sym (some-inj is)
    ∙ left-whole bound unit beside c.args.count c.requires.grouped spots c.in-Some.part c.take_beside.new.part
    (subst (λ n. AreBetween n (n + c.args.count) beside) c.first-first.ensures c.if-not-are_between.ensures) refl
    (c.in_ok-part.ensures c.in-Some.part c.in-Some.is) c.in_ok-take_beside.ensures
