use Rattle.std.proofs.Common.{◌≡◌, ◌+◌, ◌-◌, ◌++◌, ◌∷◌, [], ℕ, List, Option, Some, take, sym, ap, subst, ◌∙◌, arith}
use Rattle.std.proofs.lemmas.List.{take_all, take_more}
use Rattle.im_history.specs.Rows.{Row, present}
use Rattle.im_scan.specs.Parts.{row_in_unit}
use Rattle.im_scan.specs.inner.Walk.{unit_in}
use Rattle.im_scan.proofs.FitLemmas.{row-fits}
use Rattle.im_scan.proofs.ForCallers.{length-present}
use Rattle.im_scan.proofs.WalkLemmas.{IsWalked, few-to, part-to, walked-all, walked-more, walked-to}
use Rattle.im_scan.proofs.walking.walked.Goals as goal

pub take_unit-requires-clause-few : goal.take_unit-requires-clause-few
take_unit-requires-clause-few c =
    walked-to c.args.asking.now (unit_in c.args.kept.now) c.args.first (take c.loop-rid.rid-index c.args.beside.now) c.loop-rid.from
    c.loop-rid.part c.loop-rid.invariant.walked

pub take_row-requires-clause-fits : goal.take_row-requires-clause-fits
take_row-requires-clause-fits c =
    row-fits c.args.asking.now c.args.beside.now c.loop-rid.rid-index c.loop-rid-item.result c.loop-rid-test.true c.loop-rid-item.is
    c.requires.beside_fits

pub take_row-requires-clause-few : goal.take_row-requires-clause-few
take_row-requires-clause-few c =
    let bound = c.args.asking.now in
    let unit = unit_in c.args.kept.now in
    let from = c.loop-rid.from in
    let rid = c.loop-rid-item.result.0 in
    let so_far = walked-to bound unit c.args.first (take c.loop-rid.rid-index c.args.beside.now) from c.loop-rid.part
    c.loop-rid.invariant.walked in
    few-to bound c.take_unit.new.part (from + (rid - from))
    (part-to bound c.loop-rid.part c.take_unit.new.part from (rid - from) (present (row_in_unit unit) from (rid - from)) so_far c.in_ok-take_unit.ensures
    (length-present (row_in_unit unit) from (rid - from)))
    (let within = c.requires.within in omega (arith, c.if-rid-end.false, within, c.if-rid-from.false))

pub loop-rid-preserved : goal.loop-rid-preserved
loop-rid-preserved c =
    let bound = c.args.asking.now in
    let unit = unit_in c.args.kept.now in
    let i = c.loop-rid.rid-index in
    let beside = c.args.beside.now in
    let rid = c.loop-rid-item.result.0 in
    let row = c.loop-rid-item.result.1 in
    let more : take (i + 1) beside ≡ take i beside ++ (rid, row) ∷ [] =
    take_more beside i c.loop-rid-item.result c.loop-rid-test.true
    ∙ ap (λ (r : ℕ × Option Row). take i beside ++ r ∷ []) (sym c.loop-rid-item.is) in
    record {
      walked = subst (λ (rows : List (ℕ × Option Row)). IsWalked bound unit c.args.first rows (rid + 1) c.take_row.new.part) (sym more)
          (walked-more bound unit c.args.first (take i beside) c.loop-rid.from rid row c.loop-rid.part c.take_unit.new.part
          c.take_row.new.part c.loop-rid.invariant.walked c.if-rid-from.false c.in_ok-take_unit.ensures c.in_ok-take_row.ensures);
      high = omega (arith, c.if-rid-end.false);
    }

pub take_unit-requires-2-clause-few : goal.take_unit-requires-2-clause-few
take_unit-requires-2-clause-few c =
    walked-to c.args.asking.now (unit_in c.args.kept.now) c.args.first (take c.loop-rid.rid-index c.args.beside.now) c.loop-rid.from
    c.loop-rid.part c.loop-rid.invariant.walked

some-inj : {A : Type 0} {a b : A} → ◌≡◌ {A = Option A} (Some a) (Some b) → a ≡ b
some-inj e = cc

pub returns : goal.returns
returns c part is =
    let bound = c.args.asking.now in
    let unit = unit_in c.args.kept.now in
    let whole = take_all c.loop-rid.rid-index c.args.beside.now c.loop-rid-test.false in
    let all = subst (λ rows. IsWalked bound unit c.args.first rows c.loop-rid.from c.loop-rid.part) whole c.loop-rid.invariant.walked in
    sym (some-inj is)
    ∙ walked-all bound unit c.args.first c.args.beside.now c.loop-rid.from c.args.count c.loop-rid.part c.take_unit-2.new.part all
    c.loop-rid.invariant.high c.in_ok-take_unit-2.ensures
