use Rattle.std.proofs.Common.{◌∙◌, ap, length}
use Rattle.std.proofs.lemmas.List.{take_all}
use Rattle.im_unit.specs.Holding.{spot_of}
use Rattle.im_scan.specs.inner.Left.{without_all}
use Rattle.im_scan.proofs.LeftLemmas.{hidden-more, length-without}
use Rattle.im_scan.proofs.left.hide_all.Goals as goal

pub loop-rid-preserved : goal.loop-rid-preserved
loop-rid-preserved c =
    let unit = c.args.unit.now in
    let row = c.loop-rid-item.result in
    record {
      is = hidden-more unit c.args.beside.now c.loop-rid.rid-index row c.args.spots.now c.loop-rid.spots c.hide.new.spots c.loop-rid-test.true
          c.loop-rid-item.is c.loop-rid.invariant.is c.hide.ensures;
      long = ap length c.hide.ensures ∙ (length-without (spot_of unit row.0) c.loop-rid.spots ∙ c.loop-rid.invariant.long);
    }

pub returns : goal.returns
returns c =
    c.loop-rid.invariant.is
    ∙ ap (λ rows. without_all c.args.unit.now rows c.args.spots.now) (take_all c.loop-rid.rid-index c.args.beside.now c.loop-rid-test.false)
