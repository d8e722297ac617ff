use Rattle.std.proofs.Common.{subst}
use Rattle.std.proofs.lemmas.List.{take_all}
use Rattle.im_scan.specs.inner.Pieces.{numbered_all}
use Rattle.im_scan.specs.inner.Steps.{GoesOnBy}
use Rattle.im_scan.proofs.FitLemmas.{row-fits}
use Rattle.im_scan.proofs.LeftPart.{beside-more, few-beside}
use Rattle.im_scan.proofs.by_columns.take_lent.Goals as goal

pub take_row-requires : goal.take_row-requires
take_row-requires c = record {
  fits = row-fits c.args.asking.now c.args.rows.now c.loop-rid.rid-index c.loop-rid-item.result c.loop-rid-test.true c.loop-rid-item.is
      c.requires.fits;
  few = few-beside c.args.asking.now c.loop-rid.rid-index c.args.rows.now c.args.part.now c.loop-rid.part c.requires.few c.loop-rid-test.true
      c.loop-rid.invariant;
}

pub loop-rid-preserved : goal.loop-rid-preserved
loop-rid-preserved c =
    beside-more c.args.asking.now c.loop-rid.rid-index c.args.rows.now c.loop-rid-item.result c.args.part.now c.loop-rid.part c.take_row.new.part
    c.loop-rid-test.true c.loop-rid-item.is c.loop-rid.invariant c.in_ok-take_row.ensures

pub returns : goal.returns
returns c =
    subst (λ rows. GoesOnBy c.args.asking.now c.args.part.now (numbered_all rows) c.loop-rid.part)
    (take_all c.loop-rid.rid-index c.args.rows.now c.loop-rid-test.false) c.loop-rid.invariant
