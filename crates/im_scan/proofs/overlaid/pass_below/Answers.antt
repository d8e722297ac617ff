use Rattle.std.proofs.Common.{◌++◌, drop, ap, ◌∙◌}
use Rattle.im_scan.specs.inner.LentPieces.{in_lent_pieces}
use Rattle.im_scan.specs.inner.Beside.{Beside}
use Rattle.im_scan.specs.inner.Overlaid.{left_of}
use Rattle.im_scan.proofs.OverlaidLemmas.{left-more}
use Rattle.im_scan.proofs.overlaid.pass_below.Goals as goal

pub loop-at-preserved : goal.loop-at-preserved
loop-at-preserved c = record {
  whole =
      left-more c.args.fetched.now c.loop-at.at c.loop-at.from c.index-fetched-at.result (in_lent_pieces c.loop-at.pieces.items)
      (in_lent_pieces c.put_below.new.pieces.items) c.loop-at-test.true c.index-fetched-at.is (c.in_ok-put_below.ensures.put c.if-not-branch.false)
      ∙ c.loop-at.invariant.whole;
  numbers = c.in_ok-put_below.ensures.numbers;
}

pub returns-then-not-branch-clause-whole : goal.returns-then-not-branch-clause-whole
returns-then-not-branch-clause-whole c =
    ap (λ (l : Beside). l ++ left_of (drop c.loop-at.at c.args.fetched.now) c.loop-at.from) (c.in_ok-put_below.ensures.left c.if-not-branch.true)
    ∙ c.loop-at.invariant.whole
