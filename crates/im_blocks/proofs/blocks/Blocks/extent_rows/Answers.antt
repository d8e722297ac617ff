use Rattle.std.proofs.Common.{arith}
use Rattle.im_blocks.specs.inner.Gathering.{gathered}
use Rattle.im_blocks.proofs.ExtentLemmas.{rows_at-more}
use Rattle.im_blocks.proofs.blocks.Blocks.extent_rows.Goals as goal

pub loop-rid-preserved : goal.loop-rid-preserved
loop-rid-preserved g c =
    let next = c.in_ok-rid.ensures.next in
    let past = next.from in
    let upto = next.upto in
    let counted = c.in_ok-rid.ensures.counted in
    let from = c.loop-rid.invariant.from in
    let few = c.loop-rid.invariant.few in
    record {
      from = omega (arith, from, past);
      upto = upto;
      rows = rows_at-more c.args.self.now c.args.table c.args.first c.loop-rid.rid c.in_ok-rid.rid c.args.scn (gathered c.loop-rid.read) (gathered c.read_from.new.read)
          from (omega (arith, past)) c.loop-rid.invariant.rows next.rows.rows;
      whole = next.rows.whole;
      few = omega (arith, counted, few);
    }
