use Rattle.std.proofs.Common.{◌<◌, length, arith}
use Rattle.std.proofs.lemmas.List.{length-set}
use Rattle.im_bits.proofs.UnpackLemmas.{unpack-more}
use Rattle.im_bits.proofs.bits.Bits.codes_one_by_one.Goals as goal

pub loop-k-preserved : goal.loop-k-preserved
loop-k-preserved c =
    let out = c.loop-k.out in
    let inside : c.loop-k.k < length out = omega (arith, c.loop-k.invariant.size) in
    record {
      size = omega (arith, length-set out c.loop-k.k c.code_behind.result, c.loop-k.invariant.size);
      codes = unpack-more out c.args.self.now.codes c.args.first c.loop-k.k c.code_behind.result inside c.code_behind.ensures c.loop-k.invariant.codes;
    }
