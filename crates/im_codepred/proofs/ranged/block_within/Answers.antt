use Rattle.std.proofs.Common.{take, arith}
use Rattle.std.proofs.lemmas.List.{length-take-le}
use Rattle.im_codepred.proofs.RangedLemmas.{few-within}
use Rattle.im_codepred.proofs.ranged.block_within.Goals as goal

pub with_code-part-requires-clause-count : goal.with_code-part-requires-clause-count
with_code-part-requires-clause-count c =
    let k = c.loop-code.code-index in
    let few = few-within c.args.low c.args.end (take k c.args.codes.now) c.requires.few in
    let long = length-take-le k c.args.codes.now (omega (arith, c.loop-code-test.true)) in
    omega (arith, few.0, c.loop-code.invariant.count, long, c.loop-code-test.true, c.requires.short)

pub with_code-part-requires-clause-sum : goal.with_code-part-requires-clause-sum
with_code-part-requires-clause-sum c =
    let k = c.loop-code.code-index in
    let few = few-within c.args.low c.args.end (take k c.args.codes.now) c.requires.few in
    let long = length-take-le k c.args.codes.now (omega (arith, c.loop-code-test.true)) in
    omega (arith, few.1, c.loop-code.invariant.sum, long, c.loop-code-test.true, c.requires.short)
