use Rattle.std.proofs.Common.{◌*◌, take, drop, length, length-take, ap, arith}
use Rattle.im_codepred.proofs.RangedLemmas.{few-within, next-block}
use Rattle.im_codepred.proofs.ranged.codes_within.Goals as goal

pub block_within-part-requires-clause-short : goal.block_within-part-requires-clause-short
block_within-part-requires-clause-short c =
    omega (arith, ap length c.block_of.ensures, length-take 512 (drop (c.loop-block.block * 512) c.args.bits.now.codes))

pub overflow_add-found : goal.overflow_add-found
overflow_add-found c =
    let codes = c.args.bits.now.codes in
    let before = few-within c.args.low c.args.end (take (c.loop-block.block * 512) codes) c.requires.few in
    let here = few-within c.args.low c.args.end c.block_of.result.now c.requires.few in
    record { fits = omega (arith, before.0, here.0, c.loop-block.invariant.count, c.block_within-part.ensures.count, length-take (c.loop-block.block * 512) codes, ap length c.block_of.ensures, length-take 512 (drop (c.loop-block.block * 512) codes), c.len.ensures.len, c.len.ensures.few) }

pub overflow_add-found-in-loop-block : goal.overflow_add-found-in-loop-block
overflow_add-found-in-loop-block c =
    let codes = c.args.bits.now.codes in
    let before = few-within c.args.low c.args.end (take (c.loop-block.block * 512) codes) c.requires.few in
    let here = few-within c.args.low c.args.end c.block_of.result.now c.requires.few in
    record { fits = omega (arith, before.1, here.1, c.loop-block.invariant.sum, c.block_within-part.ensures.sum, length-take (c.loop-block.block * 512) codes, ap length c.block_of.ensures, length-take 512 (drop (c.loop-block.block * 512) codes), c.len.ensures.len, c.len.ensures.few) }

pub loop-block-preserved : goal.loop-block-preserved
loop-block-preserved c =
    next-block c.args.low c.args.end c.loop-block.block c.args.bits.now.codes c.block_of.result.now _ _ _ _ c.loop-block.invariant c.block_of.ensures
    c.block_within-part.ensures

pub returns-clause-count : goal.returns-clause-count
returns-clause-count c =
    let codes = c.args.bits.now.codes in
    let few = few-within c.args.low c.args.end (take (c.loop-block.block * 512) codes) c.requires.few in
    omega (arith, few.0, c.loop-block.invariant.count, length-take (c.loop-block.block * 512) codes, c.len.ensures.len, c.len.ensures.few)

pub returns-clause-sum : goal.returns-clause-sum
returns-clause-sum c =
    let codes = c.args.bits.now.codes in
    let few = few-within c.args.low c.args.end (take (c.loop-block.block * 512) codes) c.requires.few in
    omega (arith, few.1, c.loop-block.invariant.sum, length-take (c.loop-block.block * 512) codes, c.len.ensures.len, c.len.ensures.few)
