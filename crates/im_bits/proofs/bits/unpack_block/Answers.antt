use Rattle.std.proofs.Common.{◌≡◌, ◌<◌, ◌/◌, ◌*◌, ◌-◌, ◌^◌, ap, sym, ◌∙◌, arith}
use Rattle.im_bits.specs.Packed.{codes_per_word}
use Rattle.im_bits.specs.inner.Unpacking.{HasFields}
use Rattle.im_bits.proofs.UnpackLemmas.{block-begins, block-word}
use Rattle.im_bits.proofs.bits.unpack_block.Goals as goal

pub loop-k-init : goal.loop-k-init
loop-k-init g c =
    let has : HasFields g.row.W (c.word_at.result / 2 ^ (c.args.skipped * g.row.W)) 0 (codes_per_word g.row.W) c.args.codes.now c.unpack_word.new.codes =
    rw c.behind.ensures at c.unpack_word.ensures in
    record {
      size = c.unpack_word.array_long;
      some = omega arith;
      has = block-begins g.row.W c.args.words.now c.args.codes.now c.unpack_word.new.codes c.args.first c.args.skipped c.word_at.result c.requires.skipped
          c.word_at.ensures has;
    }

pub loop-k-preserved : goal.loop-k-preserved
loop-k-preserved g c =
    let share = c.per_word-share.ensures in
    let has : HasFields g.row.W c.word_at-in-loop-k.result (c.loop-k.k * codes_per_word g.row.W - c.args.skipped) (codes_per_word g.row.W) c.loop-k.codes c.unpack_word-in-loop-k.new.codes =
    rw share at c.unpack_word-in-loop-k.ensures in
    record {
      size = c.unpack_word-in-loop-k.array_long;
      some = omega arith;
      has = block-word g.row.W c.args.words.now c.loop-k.codes c.unpack_word-in-loop-k.new.codes c.args.first c.args.skipped c.loop-k.k
          c.word_at-in-loop-k.result c.requires.skipped c.loop-k.invariant.some c.loop-k.invariant.has c.word_at-in-loop-k.ensures has;
    }
