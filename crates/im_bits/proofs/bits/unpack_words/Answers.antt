use Rattle.std.proofs.Common.{◌*◌}
use Rattle.im_bits.specs.Packed.{codes_per_word}
use Rattle.im_bits.specs.inner.Unpacking.{HasFields}
use Rattle.im_bits.proofs.UnpackLemmas.{unpack-word}
use Rattle.im_bits.proofs.bits.unpack_words.Goals as goal

pub loop-k-preserved : goal.loop-k-preserved
loop-k-preserved g c =
    let at = c.per_word-share.ensures in
    let has : HasFields g.row.W c.word_at.result (c.loop-k.k * codes_per_word g.row.W) (codes_per_word g.row.W) c.loop-k.codes c.unpack_word.new.codes =
    rw at at c.unpack_word.ensures in
    record {
      size = c.unpack_word.array_long;
      has = unpack-word g.row.W c.args.words.now c.loop-k.codes c.unpack_word.new.codes c.args.first c.loop-k.k c.word_at.result c.loop-k.invariant.has
          c.word_at.ensures has;
    }
