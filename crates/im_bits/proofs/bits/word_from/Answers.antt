use Rattle.im_bits.proofs.PackedLemmas.{word_of-more}
use Rattle.im_bits.proofs.bits.word_from.Goals as goal

pub loop-i-preserved : goal.loop-i-preserved
loop-i-preserved c =
    word_of-more c.args.width c.args.codes.now c.loop-i.i c.loop-i.word c.from.result c.loop-i-test.true c.requires.few c.requires.fit c.loop-i.invariant
    c.from.ensures
