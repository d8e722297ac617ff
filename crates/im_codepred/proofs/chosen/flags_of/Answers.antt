use Rattle.std.proofs.Common.{◌∙◌}
use Rattle.im_codepred.specs.Asked.{is_met}
use Rattle.im_codepred.proofs.FormLemmas.{flags-more, flags-all}
use Rattle.im_codepred.proofs.chosen.flags_of.Goals as goal

pub loop-value-preserved : goal.loop-value-preserved
loop-value-preserved c =
    c.in_ok-push-2.ensures.items
    ∙ flags-more (is_met c.args.wanted c.args.asked.now) c.args.dict.now c.loop-value.value-index c.value-item.result c.loop-value.flags.items
    c.asks-in-loop-value.result c.loop-value-test.true c.value-item.is c.asks-in-loop-value.ensures c.loop-value.invariant

pub returns : goal.returns
returns c =
    flags-all (is_met c.args.wanted c.args.asked.now) c.args.dict.now c.loop-value.value-index c.loop-value.flags.items c.loop-value-test.false
    c.loop-value.invariant
