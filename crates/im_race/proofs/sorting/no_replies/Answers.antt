use Rattle.std.proofs.Common.{◌∙◌}
use Rattle.im_race.proofs.OutcomesLemmas.{no_replies-push}
use Rattle.im_race.proofs.sorting.no_replies.Goals as goal

pub loop-preserved : goal.loop-preserved
loop-preserved c =
    no_replies-push c.loop.replies.items c.push.new.self.items c.loop.counter c.of.result c.loop.invariant (c.of.ensures ∙ c.new.ensures.items)
    c.in_ok-push.ensures.items
