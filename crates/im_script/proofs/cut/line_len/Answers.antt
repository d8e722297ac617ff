use Rattle.im_script.proofs.Feeds.{feed_at, no_feed}
use Rattle.im_script.proofs.cut.line_len.Goals as goal

pub returns-in-Some-clause-len : goal.returns-in-Some-clause-len
returns-in-Some-clause-len c = feed_at c.args.text.now c.in-Some.place c.in-Some.ensures

pub returns-in-None-clause-len : goal.returns-in-None-clause-len
returns-in-None-clause-len c = no_feed c.args.text.now c.in-None.ensures
