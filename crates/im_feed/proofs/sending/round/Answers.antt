use Rattle.im_feed.specs.Passes.{pushed}
use Rattle.im_feed.proofs.FirstLemmas.{first-found, lawful-first}
use Rattle.im_feed.proofs.sending.round.Goals as goal

pub offer-requires-clause-lawful : goal.offer-requires-clause-lawful
offer-requires-clause-lawful g c =
    let old = g.H.Reach.known c.args.reach.now in
    let new = g.H.Reach.known c.member.new.self in
    lawful-first new.limits new.log _ _ c.in-Ok-Member.ensures.lawful
    (first-found old new c.args.tally.now.sent (pushed c.args.pass.now) c.in-Ok-Member.member _ c.requires.first (rw c.in-Ok-Member.field-0-is at c.in-Ok-Member.ensures.ok))
