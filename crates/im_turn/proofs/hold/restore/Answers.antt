use Rattle.std.proofs.Common.{◌≡◌, [], rules}
use Rattle.im_turn.specs.inner.Views.{added, returned}
use Rattle.im_turn.proofs.HoldSteps.{free_after}
use Rattle.im_turn.proofs.hold.restore.Goals as goal

-- the pass knows its own entries, with those that it added
pub returns-clause-free : goal.returns-clause-free
returns-clause-free g c =
    let v = g.V.Logged in
    let before = c.args.seat.now.me in
    let after = c.hand_back.new.seat.me in
    let given : after ≡ (returned (added (v.log c.args.v) before.0), []) = search rules in
    free_after v.log v.who v.fixed before after c.args.v c.requires.holder c.requires.own given
