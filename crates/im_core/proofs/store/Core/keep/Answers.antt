use Rattle.std.proofs.Common.{arith}
use Rattle.im_core.proofs.HorizonLemmas.{builds-read, session-read}
use Rattle.im_core.proofs.SeenLemmas.{Holds-seen}
use Rattle.im_core.proofs.store.Core.keep.Goals as goal

pub loop-number-preserved : goal.loop-number-preserved
loop-number-preserved g c =
    session-read c.args.self.now.log _ _ c.loop-number.number _ c.loop-number.least _ _ (Holds-seen c.self.invariant c.self.view_is).sessions c.of-who.ensures
    c.snapshot.ensures c.min.ensures c.loop-number.invariant c.least_scn-least.ensures

pub returns : goal.returns
returns g c =
    builds-read _ c.args.self.now.log _ c.loop-number.number c.loop-number.least _ (Holds-seen c.self.invariant c.self.view_is).units
    (omega (arith, c.loop-number-test.false, c.loop-number.auto)) c.loop-number.invariant c.least_scn.ensures
