use Rattle.std.proofs.Common.{subst}
use Rattle.im_session.specs.declared.serving.Wanted.{Wanted}
use Rattle.im_session.specs.inner.Pins.{HasLeft}
use Rattle.im_session.proofs.serving.wanted_part.Goals as goal

pub parts_behind-requires-clause-left : goal.parts_behind-requires-clause-left
parts_behind-requires-clause-left g c κs within =
    subst (λ (wanted : Wanted). HasLeft wanted c.args.cursor.now c.args.pins.now) c.in-Parts.is c.requires.left
