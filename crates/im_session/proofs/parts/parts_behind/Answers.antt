use Rattle.std.proofs.Common.{sym, subst}
use Rattle.im_session.specs.inner.Pins.{IsBefore}
use Rattle.im_session.proofs.PinLemmas.{before-kept}
use Rattle.im_session.proofs.parts.parts_behind.Goals as goal

pub with_parts-requires-clause-before : goal.with_parts-requires-clause-before
with_parts-requires-clause-before g c =
    subst (IsBefore c.args.cursor.now.bound c.args.cursor.now.view c.args.cursor.now.next) (sym c.in_ok-before.ensures)
    (before-kept c.args.cursor.now c.requires.left.0 c.args.pins.now c.requires.left.1)
