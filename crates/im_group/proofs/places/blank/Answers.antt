use Rattle.std.proofs.Common.{subst, sym, ap, ◌∙◌}
use Rattle.im_group.specs.inner.Places.{SaysNothing}
use Rattle.im_group.proofs.PlaceLaws.{empty-says, pushed-says}
use Rattle.im_group.proofs.places.blank.Goals as goal

pub loop-init : goal.loop-init
loop-init c = subst SaysNothing (sym c.in_ok-places.ensures.items) empty-says

pub loop-preserved : goal.loop-preserved
loop-preserved c = subst SaysNothing (sym c.in_ok-push.ensures.items) (pushed-says c.loop.places.items c.loop.invariant)
