use Rattle.std.proofs.Common.{◌<◌, All, subst, arith}
use Rattle.std.proofs.lemmas.List.{take_all}
use Rattle.std.proofs.lemmas.List.Elements.{All-more}
use Rattle.check_parts.proofs.codes.are_before.Goals as goal

pub loop-place-preserved : goal.loop-place-preserved
loop-place-preserved c =
    All-more (λ place. place < c.args.end) c.args.places.now c.loop-place.place-index 0 c.loop-place-test.true c.loop-place.invariant c.if-place-end.false

pub returns : goal.returns
returns c =
    subst (All (λ place. place < c.args.end)) (take_all c.loop-place.place-index c.args.places.now (omega arith)) c.loop-place.invariant
