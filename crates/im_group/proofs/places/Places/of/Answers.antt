use Rattle.std.proofs.Common.{List, ℕ, suc, ◌-◌, ◌≡◌, drop, get_or, subst, refl, arith}
use Rattle.im_group.specs.inner.Places.{AreIn}
use Rattle.im_group.proofs.PlaceLaws.{one-more, says-nothing}
use Rattle.im_group.proofs.places.Places.of.Goals as goal

pub loop-at-init : goal.loop-at-init
loop-at-init c = (says-nothing _ _ c.in_ok-places.places.items c.in_ok-places.ensures, omega arith)

pub loop-at-preserved : goal.loop-at-preserved
loop-at-preserved c =
    let columns = c.args.columns.now in
    let at = c.loop-at.at - 1 in
    let next : c.loop-at.at ≡ suc at = omega (arith, c.loop-at-test.true) in (
      one-more columns at (get_or columns at 0) c.loop-at.places.items c.put.new.places.items
          (omega (arith, c.loop-at-test.true, c.loop-at.invariant.1)) refl
          (subst (λ n. AreIn (drop n columns) n c.loop-at.places.items) next c.loop-at.invariant.0) c.put.ensures,
      omega (arith, c.loop-at.invariant.1),
    )

pub returns : goal.returns
returns c =
    let over : c.loop-at.at ≡ 0 = omega (arith, c.loop-at-test.false) in
    subst (λ n. AreIn (drop n c.args.columns.now) n c.loop-at.places.items) over c.loop-at.invariant.0
