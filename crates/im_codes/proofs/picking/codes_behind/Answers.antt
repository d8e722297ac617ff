use Rattle.std.proofs.Common.{◌<◌, length, sym, arith}
use Rattle.im_values.specs.declared.content.Content.TheVariants.{Null}
use Rattle.im_codes.specs.Dictionary.{lent, coded, values_at}
use Rattle.im_codes.proofs.NumberingLemmas.{got-inside, got-is, lent-at, length-lent}
use Rattle.im_codes.proofs.PickLemmas.{stand-base, stand-behind, stand-end}
use Rattle.im_codes.proofs.picking.codes_behind.Goals as goal

pub loop-i-init : goal.loop-i-init
loop-i-init c = stand-base (lent c.args.fresh.now) (coded c.args.dict.now) c.args.codes.items c.requires

pub loop-i-preserved : goal.loop-i-preserved
loop-i-preserved c =
    let fresh = c.args.fresh.now in
    let dict = coded c.args.dict.now in
    let inside : c.loop-i.i < length fresh = omega arith in
    let value = c.index-fresh-i.result.now in
    let at = lent-at fresh c.loop-i.i c.index-fresh-i.result inside c.index-fresh-i.is value in
    let is = c.in-Some.ensures.there in
    rw c.in_ok-push.ensures.items
    (stand-behind (values_at dict c.args.codes.items) (lent fresh) dict c.loop-i.stock.items c.loop-i.i c.in-Some.code value
    (omega (arith, length-lent fresh, inside)) (sym at) c.loop-i.invariant (got-inside dict c.in-Some.code value is) (got-is dict c.in-Some.code value Null is))

pub returns : goal.returns
returns c =
    let fresh = lent c.args.fresh.now in
    stand-end (values_at (coded c.args.dict.now) c.args.codes.items) fresh (coded c.args.dict.now) c.loop-i.stock.items c.loop-i.i
    (omega (arith, length-lent c.args.fresh.now, c.loop-i-test.false)) c.loop-i.invariant
