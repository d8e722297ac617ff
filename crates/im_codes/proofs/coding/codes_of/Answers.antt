use Rattle.std.proofs.Common.{◌<◌, ◌≤◌, length, Contains, sym, arith, ◌∙◌}
use Rattle.im_codes.specs.Dictionary.{lent, coded}
use Rattle.im_values.specs.declared.content.Content.TheVariants.{Null}
use Rattle.im_codes.proofs.NumberingLemmas.{stand-more, stand-none, stand-all, got-inside, got-is, lent-at, length-lent, coded-held}
use Rattle.im_codes.proofs.coding.codes_of.Goals as goal

pub loop-i-init : goal.loop-i-init
loop-i-init c = record {
  codes = rw c.in_ok-codes.ensures.items (stand-none (lent c.args.seen.now) (coded c.args.dict.now));
  long = c.in_ok-codes.ensures.len;
  room = c.in_ok-codes.ensures.exact;
}

pub code_near-requires : goal.code_near-requires
code_near-requires c =
    let seen = c.args.seen.now in
    let inside : c.loop-i.i < length seen = omega arith in
    let value = c.index-seen-i.result.now in
    let at = lent-at seen c.loop-i.i c.index-seen-i.result inside c.index-seen-i.is value in
    let held : Contains (lent seen) value = (c.loop-i.i, omega (arith, length-lent seen), at) in
    coded-held (lent seen) c.args.dict.now value c.requires.dictionary held

pub loop-i-preserved : goal.loop-i-preserved
loop-i-preserved c =
    let seen = c.args.seen.now in
    let inside : c.loop-i.i < length seen = omega arith in
    let value = c.index-seen-i.result.now in
    let at = lent-at seen c.loop-i.i c.index-seen-i.result inside c.index-seen-i.is value in
    let dict = coded c.args.dict.now in
    let is = c.code_near.ensures in
    record {
      codes = rw c.push_reserved.ensures.items
          (stand-more (lent seen) dict c.loop-i.codes.items c.loop-i.i c.code_near.result value (omega (arith, length-lent seen)) (sym at)
          c.loop-i.invariant.codes (got-inside dict c.code_near.result value is) (got-is dict c.code_near.result value Null is));
      long = omega (arith, c.push_reserved.ensures.len, c.loop-i.invariant.long);
      room = c.push_reserved.ensures.capacity ∙ c.loop-i.invariant.room;
    }

pub returns : goal.returns
returns c =
    let past : length (lent c.args.seen.now) ≤ c.loop-i.i = omega (arith, length-lent c.args.seen.now, c.loop-i-test.false) in
    stand-all (lent c.args.seen.now) (coded c.args.dict.now) c.loop-i.codes.items c.loop-i.i past c.loop-i.invariant.codes
