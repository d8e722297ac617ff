use Rattle.std.proofs.Common.{◌∙◌, arith}
use Rattle.im_codes.specs.Dictionary.{lent}
use Rattle.im_codes.proofs.NumberingLemmas.{numbered-next, numbered-none, numbered-all, length-lent}
use Rattle.im_codes.proofs.numbering.number_many.Goals as goal

pub loop-value-init : goal.loop-value-init
loop-value-init c = record {
  numbered = rw (c.new-seen.ensures.empty, c.in_ok-numbers.ensures.items) (numbered-none (lent c.args.values.now));
  long = c.in_ok-numbers.ensures.len;
  room = c.in_ok-numbers.ensures.exact;
}

pub loop-value-preserved : goal.loop-value-preserved
loop-value-preserved c = record {
  numbered = rw c.push_reserved.ensures.items
      (numbered-next c.args.values.now (lent c.loop-value.seen.keys) (lent c.number_by_hash.new.seen.keys) c.loop-value.numbers.items
      c.loop-value.value-index c.in_ok-number_by_hash.field-0 c.value-item.result c.loop-value-test.true c.value-item.is
      c.loop-value.invariant.numbered c.in_ok-number_by_hash.ensures);
  long = omega (arith, c.push_reserved.ensures.len, c.loop-value.invariant.long);
  room = c.push_reserved.ensures.capacity ∙ c.loop-value.invariant.room;
}

pub returns : goal.returns
returns c =
    rw (c.in_ok-from_slice.ensures.items, c.as_slice.ensures.keys)
    (numbered-all (lent c.args.values.now) (lent c.loop-value.seen.keys) c.loop-value.numbers.items c.loop-value.value-index
    (omega (arith, length-lent c.args.values.now)) (omega arith) c.loop-value.invariant.numbered)
