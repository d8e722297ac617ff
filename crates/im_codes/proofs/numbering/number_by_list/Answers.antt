use Rattle.std.proofs.Common.{arith}
use Rattle.im_codes.specs.Dictionary.{lent}
use Rattle.im_codes.proofs.NumberingLemmas.{adds-found, adds-new, lent-push, length-lent}
use Rattle.im_codes.proofs.numbering.number_by_list.Goals as goal

pub returns-in-Some : goal.returns-in-Some
returns-in-Some c = adds-found (lent c.args.seen.now.items) c.args.value.now c.in-Some.place (rw c.as_slice-2.ensures.value at c.in-Some.ensures)

pub returns-then-stands_at : goal.returns-then-stands_at
returns-then-stands_at c = adds-found (lent c.args.seen.now.items) c.args.value.now c.args.likely (rw c.as_slice.ensures.value at c.if-stands_at.ensures)

pub returns : goal.returns
returns c =
    let seen = c.args.seen.now in
    rw (c.in_ok-push.ensures.items, lent-push seen.items c.args.value)
    (adds-new (lent seen.items) c.args.value.now c.len-place.result (omega (arith, c.len-place.ensures, length-lent seen.items, seen.ok.0)))
