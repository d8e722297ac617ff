use Rattle.std.proofs.Common.{refl}
use Rattle.im_blocks.proofs.PageLemmas.{StayShown-set, StayShown-trans, StayShown-within}
use Rattle.im_blocks.proofs.pages.renew.Goals as goal

pub is_due-requires : goal.is_due-requires
is_due-requires c = record { below = rw c.count.ensures at c.if-number-count.false }

pub returns-then-not-is_due : goal.returns-then-not-is_due
returns-then-not-is_due c = StayShown-within c.args.versions.now c.args.pages.now c.is_due.new.pages c.is_due.ensures.within

pub returns-in_err-image : goal.returns-in_err-image
returns-in_err-image c = StayShown-within c.args.versions.now c.args.pages.now c.is_due.new.pages c.is_due.ensures.within

pub returns : goal.returns
returns c =
    let read = c.is_due.new.pages in
    StayShown-trans c.args.versions.now c.args.pages.now read _
    (StayShown-within c.args.versions.now c.args.pages.now read c.is_due.ensures.within)
    (StayShown-set c.args.versions.now read c.args.asked.table c.args.number _ c.in_ok-image.image c.is_due.ensures.there refl c.in_ok-image.ensures)
