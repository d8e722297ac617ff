use Rattle.std.proofs.Common.{◌<◌, length, arith}
use Rattle.im_codes.proofs.NumberingLemmas.{found-same, on-true}
use Rattle.im_codes.proofs.numbering.stands_at.Goals as goal

pub returns : goal.returns
returns c =
    let inside : c.args.place < length c.args.seen.now = omega arith in
    on-true c.is_same.result _
    (λ e. found-same c.args.seen.now c.args.place c.index-seen-place.result c.args.value.now inside c.index-seen-place.is (rw e at c.is_same.ensures))
