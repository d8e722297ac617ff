use Rattle.std.proofs.Common.{◌<◌, length, arith}
use Rattle.im_codes.proofs.NumberingLemmas.{found-same}
use Rattle.im_codes.proofs.numbering.place_among.Goals as goal

pub returns-then-is_same : goal.returns-then-is_same
returns-then-is_same c =
    let inside : c.loop-place.place < length c.args.seen.now = omega arith in
    found-same c.args.seen.now c.loop-place.place c.index-seen-place.result c.args.value.now inside c.index-seen-place.is c.if-is_same.ensures
