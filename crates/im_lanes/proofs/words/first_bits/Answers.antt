use Rattle.std.proofs.Common.{◌≡◌, ◌*◌, ◌%◌, ◌^◌, sym, arith, mod-eq_of_lt, lt_of_lt_of_le}
use Rattle.std.proofs.Math.Nat.{pow-le-pow_right}
use Rattle.std.proofs.lemmas.Nat.{and_mask, one_shl}
use Rattle.im_lanes.proofs.words.first_bits.Goals as goal

pub returns-then-left-ge64 : goal.returns-then-left-ge64
returns-then-left-ge64 c = sym (mod-eq_of_lt (lt_of_lt_of_le c.ranges.word.fits (pow-le-pow_right (omega arith) c.if-left-ge64.true)))

pub returns : goal.returns
returns c =
    let mask : (1 * 2 ^ c.args.left) % 18446744073709551616 ≡ 2 ^ c.args.left = one_shl c.args.left 64 c.if-left-ge64.false in
    rw mask (and_mask _ c.args.left)
