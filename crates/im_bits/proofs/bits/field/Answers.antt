use Rattle.std.proofs.Common.{◌≡◌, ◌*◌, ◌%◌, ◌^◌, arith}
use Rattle.std.proofs.lemmas.Nat.{and_mask, one_shl}
use Rattle.im_bits.proofs.bits.field.Goals as goal

pub returns : goal.returns
returns c =
    let mask : (1 * 2 ^ c.args.width) % 18446744073709551616 ≡ 2 ^ c.args.width = one_shl c.args.width 64 (omega arith) in
    rw mask (and_mask _ c.args.width)
