use Rattle.std.proofs.Common.{◌≡◌, ◌+◌, ◌-◌, ◌<◌, sym, arith}
use Rattle.std.specs.Int.Count.{count_leading_zeros}
use Rattle.std.proofs.lemmas.Nat.{leading_le}
use Rattle.im_column.proofs.SizeLemmas.{width-is}
use Rattle.im_column.proofs.sizes.width_for.Goals as goal

pub returns-clause-width : goal.returns-clause-width
returns-clause-width c =
    let greatest = c.args.greatest in
    let small : greatest < 4294967296 = omega arith in
    let zeros = count_leading_zeros 32 greatest in
    let whole : 32 - zeros + zeros ≡ 32 = omega (arith, leading_le 32 greatest) in
    sym (width-is greatest (32 - zeros) small whole).0

pub returns-clause-fits : goal.returns-clause-fits
returns-clause-fits c =
    let greatest = c.args.greatest in
    let small : greatest < 4294967296 = omega arith in
    let zeros = count_leading_zeros 32 greatest in
    let whole : 32 - zeros + zeros ≡ 32 = omega (arith, leading_le 32 greatest) in
    (width-is greatest (32 - zeros) small whole).1
