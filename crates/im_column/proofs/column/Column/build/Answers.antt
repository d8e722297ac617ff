use Rattle.std.proofs.Common.{ap, length, arith}
use Rattle.im_column.proofs.LendLemmas.{length-lent}
use Rattle.im_column.proofs.column.Column.build.Goals as goal

pub build_lent-requires-clause-few : goal.build_lent-requires-clause-few
build_lent-requires-clause-few c =
    let all = c.in_ok-lent.lent.items in
    rw c.as_slice.ensures.value (omega (arith, length-lent all, ap length c.in_ok-lent.ensures, c.requires.few))

pub build_lent-requires-clause-short : goal.build_lent-requires-clause-short
build_lent-requires-clause-short c = rw (c.as_slice.ensures.value, c.in_ok-lent.ensures) c.requires.short
