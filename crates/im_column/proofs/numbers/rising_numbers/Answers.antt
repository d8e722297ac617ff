use Rattle.std.proofs.Common.{sym, arith}
use Rattle.im_codes.proofs.ForCallers.{dictionary-rising}
use Rattle.im_codes.specs.Dictionary.{whole}
use Rattle.im_column.proofs.SizeLemmas.{rising-plain}
use Rattle.im_column.proofs.ColumnLemmas.{bounded, own-counted}
use Rattle.im_column.proofs.numbers.rising_numbers.Goals as goal

pub as_plain-counted-requires : goal.as_plain-counted-requires
as_plain-counted-requires c =
    let is = rising-plain (whole c.args.numbers.now) c.args.summary.bytes c.requires.rising c.requires.summary.is_bytes in
    rw c.in_ok-kept.ensures (record { shape = is.0; plain = is.1 })

pub assembled-requires-clause-few : goal.assembled-requires-clause-few
assembled-requires-clause-few c =
    rw (c.as_plain-counted.ensures.stands, c.in_ok-kept.ensures) (omega (arith, c.requires.few))

pub assembled-requires-clause-counted : goal.assembled-requires-clause-counted
assembled-requires-clause-counted c =
    own-counted c.in_ok-kept.kept.items c.as_plain-counted.result.kept c.as_plain-counted.result.bytes c.as_plain-counted.ensures

pub assembled-requires-clause-bounds : goal.assembled-requires-clause-bounds
assembled-requires-clause-bounds c =
    let values = whole c.args.numbers.now in
    let rising = c.requires.rising in
    rw (c.as_plain-counted.ensures.stands, c.in_ok-kept.ensures)
    (bounded values values c.in_ok-bounds.bounds c.args.summary.nulls (sym (dictionary-rising values rising.sorted rising.some))
    c.requires.summary.is_nulls (rw (c.as_slice.ensures.value, c.in_ok-kept.ensures) at c.in_ok-bounds.ensures))

pub returns : goal.returns
returns c = rw (c.as_plain-counted.ensures.stands, c.in_ok-kept.ensures) at c.assembled.ensures
