use Rattle.std.proofs.Common.{arith}
use Rattle.im_codes.specs.Dictionary.{lent}
use Rattle.im_column.proofs.PickLemmas.{length-fresh, short-picked}
use Rattle.im_column.proofs.column.Column.picked.Goals as goal

pub picked_by_codes-requires-clause-short : goal.picked_by_codes-requires-clause-short
picked_by_codes-requires-clause-short c =
    let old = c.args.old.now in
    let fresh = c.args.fresh.now in
    short-picked old (lent fresh) c.args.places.now c.requires.short_old c.requires.short_fresh
    (λ k d within. omega (arith, c.requires.places k d within, length-fresh fresh))

pub build_lent-requires-clause-short : goal.build_lent-requires-clause-short
build_lent-requires-clause-short c =
    let old = c.args.old.now in
    let fresh = c.args.fresh.now in
    rw (c.as_slice-2.ensures.value, c.in_ok-values.ensures)
    (short-picked old (lent fresh) c.args.places.now c.requires.short_old c.requires.short_fresh
    (λ k d within. omega (arith, c.requires.places k d within, length-fresh fresh)))
