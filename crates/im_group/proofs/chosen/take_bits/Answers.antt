use Rattle.std.proofs.Common.{ap, arith, sym, subst, ◌∙◌}
use mir.Syntax.{w64}
use Rattle.std.proofs.lemmas.Nat.Bits.{bit_at-trailing_zeros}
use Rattle.im_group.specs.Partials.{key_of}
use Rattle.im_group.specs.inner.Chosen.{share_of, with_row, HasSeen}
use Rattle.im_group.specs.inner.Holding.{own, CanTake}
use Rattle.im_group.proofs.ChosenLaws.{bit-inside, share-inside, share-row, of-row, left-room, left-next, left-none}
use Rattle.im_group.proofs.chosen.take_bits.Goals as goal

pub overflow_add-first : goal.overflow_add-first
overflow_add-first c =
    let share = share_of c.args.rows.now c.args.first in
    let low = bit_at-trailing_zeros w64 c.loop-rest.rest (omega arith) c.loop-rest.auto.rest-fits.fits in
    let inside = share-inside c.args.rows.now c.args.first _ (bit-inside share c.loop-rest.rest _ c.loop-rest.invariant.few low.1) in
    record { fits = omega (arith, inside, c.requires.rows) }

pub values-row-requires : goal.values-row-requires
values-row-requires c =
    let share = share_of c.args.rows.now c.args.first in
    let low = bit_at-trailing_zeros w64 c.loop-rest.rest (omega arith) c.loop-rest.auto.rest-fits.fits in
    share-inside c.args.rows.now c.args.first _ (bit-inside share c.loop-rest.rest _ c.loop-rest.invariant.few low.1)

pub take_grouped-requires-clause-keyed : goal.take_grouped-requires-clause-keyed
take_grouped-requires-clause-keyed c =
    (of-row (HasSeen c.args.seen.columns.now c.args.seen.asked.now) c.args.rows.now _ c.values-row.result c.values-row.ensures c.requires.seen).keyed

pub take_grouped-requires-clause-fits : goal.take_grouped-requires-clause-fits
take_grouped-requires-clause-fits c =
    (of-row (HasSeen c.args.seen.columns.now c.args.seen.asked.now) c.args.rows.now _ c.values-row.result c.values-row.ensures c.requires.seen).fits

pub take_grouped-requires-clause-few : goal.take_grouped-requires-clause-few
take_grouped-requires-clause-few c =
    let columns = c.args.seen.columns.now in
    let asked = c.args.seen.asked.now in
    let share = share_of c.args.rows.now c.args.first in
    let low = bit_at-trailing_zeros w64 c.loop-rest.rest (omega arith) c.loop-rest.auto.rest-fits.fits in
    let inside = bit-inside share c.loop-rest.rest _ c.loop-rest.invariant.few low.1 in
    let row = share-row c.args.rows.now c.args.first _ c.values-row.result inside c.values-row.ensures in
    subst (λ r. CanTake asked (own c.loop-rest.groups.entries) (key_of columns r)) (sym row)
    (left-room columns asked share c.loop-rest.rest _ (own c.loop-rest.groups.entries) _ c.loop-rest.invariant (omega arith) low.1 low.2)

pub loop-rest-preserved : goal.loop-rest-preserved
loop-rest-preserved c =
    let columns = c.args.seen.columns.now in
    let asked = c.args.seen.asked.now in
    let share = share_of c.args.rows.now c.args.first in
    let low = bit_at-trailing_zeros w64 c.loop-rest.rest (omega arith) c.loop-rest.auto.rest-fits.fits in
    let inside = bit-inside share c.loop-rest.rest _ c.loop-rest.invariant.few low.1 in
    let row = share-row c.args.rows.now c.args.first _ c.values-row.result inside c.values-row.ensures in
    left-next columns asked share c.loop-rest.rest _ (own c.loop-rest.groups.entries) (own c.take_grouped.new.groups.entries) _ c.loop-rest.invariant (omega arith)
    low.1 low.2 (c.in_ok-take_grouped.ensures ∙ ap (with_row columns asked (own c.loop-rest.groups.entries)) row)

pub returns : goal.returns
returns c =
    left-none c.args.seen.columns.now c.args.seen.asked.now (share_of c.args.rows.now c.args.first) c.loop-rest.rest (own c.loop-rest.groups.entries) _
    c.loop-rest.invariant c.loop-rest-test.false
