use Rattle.std.proofs.Common.{◌<◌, length, slice_index_or, subst, arith}
use Rattle.std.proofs.lemmas.Option.{slice_get-get_or}
use Rattle.im_scan.proofs.PieceLemmas.{each-more, few-each}
use Rattle.im_scan.proofs.in_place.take_apart.Goals as goal

pub take_at-requires-clause-few : goal.take_at-requires-clause-few
take_at-requires-clause-few c =
    few-each c.args.asking.now c.args.rids.now c.loop-at.at c.args.rows.now c.args.part.now c.loop-at.part c.requires.long c.requires.few
    (subst (λ n. c.loop-at.at < n) c.len-at-end.ensures c.loop-at-test.true) c.loop-at.invariant

pub loop-at-preserved : goal.loop-at-preserved
loop-at-preserved c =
    let rids = c.args.rids.now in
    let at = c.loop-at.at in
    let inside : at < length rids = omega (arith, c.loop-at-test.true, c.len-at-end.ensures, c.requires.long) in
    each-more c.args.asking.now rids at (slice_index_or rids at 0) c.args.rows.now c.args.part.now c.loop-at.part c.take_at.new.part c.requires.long
    (slice_get-get_or rids at 0 inside) c.loop-at.invariant c.in_ok-take_at.ensures
