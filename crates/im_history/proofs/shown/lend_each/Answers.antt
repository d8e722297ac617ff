use Rattle.std.proofs.Common.{◌<◌, length, slice_index_or, arith}
use Rattle.std.proofs.lemmas.Option.{slice_get-get_or}
use Rattle.im_history.proofs.FetchedLaws.{lent-each}
use Rattle.im_history.proofs.shown.lend_each.Goals as goal

pub loop-at-preserved : goal.loop-at-preserved
loop-at-preserved c =
    let rids = c.args.rids.now in
    let at = c.loop-at.at in
    let inside : at < length rids = omega (arith, c.loop-at-test.true, c.len-at-end.ensures, c.requires) in
    lent-each c.args.rows.now.items c.loop-at.rows.items c.push.new.self.items rids c.args.run.now at (slice_index_or rids at 0) c.values.result
    c.requires (slice_get-get_or rids at 0 inside) c.values.ensures c.loop-at.invariant c.in_ok-push.ensures.items
