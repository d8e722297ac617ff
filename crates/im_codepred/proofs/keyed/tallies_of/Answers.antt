use Rattle.std.proofs.Common.{◌+◌, List, take, subst, sym}
use Rattle.im_codepred.specs.declared.tally.Tally.{Tally}
use Rattle.im_codepred.specs.inner.Tallying.{ShowEach}
use Rattle.im_codepred.proofs.KeyedLemmas.{show-more}
use Rattle.im_codepred.proofs.keyed.tallies_of.Goals as goal

pub loop-group-preserved : goal.loop-group-preserved
loop-group-preserved c =
    let P : List Tally → Type 0 = λ l. ShowEach (take (c.loop-group.group-index + 1) c.args.groups.now) l in
    subst P (sym {A = List Tally} c.in_ok-push.ensures.items)
    (show-more c.args.groups.now c.loop-group.group-index c.group-item.result c.loop-group.tallies.items c.tally.result c.loop-group-test.true
    c.group-item.is c.tally.ensures c.loop-group.invariant)
