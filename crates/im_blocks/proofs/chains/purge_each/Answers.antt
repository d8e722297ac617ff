use Rattle.std.proofs.Common.{◌≤◌, ap, length, subst, ◌∙◌}
use Rattle.im_blocks.specs.declared.touched.Touched.{Touched}
use Rattle.std.proofs.Common.{List}
use Rattle.im_blocks.proofs.LettingLemmas.{ArePurged-written}
use Rattle.im_blocks.proofs.chains.purge_each.Goals as goal

pub returns : goal.returns
returns c =
    let old = c.args.chains.now.items in
    let lent = c.deref_mut-touched-items.ensures.value in
    ArePurged-written old c.loop-touched.touched-items c.args.floor c.loop-touched.touched-index c.args.chains.now.len c.loop-touched.invariant
    (c.loop-touched.auto.touched-items ∙ ap length lent) c.args.chains.now.ok.0
    (subst (λ (l : List Touched). length l ≤ c.loop-touched.touched-index) lent c.loop-touched-test.false)
