use Rattle.std.proofs.Common.{List, take, subst, sym}
use Rattle.im_values.specs.declared.content.Content.{Content as Value}
use Rattle.im_blocks.specs.inner.Joining.{AreLaid}
use Rattle.im_blocks.proofs.JoinLemmas.{laid-more, wide-at}
use Rattle.im_blocks.proofs.Places.{take-got}
use Rattle.im_blocks.proofs.joining.lay.Goals as goal

pub loop-at-preserved : goal.loop-at-preserved
loop-at-preserved c =
    let rows = c.args.rows.now in
    let at = c.loop-at.at in
    let row = c.values.result.now in
    subst (λ (rs : List (List Value)). AreLaid c.args.width c.args.values.now.items rs c.put_values.new.values.items)
    (sym (take-got rows at row c.values.ensures))
    (laid-more c.args.width c.args.values.now.items (take at rows) c.loop-at.values.items row c.put_values.new.values.items c.loop-at.invariant
    (wide-at c.args.width rows at row c.requires c.values.ensures) c.in_ok-put_values.ensures)
