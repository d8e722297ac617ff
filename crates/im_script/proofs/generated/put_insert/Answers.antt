use Rattle.im_script.proofs.Generating.{insert-parts}
use Rattle.im_script.proofs.generated.put_insert.Goals as goal

pub returns : goal.returns
returns c =
    rw (c.in_ok-push.ensures.items, c.in_ok-put_further_rows.ensures, c.in_ok-put_order.ensures, c.in_ok-extend_from_slice.ensures.items)
    (insert-parts c.args.seed c.args.first c.args.count c.args.script.now.items c.requires.some)
