use Rattle.im_script.proofs.Generating.{commit-parts}
use Rattle.im_script.proofs.generated.put_transaction.Goals as goal

pub returns : goal.returns
returns c =
    rw (c.in_ok-extend_from_slice.ensures.items, c.in_ok-put_inserts.ensures) (commit-parts c.args.seed c.args.first c.args.count c.args.script.now.items)
