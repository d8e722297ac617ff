use Rattle.std.proofs.lemmas.Result.{on_ok_weaker}
use Rattle.im_scan.proofs.PieceLemmas.{goes-each, so-few}
use Rattle.im_scan.proofs.in_place.take_picked.Goals as goal

pub take_chosen-requires-clause-few : goal.take_chosen-requires-clause-few
take_chosen-requires-clause-few c = so-few c.args.asking.now c.args.rows.now c.args.part.now c.requires.few

pub returns-then-bound : goal.returns-then-bound
returns-then-bound c =
    on_ok_weaker c.take_chosen.result (λ goes. goes-each c.args.asking.now c.args.rids.now c.args.rows.now c.args.part.now c.take_chosen.new.self c.requires.long goes)
    c.take_chosen.ensures
