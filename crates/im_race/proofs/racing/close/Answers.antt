use Rattle.im_turn.proofs.ForCallers.{all_joined}
use Rattle.im_race.proofs.ClosingLemmas.{closed, joined-numbers}
use Rattle.im_race.proofs.racing.close.Goals as goal

pub close-core-requires-clause-all_joined : goal.close-core-requires-clause-all_joined
close-core-requires-clause-all_joined c =
    all_joined c.join_all.new.pass.olds c.join_all.new.pass.gave
    (joined-numbers c.args.first c.join_all.new.pass c.args.passes.items c.requires.none_joined c.join_all.ensures.pass c.requires.numbers)

pub returns : goal.returns
returns c =
    closed c.args.first c.join_all.new.pass c.args.passes.items c.close-core.result.limits
    c.close-core.result.log c.into_history.result.entries c.requires.first
    c.requires.none_joined c.join_all.ensures.pass c.join_all.ensures.begins c.join_all.ensures.others_begin c.close-core.ensures.seen
    c.close-core.ensures.own c.close-core.ensures.olds c.close-core.ensures.no_others c.close-core.ensures.limits c.known.ensures c.into_history.ensures
