use Rattle.std.proofs.Common.{◌≡◌, rules}
use Rattle.im_turn.specs.Passes.{numbers_of}
use Rattle.im_turn.proofs.ForCallers.{all_joined}
use Rattle.check_parts.proofs.turn.a_list_of_passes_joins.Goals as goal

pub close-diary-requires-clause-all_joined : goal.close-diary-requires-clause-all_joined
close-diary-requires-clause-all_joined g c =
    let pass = c.join_all.new.pass in
    let same : numbers_of pass.olds ≡ pass.gave = search rules in
    all_joined pass.olds pass.gave same
