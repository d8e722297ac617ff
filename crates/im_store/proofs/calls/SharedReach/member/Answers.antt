use Rattle.std.proofs.Common.{refl}
use Rattle.im_store.proofs.CallLemmas.{grew_not}
use Rattle.im_store.proofs.calls.SharedReach.member.Goals as goal

pub give-requires-clause-grew : goal.give-requires-clause-grew
give-requires-clause-grew g c = grew_not c.take-core.ensures.took refl
