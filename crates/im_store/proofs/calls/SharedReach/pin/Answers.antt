use Rattle.im_history.specs.declared.view.View.{View}
use Rattle.im_store.proofs.CallLemmas.{grew_not, went_since}
use Rattle.im_store.proofs.OwnLaws.{cursor_view-on}
use Rattle.std.proofs.Common.{◌<◌, sym, subst}
use Rattle.im_store.proofs.calls.SharedReach.pin.Goals as goal

pub pin-answer-requires-clause-within : goal.pin-answer-requires-clause-within
pin-answer-requires-clause-within g c =
    subst (λ (view : View). c.args.extent < view.extents)
    (sym (cursor_view-on (went_since c.args.who c.self.view_is c.take-core.ensures.took c.requires.speaks) c.args.cursor)) c.requires.within

pub give-requires-clause-grew : goal.give-requires-clause-grew
give-requires-clause-grew g c =
    grew_not c.take-core.ensures.took c.pin-answer.ensures.same
