use Rattle.im_store.proofs.CallLemmas.{went_since}
use Rattle.im_store.proofs.OtherLaws.{is_cursor_open-on}
use Rattle.im_store.proofs.calls.SharedReach.shut.Goals as goal

pub shut-answer-requires-clause-cursor : goal.shut-answer-requires-clause-cursor
shut-answer-requires-clause-cursor g c =
    is_cursor_open-on (went_since c.args.who c.self.view_is c.take-core.ensures.took c.requires.speaks) c.args.cursor c.requires.cursor
