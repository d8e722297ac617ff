use Rattle.std.proofs.lemmas.Result.{on_ok_weaker}
use Rattle.im_history.specs.Puts.{all_changes}
use Rattle.im_directory.proofs.NotingLemmas.{HasNotesRoom-made, TellsAlike-trans, TellsAlike-uncounted}
use Rattle.im_directory.proofs.shelves.Shelves.make_room.Goals as goal

pub returns-clause-same : goal.returns-clause-same
returns-clause-same g c =
    TellsAlike-trans _ _ _ (TellsAlike-uncounted _ _ c.args.tables.now (all_changes c.args.writes.now) c.uncount_all.ensures) c.count_all.ensures.same

pub returns-clause-room : goal.returns-clause-room
returns-clause-room g c =
    on_ok_weaker c.count_all.result (HasNotesRoom-made _ _ _ c.args.tables.now (all_changes c.args.writes.now) c.uncount_all.ensures) c.count_all.ensures.counted
