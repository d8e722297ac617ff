use Rattle.std.proofs.Common.{◌≡◌, ◌++◌, ◌∷◌, [], List, Option, None, sym, ap, ◌∙◌, append-nil, append_assoc}
use Rattle.std.specs.Option.{option_copied}
use Rattle.std.proofs.lemmas.List.{map_push}
use Rattle.im_history.specs.Rows.{Row}
use Rattle.im_unit.specs.Holding.{lent_slots}
use Rattle.im_worker.specs.inner.Built.{nones}
use Rattle.im_worker.proofs.UnitLemmas.{nones_more, nones_none}
use Rattle.im_worker.proofs.rows.pad.Goals as goal

pub loop-init : goal.loop-init
loop-init g =
    let slots = lent_slots g.args.slots.now.items in
    sym (ap (λ (list : List (Option Row)). slots ++ list) nones_none ∙ append-nil slots)

pub loop-preserved : goal.loop-preserved
loop-preserved g =
    let slots = lent_slots g.args.slots.now.items in
    let pushed : lent_slots g.push.new.self.items ≡ lent_slots g.loop.slots.items ++ None ∷ [] =
    ap lent_slots g.in_ok-push.ensures.items ∙ map_push option_copied g.loop.slots.items None in
    pushed
    ∙ (ap (λ (list : List (Option Row)). list ++ None ∷ []) g.loop.invariant
    ∙ (append_assoc slots (nones g.loop.counter) (None ∷ []) ∙ ap (λ (list : List (Option Row)). slots ++ list) (sym (nones_more g.loop.counter))))
