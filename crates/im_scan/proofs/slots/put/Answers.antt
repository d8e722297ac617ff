use Rattle.std.proofs.Common.{Option, ap, ◌-◌, ◌∙◌}
use Rattle.std.specs.Prelude.{slice_set}
use Rattle.im_history.specs.Rows.{Row}
use Rattle.im_scan.proofs.SlotLemmas.{put-from}
use Rattle.im_scan.proofs.slots.put.Goals as goal

pub returns-then-rid-first-2 : goal.returns-then-rid-first-2
returns-then-rid-first-2 c =
    ap (λ (row : Option Row). slice_set c.args.slots.now (c.args.rid - c.args.first) row) c.values_again.ensures
    ∙ put-from c.args.first c.args.slots.now c.args.rid c.args.row.now c.if-rid-first.true
