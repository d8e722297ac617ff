use Rattle.im_scan.specs.Faces.{unit_of}
use Rattle.im_scan.proofs.SlotLemmas.{unit_rows-more}
use Rattle.im_scan.proofs.slots.shown_rows.Goals as goal

pub loop-rid-preserved : goal.loop-rid-preserved
loop-rid-preserved c =
    unit_rows-more (unit_of c.args.face) c.args.first c.loop-rid.rid c.shown.result c.loop-rid.slots.items c.push.new.self.items
    c.loop-rid.auto.rid c.loop-rid.invariant c.shown.ensures c.in_ok-push.ensures.items
