use Rattle.im_syntax.specs.BoundQuery.{is_listed}
use Rattle.im_names.proofs.MapLemmas.{range_goes}
use Rattle.im_names.proofs.queries.marks_of.Goals as goal

pub loop-column-preserved : goal.loop-column-preserved
loop-column-preserved c =
    range_goes (is_listed c.args.groups.now) c.loop-column.column c.loop-column.marks.items c.push.new.self.items c.is_listed.result
    c.is_listed.ensures c.in_ok-push.ensures.items c.loop-column.invariant
