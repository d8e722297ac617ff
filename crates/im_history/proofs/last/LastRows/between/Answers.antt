use Rattle.std.proofs.Common.{sym, ◌∙◌}
use Rattle.im_history.proofs.LastLaws.{at-lookup, range-found}
use Rattle.im_history.proofs.last.LastRows.between.Goals as goal

pub returns-clause-found : goal.returns-clause-found
returns-clause-found c rid from below =
    rw (← c.self.view_is, ← c.deref.ensures)
    (range-found c.deref.result.now.entries c.range.result c.args.first c.args.count (c.range.ensures.between tt) rid from below)

pub returns-clause-each : goal.returns-clause-each
returns-clause-each c k d within =
    let there = (c.range.ensures.in_range tt).0 k d within in
    rw (← c.self.view_is, ← c.deref.ensures) (sym (at-lookup c.deref.result.now.entries _) ∙ there.1)
