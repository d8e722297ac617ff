use Rattle.std.proofs.Common.{◌≡◌, false, [], sym, ◌∙◌}
use Rattle.im_tables.specs.Table.{row_of}
use Rattle.im_tables.proofs.FlagLemmas.{flags-past}
use Rattle.im_tables.proofs.GrowthLemmas.{cell_at-row}
use Rattle.im_tables.proofs.flags.Flags.get.Goals as goal

pub returns-in-Some : goal.returns-in-Some
returns-in-Some c =
    let line : c.in-Some.line.now ≡ row_of c.args.self.now c.args.table = rw (← c.self.view_is, ← c.deref.ensures.value) (c.in-Some.ensures.lookup.3.1 []) in
    c.get-in-Some.ensures ∙ cell_at-row false c.args.self.now c.args.table c.args.number c.in-Some.line.now line

pub returns-in-None : goal.returns-in-None
returns-in-None c =
    sym (flags-past c.args.self.now c.args.table c.args.number (rw (← c.self.view_is, ← c.deref.ensures.value) c.in-None.ensures.lookup.3))
