use Rattle.std.proofs.Common.{false, []}
use Rattle.im_tables.proofs.FlagLemmas.{IsLeast-first, IsLeast-past}
use Rattle.im_tables.proofs.flags.Flags.first_down.Goals as goal

pub returns-in-Some : goal.returns-in-Some
returns-in-Some c =
    IsLeast-first false c.args.self.now c.args.table c.first_down.result c.in-Some.line.now
    (rw (← c.self.view_is, ← c.deref.ensures.value) (c.in-Some.ensures.lookup.3.1 [])) c.first_down.ensures

pub returns-in-None : goal.returns-in-None
returns-in-None c = IsLeast-past c.args.self.now c.args.table (rw (← c.self.view_is, ← c.deref.ensures.value) c.in-None.ensures.lookup.3)
