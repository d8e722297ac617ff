use Rattle.std.proofs.Common.{◌≡◌, true, []}
use Rattle.std.proofs.lemmas.Option.{IfSome_then}
use Rattle.im_tables.specs.Table.{row_of}
use Rattle.im_tables.proofs.FlagLemmas.{IsLeast-first, NoneUp-down, NoneUp-past}
use Rattle.im_tables.proofs.flags.Flags.first_up.Goals as goal

pub returns-in_err-get-clause-none : goal.returns-in_err-get-clause-none
returns-in_err-get-clause-none c _ = NoneUp-past c.args.self.now c.args.table (rw (← c.self.view_is, ← c.deref.ensures.value) c.in_err-get.ensures.lookup.3)

pub returns-clause-up : goal.returns-clause-up
returns-clause-up c =
    let line : c.in_ok-get.field-0.now ≡ row_of c.args.self.now c.args.table =
    rw (← c.self.view_is, ← c.deref.ensures.value) (c.in_ok-get.ensures.lookup.3.1 []) in
    IfSome_then c.first_up.result c.first_up.ensures.up (λ number first.
    IsLeast-first true c.args.self.now c.args.table number c.in_ok-get.field-0.now line first)

pub returns-clause-none : goal.returns-clause-none
returns-clause-none c is =
    NoneUp-down c.args.self.now c.args.table c.in_ok-get.field-0.now
    (rw (← c.self.view_is, ← c.deref.ensures.value) (c.in_ok-get.ensures.lookup.3.1 [])) (c.first_up.ensures.none is)
